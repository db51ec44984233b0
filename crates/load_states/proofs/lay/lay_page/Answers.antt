use Rattle.std.proofs.Common.{◌≡◌, sym, subst}
use Rattle.std.specs.Prelude.{Some}
use Rattle.kx_pages.specs.Bytes.{page_of}
use Rattle.page_memory.specs.Contents.{Contents, at}
use Rattle.page_memory.specs.inner.Contents.{IsHeld}
use Rattle.segments.specs.Values.{want}
use Rattle.load_states.specs.inner.Laying.{Lays}
use Rattle.load_states.proofs.Laying.{lays_page, right_page, set_holds}
use Rattle.load_states.proofs.lay.lay_page.Goals as goal

pub returns-in-Some : goal.returns-in-Some
returns-in-Some c =
    let S = c.args.segments.now in
    let m = c.args.memory.now in
    let bytes = page_of c.in-Some.bytes.now in
    record {
      lays = subst (λ (n : Contents). Lays S (at m) (at n)) (sym c.set.ensures.value) (lays_page S m c.args.page bytes c.in-Some.ensures.filled);
      right = λ h. subst (λ (n : Contents). want S c.args.page ≡ Some (at n c.args.page)) (sym c.set.ensures.value) (right_page S m c.args.page bytes c.in-Some.ensures.filled);
      stay = c.set.ensures.stay;
      only = λ q h. set_holds m c.args.page bytes q c.requires (subst (λ (n : Contents). IsHeld n q) c.set.ensures.value h);
    }
