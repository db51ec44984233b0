use Rattle.std.proofs.Common.{◌≡◌, ◌∙◌, List, Option, None, ap, sym, subst}
use Rattle.std.specs.List.{find}
use Rattle.kx_pages.specs.Spans.{AreApart, Run, in_spans}
use Rattle.page_memory.specs.Contents.{at}
use Rattle.page_pool.specs.Pages.{usable_of}
use Rattle.image_slots.specs.Pages.{in_area}
use Rattle.image_slots.specs.Sequences.{fresh}
use Rattle.image_slots.specs.Soundness.{Meets}
use Rattle.image_slots.specs.inner.States.{state_of}
use Rattle.load_commands.proofs.drill.slots_over.Goals as goal

pub returns-in-Ok : goal.returns-in-Ok
returns-in-Ok c =
    let area = c.reserved_area.ensures in (
      c.in_ok-ram.ram,
      record {
        apart = subst (λ (ram : List Run). AreApart 0 ram) (sym c.in_ok-ram.ensures) c.spans-spans.ensures.apart;
        pages = λ p. ap (λ (ram : List Run). in_spans ram p) c.in_ok-ram.ensures ∙ c.ram-pages.ensures p;
      },
      subst (λ (a : Option Run). find (in_area a) (usable_of c.args.pool) ≡ None) area c.in-Ok.ensures.apart,
      ap state_of c.in-Ok.ensures.made ∙ ap (λ (a : Option Run). fresh (at c.args.memory) (usable_of c.args.pool) c.in_ok-ram.ram a) area,
    )

pub returns : goal.returns
returns c =
    rw c.refused.ensures (subst (λ (a : Option Run). Meets (find (in_area a) (usable_of c.args.pool)) c.in-Err.refused.why) c.reserved_area.ensures c.in-Err.ensures.meets)
