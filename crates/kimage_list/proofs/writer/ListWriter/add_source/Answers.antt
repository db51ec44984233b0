use Rattle.std.proofs.Common.{◌≡◌, ℕ, ◌∙◌, ◌+◌, Some, sym, subst, ap, refl}
use Rattle.kx_pages.specs.Bytes.{page_of}
use Rattle.kimage_list.specs.inner.Writers.{History, Writer, StandsAt, IsAwaited, with_source, draft_of}
use Rattle.kimage_list.specs.inner.Calls.{writer_of}
use Rattle.kimage_list.proofs.Awaiting.{awaited_waits, rebytes, source_ready, source_added, given_bytes, is_next}
use Rattle.kimage_list.proofs.Standings.{starts_few}
use Rattle.kimage_list.proofs.writer.ListWriter.add_source.Goals as goal
use Rattle.kx_laws.proofs.Options.{some_same}

-- the destination page is the awaited one
here : (w v : Writer) (n d : ℕ) → v ≡ w → w.destination ≡ Some d → IsAwaited w d → v.destination ≡ Some n → IsAwaited v n
here w v n d e f a g =
    let same : d ≡ n = some_same d n (sym f ∙ ap (λ x. x.destination) (sym e) ∙ g) in
    subst (λ x. IsAwaited x n) (sym e) (subst (IsAwaited w) same a)

pub from_number-requires : goal.from_number-requires
from_number-requires c =
    let r = c.requires.destination in
    let w : Writer = writer_of c.self.inside in
    (awaited_waits c.self.invariant.0 w c.self.invariant.1 c.in-Some.number (here c.args.self.now w c.in-Some.number r.0 c.self.view_is r.1 r.2 c.in-Some.is)).low

pub load_page-requires-clause-ready : goal.load_page-requires-clause-ready
load_page-requires-clause-ready c =
    let h = c.self.invariant.0 in
    let s = c.self.invariant.1 in
    let r = c.requires.destination in
    let w : Writer = writer_of c.self.inside in
    let p = c.from_number.result in
    let b = page_of c.args.bytes.now in
    let a = awaited_waits h w s p (here c.args.self.now w p r.0 c.self.view_is r.1 r.2 (c.in-Some.is ∙ ap (λ n. Some n) (sym c.from_number.ensures))) in
    let o = rebytes h s.loading w p b a.new s.inside in
    let k = source_ready (given_bytes h p b) s.loading w o (starts_few h w s) p (record { wanted = a.wanted; new = a.new; low = a.low }) in
    (draft_of (given_bytes h p b) s.loading o.first o.links, draft_of (given_bytes h p b) k.room.then o.first k.room.more, k.page, o.writes, k.room.room, k.can, is_next h k.room.then o.first k.room.more p c.args.bytes.now a)

-- one page more is loaded
stands_after_step : (c : goal.After-self-1) (h : History) → StandsAt h (writer_of c.self.inside)
    → StandsAt (with_source h c.from_number.result (page_of c.args.bytes.now)) (writer_of (record { list = c.load_page.new.self; control = c.self.inside.control; mode = c.self.inside.mode; segments_left = c.self.inside.segments_left; destination = Some (c.in-Some.number + 1) }))
stands_after_step c h s =
    let r = c.requires.destination in
    let w : Writer = writer_of c.self.inside in
    let v : Writer = writer_of (record { list = c.load_page.new.self; control = c.self.inside.control; mode = c.self.inside.mode; segments_left = c.self.inside.segments_left; destination = Some (c.in-Some.number + 1) }) in
    let p = c.from_number.result in
    let b = page_of c.args.bytes.now in
    let a = awaited_waits h w s p (here c.args.self.now w p r.0 c.self.view_is r.1 r.2 (c.in-Some.is ∙ ap (λ n. Some n) (sym c.from_number.ensures))) in
    let o = rebytes h s.loading w p b a.new s.inside in
    let k = source_ready (given_bytes h p b) s.loading w o (starts_few h w s) p (record { wanted = a.wanted; new = a.new; low = a.low }) in
    let d = draft_of (given_bytes h p b) s.loading o.first o.links in
    let e = draft_of (given_bytes h p b) k.room.then o.first k.room.more in
    let x = c.load_page.ensures.written d e k.page o.writes k.room.room k.can (is_next h k.room.then o.first k.room.more p c.args.bytes.now a) in
    source_added (given_bytes h p b) s.loading w v o p k s.requests s.segments_left x.0 x.1 (c.load_page.ensures.head d e k.page o.writes k.room.room k.can o.head) refl refl refl (ap (λ n. Some (n + 1)) (sym c.from_number.ensures))

pub invariant_of-self : goal.invariant_of-self
invariant_of-self c = (with_source c.self.invariant.0 c.from_number.result (page_of c.args.bytes.now), stands_after_step c c.self.invariant.0 c.self.invariant.1)

pub returns-clause-stands : goal.returns-clause-stands
returns-clause-stands c = λ h d e t.
    let same : d ≡ c.from_number.result = some_same d c.from_number.result (sym e ∙ ap (λ x. x.destination) (sym c.self.view_is) ∙ c.in-Some.is ∙ ap (λ n. Some n) (sym c.from_number.ensures)) in
    let v : Writer = writer_of (record { list = c.load_page.new.self; control = c.self.inside.control; mode = c.self.inside.mode; segments_left = c.self.inside.segments_left; destination = Some (c.in-Some.number + 1) }) in
    subst (λ n. StandsAt (with_source h n (page_of c.args.bytes.now)) v) (sym same) (stands_after_step c h (subst (StandsAt h) (sym c.self.view_is) t))
