use Rattle.std.proofs.Common.{◌≡◌, ◌≤◌, ◌-◌, ◌*◌, arith, sym, ap, ◌∙◌, length, take, drop}
use Rattle.std.proofs.lemmas.List.{take_all}
use Rattle.segments.proofs.segment.Segment.page_bytes.Goals as goal

pub returns-then-rest-lt4096-clause-value : goal.returns-then-rest-lt4096-clause-value
returns-then-rest-lt4096-clause-value c =
    let now = c.args.self.now in
    let rest = c.split_at.result.1.now in
    let mem : c.self.inside.mem ≡ now.mem = ap (λ s. s.mem) c.self.view_is in
    let bytes : c.self.inside.bytes.items ≡ now.bytes = ap (λ s. s.bytes) c.self.view_is in
    let e : rest ≡ drop (4096 * c.args.number - now.mem) now.bytes =
    c.split_at.ensures.back ∙ ap (drop (c.args.number * 4096 - c.self.inside.mem)) (c.deref.ensures.value ∙ bytes) ∙ ap (λ x. drop x now.bytes) (omega (arith, mem)) in
    let l : length rest ≤ 4096 = omega arith in
    sym (take_all 4096 rest l) ∙ ap (take 4096) e
