use Rattle.std.proofs.Common.{length, refl, ap, ◌∙◌, arith}
use Rattle.std.proofs.lemmas.Option.{slice_get_read}
use Rattle.elf_image.specs.inner.Runs.{Runs}
use Rattle.elf_image.proofs.Noted.{noted_at}
use Rattle.elf_image.proofs.runs.EntryRuns.run.Goals as goal

pub returns-in-Some-clause-runs : goal.returns-in-Some-clause-runs
returns-in-Some-clause-runs c = λ test are k few.
    let is = c.in-Some.ensures.lookup in
    let xs = c.deref.result.now in
    noted_at test c.args.self.now xs c.self.inside.end c.args.at k c.in-Some.length.now
    (ap (λ (r : Runs). r.end) c.self.view_is) (c.deref.ensures.value ∙ ap (λ (r : Runs). r.lengths) c.self.view_is)
    (omega (arith, c.if-at-self.false)) (slice_get_read xs (length xs) _ c.in-Some.length.now refl is.3.0 is.1) are few
