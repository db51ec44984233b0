use Rattle.std.proofs.Common.{◌++◌, ◌∷◌, [], ap, ◌∙◌}
use Rattle.elf_image.specs.inner.Runs.{Runs}
use Rattle.elf_image.proofs.Noted.{one_noted}
use Rattle.elf_image.proofs.runs.EntryRuns.push.Goals as goal

pub returns-clause-runs : goal.returns-clause-runs
returns-clause-runs c = λ test are here.
    one_noted test c.args.self.now _ c.args.passes c.next-length.result c.requires
    (ap (λ (r : Runs). r.end) c.self.view_is)
    (c.in_ok-push.ensures.items ∙ ap (λ (r : Runs). r.lengths ++ c.next-length.result ∷ []) c.self.view_is)
    c.next-length.ensures.fails c.next-length.ensures.few c.next-length.ensures.many are here
