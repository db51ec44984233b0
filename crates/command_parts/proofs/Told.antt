-- What is told of a run, in the words of its list.
use Rattle.std.proofs.Common.{◌≡◌, ◌∙◌, ◌++◌, Option, Some, None, ap, refl}
use Rattle.kx_pages.specs.declared.image.Start.{Start}
use Rattle.page_memory.specs.Contents.{at}
use Rattle.kx_pages.specs.Bytes.{Mem}
use Rattle.page_memory.specs.Memory.{Agree}
use Rattle.kexec_words.specs.declared.commands.Runs.{Runs}
use Rattle.kexec_words.specs.declared.commands.Runs.TheVariants.{Once, Twice}
use Rattle.load_states.specs.States.{Checked}
use Rattle.command_parts.specs.declared.running.Ran.{Ran}
use Rattle.command_parts.specs.declared.startup.Startup.{Startup}
use Rattle.command_parts.specs.Runs.{after_runs, list_text, run_text}
use Rattle.command_parts.specs.inner.Ran.{HasRun, last_line, ran_text, second_steps}
use Rattle.command_parts.specs.Texts.{load_lines, purgatory_line, ran_line}

first_text : (runs : Option Runs) (c : Checked) (r : Ran) (start : Start) → HasRun runs c r → load_lines r.counts.words r.counts.links r.counts.pairs r.image start ++ ran_line r.steps ≡ list_text c start ++ ran_line c.words
first_text runs c r start h = rw (h.words, h.links, h.pairs, h.image, h.ends) refl

-- memories that agree are one
pub one_memory : (N M : Mem) → Agree N M → N ≡ M
one_memory N M h = λ i p. h p i

by_runs : (runs : Option Runs) (c : Checked) (s : Startup)
    → last_line (second_steps runs c.words) (list_text c s.start ++ ran_line c.words) (purgatory_line (after_runs runs c) s.purgatory) ≡ run_text runs c s
by_runs None c s = refl
by_runs (Some Once) c s = refl
by_runs (Some Twice) c s = refl

-- the text of a run is that of its list and its runs
pub text_of : (runs : Option Runs) (c : Checked) (r : Ran) (s : Startup) → HasRun runs c r → ran_text r s ≡ run_text runs c s
text_of runs c r s h =
    ap (λ second. last_line second (load_lines r.counts.words r.counts.links r.counts.pairs r.image s.start ++ ran_line r.steps) (purgatory_line (at r.memory) s.purgatory)) h.ends_again
    ∙ ap (λ text. last_line (second_steps runs c.words) text (purgatory_line (at r.memory) s.purgatory)) (first_text runs c r s.start h)
    ∙ ap (λ N. last_line (second_steps runs c.words) (list_text c s.start ++ ran_line c.words) (purgatory_line N s.purgatory)) (one_memory (at r.memory) (after_runs runs c) h.memory)
    ∙ by_runs runs c s
