-- Loads that read alike: what their runs leave and say is the same.
use Rattle.std.proofs.Common.{◌≡◌, ◌++◌, length, Option, Some, None}
use Rattle.kx_pages.specs.declared.image.Start.{Start}
use Rattle.load_states.specs.inner.Runs.{IsSameCheck, IsSameLoad}
use Rattle.load_states.specs.States.{Checked}
use Rattle.kexec_words.specs.declared.commands.Runs.{Runs}
use Rattle.kexec_words.specs.declared.commands.Runs.TheVariants.{Once, Twice}
use Rattle.command_parts.specs.declared.startup.Startup.{Startup}
use Rattle.command_parts.specs.Runs.{after_runs, list_text, run_text}
use Rattle.command_parts.specs.Texts.{load_lines, purgatory_line, ran_line}
use Rattle.load_states.specs.Ready.{Told}
use Rattle.load_states.proofs.Alike.{tells_alike}

pub same_after : (runs : Option Runs) (c d : Checked) → IsSameCheck c d → after_runs runs d ≡ after_runs runs c
same_after None c d s = s.plain
same_after (Some Once) c d s = s.once
same_after (Some Twice) c d s = s.twice

same_list : (c d : Checked) (start : Start) → IsSameCheck c d → d.load.image ≡ c.load.image → list_text d start ≡ list_text c start
same_list c d start s image = λ i. load_lines (s.words i) (s.links i) (length (s.pairs i)) (image i) start

pub same_text : (runs : Option Runs) (c d : Checked) (t : Startup) → IsSameCheck c d → d.load.image ≡ c.load.image → run_text runs d t ≡ run_text runs c t
same_text None c d t s image = λ i. (same_list c d t.start s image i ++ ran_line (s.words i)) ++ purgatory_line (s.plain i) t.purgatory
same_text (Some Once) c d t s image = λ i. (same_list c d t.start s image i ++ ran_line (s.words i)) ++ purgatory_line (s.once i) t.purgatory
same_text (Some Twice) c d t s image = λ i. (same_list c d t.start s image i ++ ran_line (s.words i)) ++ ran_line (s.words i)

-- the runs of accepted lists leave the same of loads that read alike: the pairs are those of the one walk
pub same_left : (runs : Option Runs) (c d : Checked) → IsSameLoad c.load d.load → Told c.load c.words c.links c.pairs → Told d.load d.words d.links d.pairs → after_runs runs d ≡ after_runs runs c
same_left runs c d same told other = same_after runs c d (tells_alike c told d same other)
