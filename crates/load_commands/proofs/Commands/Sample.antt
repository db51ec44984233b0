-- What is proved of `sample`.
use Rattle.std.proofs.Common.{◌≡◌, ◌∙◌, ℕ, List, [], ◌++◌, None, sym, ap, subst}
use Rattle.std.proofs.lemmas.List.{append-nil}
use Rattle.kx_edge.specs.Edge.{Files, Said}
use Rattle.kx_edge.specs.declared.edge.Shelf.{Ghosts as Shelf}
use Rattle.kx_edge.specs.declared.edge.Sink.{Ghosts as Sink}
use Rattle.kx_pages.specs.declared.image.Mode.TheVariants as modes
use Rattle.kx_pages.specs.declared.image.Start.{Start}
use Rattle.page_memory.specs.Contents.{at}
use Rattle.load_states.specs.States.{Checked}
use Rattle.load_states.proofs.Ready.{list_ends}
use Rattle.segments.specs.inner.Rules.{IsBare}
use Rattle.file_commands.specs.Taking.{File}
use Rattle.file_commands.specs.Answers.{FilesPut, MeetsTold, done}
use Rattle.file_commands.specs.inner.Order.{Stands}
use Rattle.sample_load.specs.Samples.{sample_segments, start_of}
use Rattle.sample_load.proofs.Rising.{IsBare-sample}
use Rattle.command_parts.specs.declared.running.Ran.{Ran}
use Rattle.command_parts.specs.Runs.{after_runs, list_text}
use Rattle.command_parts.specs.inner.Ran.{HasRun, ran_text}
use Rattle.load_commands.specs.inner.Views.{start_alone}
use Rattle.load_commands.specs.Sample.{HasSampled, IsSample, sample_entry, sample_text, memory_line}
use Rattle.command_parts.specs.Texts.{ran_line}
use Rattle.command_parts.proofs.Ending.{machine_leaves}
use Rattle.file_commands.proofs.Keeping.{Keeps}
use Rattle.command_parts.proofs.Leaving.{leaves_by}
use Rattle.command_parts.proofs.Told.{one_memory, text_of}

-- the text of what ran is that of the sample
pub sampled_text : (number : ℕ) (c : Checked) (r : Ran) (start : Start) → HasRun None c r → start ≡ start_of (sample_segments number) → ran_text r (start_alone start) ++ memory_line (at r.memory) ≡ sample_text number c
sampled_text number c r start h same =
    ap (λ t. t ++ memory_line (at r.memory)) (text_of None c r (start_alone start) h ∙ append-nil (list_text c start ++ ran_line c.words))
    ∙ ap (λ N. (list_text c start ++ ran_line c.words) ++ memory_line N) (one_memory (at r.memory) (after_runs None c) h.memory)
    ∙ ap (λ start. (list_text c start ++ ran_line c.words) ++ memory_line (after_runs None c)) same

-- nothing refuses it
sample_stands : (number : ℕ) (x : Unit {0}) → Stands (sample_entry number).command x
sample_stands number x = record { unrefused = λ a m. m; whole = λ goods m. m.4 }

-- the segments of a sample break no rule
sample_bare : (number : ℕ) (c : Checked) → IsSample number c → IsBare c.load.segments
sample_bare number c is = subst IsBare (sym is.laid.segments) (IsBare-sample number)

module _ {S O : Type 0} (D : Shelf S) (E : Sink O) (s : S) (o : O) (s' : S) (o' : O) where
  sampled_as : (number : ℕ) (c : Checked) (outputs : List File) (text : List ℕ) → IsSample number c → text ≡ sample_text number c → FilesPut (D.files s) [] (D.files s') → Said (E.said o) text (E.said o') → HasSampled D E s o s' o' number
  sampled_as number c outputs text is told put said = record {
    checked = c;
    sample = is;
    ends = list_ends c.load c.words c.links c.pairs (sample_bare number c is) is.accepted;
    runs = machine_leaves None c modes.Plain (ap (λ i. i.mode) is.laid.image) tt (sample_bare number c is) is.accepted;
    leaves = leaves_by None c modes.Plain (ap (λ i. i.mode) is.laid.image) tt is.accepted;
    put = put;
    said = subst (λ t. Said (E.said o) t (E.said o')) told said;
  }

  sampled : (held : Files) (number : ℕ) → MeetsTold D E (sample_entry number).command held s o done s' o' → HasSampled D E s o s' o' number
  sampled held number (x, goods, read, m, fault, out) =
      sampled_as number m.0 goods.outputs goods.text m.1 m.3 (subst (λ os. FilesPut (D.files s) os (D.files s')) m.2 out.put) out.said

pub sample_keeps : (number : ℕ) → Keeps (sample_entry number)
sample_keeps number = record {
  did = λ D E held s o s' o'. sampled D E s o s' o' held number;
  stands = λ x can. sample_stands number x;
  could = λ x goods m fault. tt;
  refuses = λ x why h. absurd h;
}
