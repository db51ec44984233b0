-- `load` and then `exec` on its two files do what `boot` does.
use Rattle.std.proofs.Common.{◌≡◌, ◌∙◌, ℕ, Bool, Option, Some, None, Ok, ap, sym, subst}
use Rattle.kx_laws.proofs.Results.{ok_same}
use Rattle.kx_edge.specs.Edge.{Files}
use Rattle.kx_edge.specs.declared.edge.Shelf.{Ghosts as Shelf}
use Rattle.kx_edge.specs.declared.edge.Sink.{Ghosts as Sink}
use Rattle.kx_pages.specs.declared.image.Mode.{Mode}
use Rattle.kx_pages.specs.declared.image.Wish.{Wish}
use Rattle.page_memory.specs.Contents.{at}
use Rattle.page_memory.specs.File.{reading}
use Rattle.page_memory.specs.Memory.{Agree}
use Rattle.kimage_list.specs.Laying.{mode_with, swap_of}
use Rattle.load_record.specs.File.{record_file, record_reading}
use Rattle.load_record.specs.declared.fault.RecFault.{RecFault}
use Rattle.load_states.specs.Fillings.{IsSealed}
use Rattle.load_states.specs.inner.Runs.{IsSameCheck, IsSameLoad}
use Rattle.load_states.specs.States.{Checked, Load}
use Rattle.load_states.proofs.Alike.{tells_alike}
use Rattle.file_commands.specs.Taking.{Refusal, reads}
use Rattle.file_commands.specs.inner.Taking.{file_at}
use Rattle.kexec_words.specs.declared.commands.Runs.{Runs}
use Rattle.kexec_words.specs.declared.commands.Runs.TheVariants.{Once, Twice}
use Rattle.kexec_words.specs.Values.{BootValue, ExecValue, LoadValue}
use Rattle.kexec_plan.specs.Requests.{Plan}
use Rattle.kexec_plan.specs.Plan.{plan}
use Rattle.plan_faults.specs.declared.fault.PlanFault.{PlanFault}
use Rattle.list_commands.specs.declared.records.LoadFiles.{LoadFiles}
use Rattle.list_commands.specs.declared.records.TakenLoad.TheVariants.{Normal}
use Rattle.command_parts.specs.declared.reason.Reason.{Reason}
use Rattle.load_commands.specs.Boot.{HasBooted}
use Rattle.list_commands.specs.Exec.{HasExecuted, files_text, runs_asked, runs_of}
use Rattle.list_commands.specs.Records.{list_files, load_files}
use Rattle.load_commands.specs.Inputs.{LoadInputs, load_inputs}
use Rattle.load_commands.specs.Load.{HasLoaded, load_wish, record_of_load}
use Rattle.load_commands.specs.NormalLoad.{IsLaid, NormalLoad}
use Rattle.command_parts.specs.Outputs.{IsFileOf}
use Rattle.command_parts.specs.Runs.{after_runs, run_text, wish_of}
use Rattle.load_commands.specs.Startup.{planned_startup}
use Rattle.kexec_main.specs.inner.Together.{AskTogether, LoadThenExecIsBoot, booted_text, is_twice}
use Rattle.list_commands.proofs.Reread.{IsReadAs, exec_read, record_found}
use Rattle.command_parts.proofs.Found.{memory_found}
use Rattle.load_commands.proofs.NormalLoad.{sealed_alike}
use Rattle.command_parts.proofs.Alike.{same_after, same_text}
use Rattle.command_parts.proofs.Outputs.{file_agrees, one_file}

same_then : (r s t : Load) → IsSameLoad r s → IsSameLoad s t → IsSameLoad r t
same_then r s t a b = record { reads = λ p. b.reads p ∙ a.reads p; image = b.image ∙ a.image; segments = b.segments ∙ a.segments }

-- so are loads by one plan of inputs that are the same
loads_alike : (wish v : Wish) (i j : LoadInputs) (p q : Plan) (c d : Checked) → v ≡ wish → j ≡ i → NormalLoad wish i p c → NormalLoad v j q d → IsLaid wish i p c → IsLaid v j q d → (q ≡ p) × IsSameLoad c.load d.load
loads_alike wish v i j p q c d w same a b k l =
    let asked : plan i.request i.map ≡ Ok q = ap (λ (i : LoadInputs). plan i.request i.map) (sym same) ∙ b.planned in
    let one : q ≡ p = ok_same {F = PlanFault} q p (sym asked ∙ a.planned) in
    let laid : IsSealed (at i.memory) i.usable wish p.segments d.load =
    subst (λ (p : Plan). IsSealed (at i.memory) i.usable wish p.segments d.load) one
    (subst (λ (i : LoadInputs). IsSealed (at i.memory) i.usable wish q.segments d.load) same
    (subst (λ wish. IsSealed (at j.memory) j.usable wish q.segments d.load) w l)) in
    (one, sealed_alike (at i.memory) i.usable wish p.segments c.load d.load k laid)

-- the runs that `exec` asks of the load are those of the boot
same_runs : (runs : Option Runs) (swap : ℕ) (twice : Bool) (mode : Mode) → twice ≡ is_twice runs → mode ≡ mode_with (wish_of runs) swap → runs_of twice mode ≡ runs
same_runs None swap twice mode e m = ap (runs_of twice) m
same_runs (Some Once) swap twice mode e m = ap (runs_of twice) m ∙ ap (λ t. runs_of t (mode_with (wish_of (Some Once)) swap)) e
same_runs (Some Twice) swap twice mode e m = ap (runs_of twice) m ∙ ap (λ t. runs_of t (mode_with (wish_of (Some Twice)) swap)) e

module _ {S O : Type 0} (D : Shelf S) (E : Sink O) (held after : Files) (s t u s' t' u' : S) (o p q o' p' q' : O) (b : BootValue) (l : LoadValue) (e : ExecValue)
    (ask : AskTogether b l e)
    (x : LoadInputs) (boot_read : reads (load_inputs b.image b.inputs) held ≡ Ok x) (boot : HasBooted D E s o s' o' b x) (boot_laid : IsLaid (wish_of b.kept) x boot.planned boot.checked)
    (y : LoadInputs) (load_read : reads (load_inputs l.image l.inputs) held ≡ Ok y) (load : HasLoaded D E t p t' p' l y) (load_laid : IsLaid (load_wish l) y load.planned load.checked)
    (files : LoadFiles) (files_read : reads (load_files e.memory e.load_record) after ≡ Ok (Normal files)) (exec : HasExecuted D E u q u' q' e files)
    (memory_put : file_at after l.out ≡ load.output) (record_put : file_at after l.load_record ≡ record_file (record_of_load load.checked.load load.planned)) where
  -- both loads are of the same inputs
  same_inputs : y ≡ x
  same_inputs =
      let read : reads (load_inputs l.image l.inputs) held ≡ reads (load_inputs b.image b.inputs) held =
      ap (λ image. reads (load_inputs image l.inputs) held) ask.image ∙ ap (λ i. reads (load_inputs b.image i) held) ask.inputs in
      ok_same {F = Refusal Reason} y x (sym load_read ∙ read ∙ boot_read)

  alike : (load.planned ≡ boot.planned) × IsSameLoad boot.checked.load load.checked.load
  alike = loads_alike (wish_of b.kept) (load_wish l) x y boot.planned load.planned boot.checked load.checked ask.wish same_inputs boot.load load.load boot_laid load_laid

  -- the record and the memory that `exec` read are those that `load` put
  read_as : IsReadAs e after files
  read_as = exec_read e after files files_read

  record_is : read_as.r ≡ record_of_load load.checked.load load.planned
  record_is =
      let read : record_reading (file_at after e.load_record) ≡ Ok read_as.r = record_found e.load_record after read_as.r read_as.load_record in
      ok_same {F = RecFault} read_as.r (record_of_load load.checked.load load.planned) (sym read ∙ ap record_reading (ap (file_at after) ask.load_record ∙ record_put) ∙ load.read_back)

  -- so the files are those of this memory and this record
  files_are : list_files read_as.m (record_of_load load.checked.load load.planned) ≡ files
  files_are = ap (list_files read_as.m) (sym record_is) ∙ read_as.same

  memory_is : Agree (at files.memory) (at load.checked.load.memory)
  memory_is =
      let agree = file_agrees (at load.checked.load.memory) load.output read_as.m load.is_memory
      (subst (λ bytes. reading bytes ≡ Ok read_as.m) (ap (file_at after) ask.memory ∙ memory_put) (memory_found e.memory after read_as.m read_as.memory)) in
      λ p. ap (λ (x : LoadFiles). at x.memory p) (sym files_are) ∙ agree p

  read_alike : IsSameLoad load.checked.load exec.checked.load
  read_alike = record {
    reads = λ page. ap (λ (s : Load). at s.memory page) exec.of_files ∙ memory_is page;
    image = ap (λ (s : Load). s.image) exec.of_files ∙ ap (λ (x : LoadFiles). x.image) (sym files_are);
    segments = ap (λ (s : Load). s.segments) exec.of_files ∙ ap (λ (x : LoadFiles). x.segments) (sym files_are);
  }

  whole : IsSameLoad boot.checked.load exec.checked.load
  whole = same_then boot.checked.load load.checked.load exec.checked.load alike.1 read_alike

  check : IsSameCheck boot.checked exec.checked
  check = tells_alike boot.checked boot.load.accepted exec.checked whole exec.accepted

  runs : runs_asked e.twice files ≡ b.kept
  runs =
      let laid = boot_laid in
      same_runs b.kept (swap_of laid.loading) e.twice files.image.mode
      ask.twice
      (ap (λ (s : Load). s.image.mode) (sym exec.of_files) ∙ ap (λ i. i.mode) whole.image ∙ ap (λ i. i.mode) laid.image)

  same_output : exec.output ≡ boot.output
  same_output =
      one_file (after_runs b.kept boot.checked) exec.output boot.output
      (subst (λ N. IsFileOf N exec.output) (ap (λ r. after_runs r exec.checked) runs ∙ same_after b.kept boot.checked exec.checked check) exec.is_memory) boot.is_memory

  said_same : files_text e.twice files exec.checked ≡ booted_text b.kept boot.checked boot.planned
  said_same =
      ap (λ (x : LoadFiles). run_text (runs_asked e.twice files) exec.checked x.startup) (sym files_are)
      ∙ ap (λ r. run_text r exec.checked (planned_startup load.planned)) runs
      ∙ same_text b.kept boot.checked exec.checked (planned_startup load.planned) check whole.image
      ∙ ap (λ (p : Plan). booted_text b.kept boot.checked p) alike.0

pub load_then_exec : {S O : Type 0} (D : Shelf S) (E : Sink O) → LoadThenExecIsBoot D E
load_then_exec D E held after s t u s' t' u' o p q o' p' q' b l e ask boot load files read exec memory_put record_put = (
  same_output D E held after s t u s' t' u' o p q o' p' q' b l e ask boot.inputs boot.read boot.booted boot.laid load.inputs load.read load.loaded load.laid files read exec memory_put record_put,
  said_same D E held after s t u s' t' u' o p q o' p' q' b l e ask boot.inputs boot.read boot.booted boot.laid load.inputs load.read load.loaded load.laid files read exec memory_put record_put,
)
