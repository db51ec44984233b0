-- By what the files are, and by the one load.
use Rattle.std.proofs.Common.{◌≡◌, List, [], ◌∷◌, None, Ok, refl, sym, ap}
use Rattle.std.specs.Prelude.{codes}
use Rattle.kx_fields.specs.Fields.{field}
use Rattle.page_memory.specs.File.{read_pages, pages_onto, entry_at}
use Rattle.page_pool.specs.File.{pool_reading, pages_onto as pool_onto, line_onto, checked_range, range_of}
use Rattle.text_lines.specs.Lines.{lines, cut, number, number_of}
use Rattle.kx_pages.specs.declared.image.ImageType.TheVariants.{Raw}
use Rattle.kx_pages.specs.declared.image.Wish.TheVariants.{Plain}
use Rattle.file_commands.specs.Taking.{and_then}
use Rattle.call_log.specs.Calls.{Call, put, said}
use Rattle.call_log.specs.Replays.{Replays}
use Rattle.call_log.specs.Told.{of_bytes, of_files, with_puts}
use Rattle.load_commands.specs.Inputs.{load_inputs}
use Rattle.command_parts.specs.Runs.{run_text}
use Rattle.load_commands.specs.Startup.{planned_startup}
use Rattle.load_commands.proofs.Ending.{again_of, machine_of}
use Rattle.load_commands.proofs.Leaving.{leaves_of}
use Rattle.load_commands.proofs.NormalLoad.{normal}
use Rattle.load_commands.proofs.Proving.{proves_itself}
use Rattle.recorded_kexec.specs.Boot.{HasBootedLogged}
use Rattle.worked_commands.specs.Inputs.{each_file, each_of, few_read}
use Rattle.worked_commands.specs.Loads.{boot_text, few_plan}
use Rattle.worked_commands.specs.Logs.{boot_calls, migrate_calls}
use Rattle.worked_commands.specs.Memories.{run_file}
use Rattle.worked_commands.specs.Names.{boot_raw, few_inputs}
use Rattle.worked_commands.proofs.Loads.{plan_is}
use Rattle.worked_commands.proofs.LoadWitness.{checked1, loaded1, sealed, told1}
use Rattle.worked_commands.proofs.Memories.{run_is}
use Rattle.worked_commands.proofs.Migrated.{migrated}
use Rattle.worked_commands.proofs.OneLoad.{boot_says}
use Rattle.worked_commands.proofs.Replayed.{replays_by}
use Rattle.worked_commands.proofs.Shelves.{look}
use Rattle.worked_commands.proofs.logs.logs_of_commands.Goals as goal

replayed : Replays (load_inputs (Raw 0x2000 0x2000) few_inputs) boot_calls (Ok few_read) (put (codes "o") run_file ∷ [])
unfolding and_then field read_pages pages_onto entry_at pool_reading pool_onto line_onto checked_range range_of lines cut number number_of
replayed = replays_by (load_inputs (Raw 0x2000 0x2000) few_inputs) (look each_of) (put (codes "o") run_file ∷ [])

booted : HasBootedLogged (boot_raw None) boot_calls (said boot_text ∷ [])
booted = record {
  inputs = few_read;
  output = run_file;
  read = replayed;
  planned = few_plan;
  checked = checked1;
  load = normal Plain few_read few_plan checked1 loaded1 told1;
  laid = sealed;
  ends_again = again_of None few_read few_plan checked1 loaded1 told1;
  runs = machine_of None few_read few_plan checked1 loaded1 told1;
  leaves = leaves_of None few_read few_plan checked1 loaded1 told1;
  proves_itself = proves_itself None few_read few_plan checked1 loaded1 told1;
  is_memory = run_is;
  said_text = ap (λ text. said text ∷ []) (sym (boot_says checked1 few_plan plan_is sealed told1));
}

pub returns-clause-booted : goal.returns-clause-booted
returns-clause-booted c = booted

silent : (call : Call) → ◌≡◌ {A = List Call} [] (call ∷ []) → ⊥
silent call e = cc

pub returns-clause-not_said : goal.returns-clause-not_said
returns-clause-not_said c = λ h. silent (said (run_text None h.checked (planned_startup h.planned))) h.said_text

pub returns-clause-migrated : goal.returns-clause-migrated
returns-clause-migrated c = (codes "record segments 1\n", refl, migrated of_files of_bytes each_file [] (with_puts each_file migrate_calls) (codes "record segments 1\n") refl refl)

pub returns-clause-no_load : goal.returns-clause-no_load
returns-clause-no_load c = (codes "record segments 1\n", refl, tt)
