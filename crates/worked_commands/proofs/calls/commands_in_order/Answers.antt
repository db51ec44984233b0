-- By what is read, and by the one load.
use Rattle.std.proofs.Common.{◌≡◌, ◌∙◌, ◌≤◌, ℕ, [], ◌∷◌, true, false, None, Result, Ok, Err, refl, sym, subst, arith}
use Rattle.std.specs.Prelude.{codes}
use Rattle.kx_laws.proofs.Results.{ok_same}
use Rattle.segments.specs.Values.{need, overlay, want}
use Rattle.page_memory.specs.Contents.{at}
use Rattle.file_commands.specs.Taking.{Refusal}
use Rattle.kexec_main.specs.Call.{IsInOrder}
use Rattle.list_commands.specs.Exec.{CanExec}
use Rattle.list_commands.specs.Records.{load_by}
use Rattle.load_record.specs.File.{Record}
use Rattle.command_parts.specs.Outputs.{IsTooHeavy}
use Rattle.load_commands.specs.NormalLoad.{CanLoad}
use Rattle.command_parts.specs.Runs.{after_runs}
use Rattle.kx_pages.specs.declared.image.Wish.TheVariants.{Plain}
use Rattle.command_parts.specs.declared.reason.InputFault.TheVariants as inputs
use Rattle.command_parts.specs.declared.reason.Reason.{Reason}
use Rattle.load_record.specs.declared.fault.RecFault.TheVariants as records
use Rattle.kexec_words.specs.Values as words
use Rattle.command_parts.proofs.Outputs.{has_file, file_as}
use Rattle.worked_commands.specs.Inputs.{each_file, few_read, short_pool, spoiled, three_bytes, three_bytes_record, unreadable}
use Rattle.worked_commands.specs.Loads.{few_plan}
use Rattle.worked_commands.specs.Memories.{loaded, loaded_file, run_file}
use Rattle.worked_commands.specs.Names.{boot_raw, exec_record, migrate_record}
use Rattle.worked_commands.specs.Texts.{no_memory}
use Rattle.worked_commands.proofs.Loads.{as_checked, as_loaded, plan_is}
use Rattle.worked_commands.proofs.Memories.{loaded_is, run_is}
use Rattle.worked_commands.proofs.OneLoad.{takes}
use Rattle.worked_commands.proofs.CallFiles.{few_taken, migrate_read, migrate_spoiled, record_taken, short_taken}
use Rattle.worked_commands.proofs.calls.commands_in_order.Goals as goal

not_twice : IsInOrder (words.exec (exec_record true)) each_file → ⊥
not_twice (x, read, can) =
    let k = subst (λ x. CanExec x true) (ok_same {F = Refusal Reason} x _ (sym read ∙ record_taken)) can in
    let e : true ≡ false = k.kept in
    cc

not_spoiled : IsInOrder (words.migrate migrate_record) (spoiled (codes "r" ∷ [])) → ⊥
not_spoiled (x, read, can) = let e : ◌≡◌ {A = Result Record (Refusal Reason)} (Err (unreadable (inputs.Rec records.BadMagic))) (Ok x) = sym migrate_spoiled ∙ read in cc

too_few : (n : ℕ) → n ≡ 3 → n ≤ 2 → ⊥
too_few n e h = omega arith

not_short : IsInOrder (words.boot (boot_raw None)) short_pool → ⊥
not_short (x, read, can) =
    let k = subst (λ i. CanLoad Plain i (after_runs None)) (ok_same {F = Refusal Reason} x _ (sym read ∙ short_taken)) can in
    too_few (need Plain k.p.segments) (takes k.p k.planned) k.enough

pub returns-clause-boot : goal.returns-clause-boot
returns-clause-boot c = (
  few_read,
  few_taken,
  record {
    p = few_plan;
    planned = plan_is;
    enough = omega arith;
    light = λ c n l told h. has_file (overlay (at loaded) (want three_bytes)) run_file n run_is (subst (λ N. IsTooHeavy N n) (as_checked c l.laid told).plain h);
  },
)

pub returns-clause-load : goal.returns-clause-load
returns-clause-load c = (
  few_read,
  few_taken,
  record {
    p = few_plan;
    planned = plan_is;
    enough = omega arith;
    light = λ c n l told h. has_file (at c.load.memory) loaded_file n (file_as (at loaded) (at c.load.memory) loaded_file (λ q. sym ((as_loaded c.load l.laid).reads q)) loaded_is) h;
  },
)

pub returns-clause-dump : goal.returns-clause-dump
returns-clause-dump c = (load_by no_memory three_bytes_record, record_taken, tt)

pub returns-clause-migrate : goal.returns-clause-migrate
returns-clause-migrate c = (three_bytes_record, migrate_read, tt)

pub returns-clause-sample : goal.returns-clause-sample
returns-clause-sample c = (tt, refl, tt)

pub returns-clause-exec_twice : goal.returns-clause-exec_twice
returns-clause-exec_twice c = not_twice

pub returns-clause-spoiled_record : goal.returns-clause-spoiled_record
returns-clause-spoiled_record c = not_spoiled

pub returns-clause-short_pool : goal.returns-clause-short_pool
returns-clause-short_pool c = not_short
