-- By what is read, and by the one load.
use Rattle.std.proofs.Common.{◌≡◌, ◌∙◌, [], ◌∷◌, true, false, None, Result, Ok, Err, refl, sym, subst, arith, inl, inr}
use Rattle.kx_laws.proofs.Results.{ok_same}
use Rattle.file_commands.specs.Taking.{Refusal, by}
use Rattle.load_commands.specs.Boot.{boot_entry}
use Rattle.load_commands.specs.Inputs.{LoadInputs}
use Rattle.kexec_main.specs.Call.{HasRefusal}
use Rattle.list_commands.specs.Records.{load_by}
use Rattle.list_commands.specs.declared.records.TakenLoad.{TakenLoad}
use Rattle.load_record.specs.File.{Record}
use Rattle.command_parts.specs.declared.reason.InputFault.TheVariants as inputs
use Rattle.command_parts.specs.declared.reason.Reason.{Reason}
use Rattle.command_parts.specs.declared.reason.Reason.TheVariants as reasons
use Rattle.load_record.specs.declared.fault.RecFault.TheVariants as records
use Rattle.kexec_words.specs.Values as words
use Rattle.worked_commands.specs.Execs.{exec_makes}
use Rattle.worked_commands.specs.Inputs.{each_file, short_pool, three_bytes_record, unreadable}
use Rattle.worked_commands.specs.Loads.{boot_makes, few_plan, few_with}
use Rattle.worked_commands.specs.Names.{boot_raw, exec_record, migrate_record}
use Rattle.worked_commands.specs.Texts.{no_memory}
use Rattle.worked_commands.proofs.Loads.{plan_is}
use Rattle.worked_commands.proofs.CallFiles.{migrate_read, record_taken, short_taken}
use Rattle.worked_commands.proofs.calls.refusals_of_what_was_read.Goals as goal

not_once : HasRefusal (words.exec (exec_record false)) each_file (by reasons.NotKept) → ⊥
not_once (inl e) = let f : ◌≡◌ {A = Result TakenLoad (Refusal Reason)} (Err (by reasons.NotKept)) (Ok _) = sym e ∙ record_taken in cc
not_once (inr (x, read, m)) = by_run (subst (λ x. exec_makes false x (Err (by reasons.NotKept))) (ok_same {F = Refusal Reason} x _ (sym read ∙ record_taken)) m)
  where
    by_run : exec_makes false (load_by no_memory three_bytes_record) (Err (by reasons.NotKept)) → ⊥
    by_run (inl (e, f)) = let g : false ≡ true = f in cc
    by_run (inr (e, h)) = h.4

other_need : HasRefusal (words.boot (boot_raw None)) short_pool (by (reasons.NoPages 2 2)) → ⊥
other_need (inl e) = let f : ◌≡◌ {A = Result LoadInputs (Refusal Reason)} (Err (by (reasons.NoPages 2 2))) (Ok (few_with (0x10 ∷ 0x11 ∷ []))) = sym e ∙ short_taken in cc
other_need (inr (x, read, m)) = by_plan (subst (λ i. (boot_entry (boot_raw None)).command.makes i (Err (by (reasons.NoPages 2 2)))) (ok_same {F = Refusal Reason} x _ (sym read ∙ short_taken)) m)
  where
    by_plan : boot_makes (0x10 ∷ 0x11 ∷ []) (Err (by (reasons.NoPages 2 2))) → ⊥
    by_plan (inl (p, e, few)) = omega (arith, few.2)
    by_plan (inr (p, c, b, h)) = h

migrate : HasRefusal (words.migrate migrate_record) each_file (unreadable (inputs.Rec records.BadMagic)) → ⊥
migrate (inl e) = let f : ◌≡◌ {A = Result Record (Refusal Reason)} (Err (unreadable (inputs.Rec records.BadMagic))) (Ok three_bytes_record) = sym e ∙ migrate_read in cc
migrate (inr (x, read, m)) = m

sample : HasRefusal (words.sample 7) each_file (by reasons.NotKept) → ⊥
sample (inl e) = let f : ◌≡◌ {A = Result (Unit {0}) (Refusal Reason)} (Ok tt) (Err (by reasons.NotKept)) = e in cc
sample (inr (x, read, m)) = m

pub returns-clause-exec_twice : goal.returns-clause-exec_twice
returns-clause-exec_twice c = inr (load_by no_memory three_bytes_record, record_taken, inl (refl, refl))

pub returns-clause-exec_once : goal.returns-clause-exec_once
returns-clause-exec_once c = not_once

pub returns-clause-short_pool : goal.returns-clause-short_pool
returns-clause-short_pool c = inr (few_with (0x10 ∷ 0x11 ∷ []), short_taken, inl (few_plan, plan_is, (refl, refl, omega arith)))

pub returns-clause-other_need : goal.returns-clause-other_need
returns-clause-other_need c = other_need

pub returns-clause-migrate : goal.returns-clause-migrate
returns-clause-migrate c = migrate

pub returns-clause-sample : goal.returns-clause-sample
returns-clause-sample c = sample
