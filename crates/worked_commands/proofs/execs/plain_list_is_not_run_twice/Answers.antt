-- By the words and the mode alone.
use Rattle.std.proofs.Common.{◌≡◌, true, false, Err, refl, inl, inr}
use Rattle.page_memory.specs.Contents.{Contents}
use Rattle.file_commands.specs.Taking.{by}
use Rattle.list_commands.specs.Records.{load_by}
use Rattle.command_parts.specs.declared.reason.Reason.TheVariants as reasons
use Rattle.worked_commands.specs.Execs.{exec_makes}
use Rattle.worked_commands.specs.Lists.{plain_record}
use Rattle.std.specs.Fmt.{digits}
use Rattle.worked_commands.proofs.execs.plain_list_is_not_run_twice.Goals as goal

not_once : (m : Contents) → exec_makes false (load_by m plain_record) (Err (by reasons.NotKept)) → ⊥
not_once m (inl (e, f)) = let g : false ≡ true = f in cc
not_once m (inr (e, h)) = h.4

not_heavy : (m : Contents) → exec_makes true (load_by m plain_record) (Err (by (reasons.Heavy 131073))) → ⊥
not_heavy m (inl (e, f)) = let g : reasons.Heavy 131073 ≡ reasons.NotKept = e in cc
not_heavy m (inr (e, h)) = let g : true ≡ false = e in cc

pub returns-clause-refused : goal.returns-clause-refused
unfolding digits
returns-clause-refused c = λ m. inl (refl, refl)

pub returns-clause-not_made : goal.returns-clause-not_made
unfolding digits
returns-clause-not_made c = λ m goods h. let e : true ≡ false = h.0 in cc

pub returns-clause-not_of_one_run : goal.returns-clause-not_of_one_run
unfolding digits
returns-clause-not_of_one_run c = λ m h. not_once m h

pub returns-clause-not_heavy : goal.returns-clause-not_heavy
unfolding digits
returns-clause-not_heavy c = λ m h. not_heavy m h

pub returns-clause-never_too_long : goal.returns-clause-never_too_long
unfolding digits
returns-clause-never_too_long c = λ m h. h

pub returns-clause-cannot : goal.returns-clause-cannot
unfolding digits
returns-clause-cannot c = λ m h. let e : true ≡ false = h.kept in cc
