-- By what page 2 has, and by the words.
use Rattle.std.proofs.Common.{◌≡◌, true, false, refl, inl}
use Rattle.std.specs.Prelude.{codes}
use Rattle.kx_pages.specs.Bytes.{page_of}
use Rattle.page_memory.specs.Contents.{Contents, at}
use Rattle.list_checker.specs.declared.fault.Why.TheVariants.{Missing}
use Rattle.list_commands.specs.Check.{IsInPlace, IsPlaceFault}
use Rattle.list_commands.specs.Records.{crash_files}
use Rattle.worked_commands.specs.Lists.{crash_record}
use Rattle.worked_commands.proofs.Lists.{in_place, missing, not_in_place}
use Rattle.std.specs.Fmt.{digits}
use Rattle.worked_commands.proofs.execs.crash_kernel_is_run.Goals as goal

lies : (m : Contents) → at m 2 ≡ page_of (codes "abc") → IsInPlace (crash_files m (crash_record 4))
lies m e = record { done = refl; there = in_place (at m) e }

lacks : (m : Contents) → at m 2 ≡ page_of (codes "abd") → IsPlaceFault (crash_files m (crash_record 4)) (record { word = 0; why = Missing 2 })
lacks m e = record { head = refl; why = missing (at m) e; no_place = λ h. not_in_place (at m) e h.there }

pub returns-clause-made : goal.returns-clause-made
unfolding digits
returns-clause-made c = λ m bytes e file. (refl, (lies m e, record { text = refl; fault = refl; output = (bytes, refl, file) }))

pub returns-clause-twice : goal.returns-clause-twice
unfolding digits
returns-clause-twice c = λ m. inl (refl, refl)

pub returns-clause-not_made_twice : goal.returns-clause-not_made_twice
unfolding digits
returns-clause-not_made_twice c = λ m goods h. let e : true ≡ false = h.0 in cc

pub returns-clause-other_bytes : goal.returns-clause-other_bytes
unfolding digits
returns-clause-other_bytes c = λ m e. (refl, (lacks m e, record { outputs = refl; text = refl; fault = refl }))

pub returns-clause-cannot_twice : goal.returns-clause-cannot_twice
unfolding digits
returns-clause-cannot_twice c = λ m h. let e : true ≡ false = h.once in cc

pub returns-clause-never_too_long : goal.returns-clause-never_too_long
unfolding digits
returns-clause-never_too_long c = λ m h. h
