-- By what page 2 has.
use Rattle.std.proofs.Common.{◌≡◌, refl, arith}
use Rattle.std.specs.Prelude.{codes}
use Rattle.kx_pages.specs.Bytes.{page_of}
use Rattle.page_memory.specs.Contents.{Contents, at}
use Rattle.list_checker.specs.declared.fault.Why.TheVariants.{Missing}
use Rattle.list_commands.specs.Check.{IsInPlace, IsPlaceFault}
use Rattle.list_commands.specs.Records.{crash_files}
use Rattle.worked_commands.specs.Lists.{crash_record}
use Rattle.worked_commands.proofs.Lists.{in_place, missing, not_in_place}
use Rattle.worked_commands.proofs.Shelves.{differ}
use Rattle.std.specs.Fmt.{digits}
use Rattle.worked_commands.proofs.checks.crash_kernel_is_told.Goals as goal

lies : (m : Contents) → at m 2 ≡ page_of (codes "abc") → IsInPlace (crash_files m (crash_record 4))
lies m e = record { done = refl; there = in_place (at m) e }

lacks : (m : Contents) → at m 2 ≡ page_of (codes "abd") → IsPlaceFault (crash_files m (crash_record 4)) (record { word = 0; why = Missing 2 })
lacks m e = record { head = refl; why = missing (at m) e; no_place = λ h. not_in_place (at m) e h.there }

pub returns-clause-in_place : goal.returns-clause-in_place
unfolding digits
returns-clause-in_place c = lies

pub returns-clause-told : goal.returns-clause-told
unfolding digits
returns-clause-told c = λ m e. record { accepted = lies m e; text = refl; outputs = refl }

pub returns-clause-other_text : goal.returns-clause-other_text
unfolding digits
returns-clause-other_text c = λ m e h. differ (codes "accepted crash pages 2\n") (codes "accepted crash pages 1\n") refl h.text

pub returns-clause-other_bytes : goal.returns-clause-other_bytes
unfolding digits
returns-clause-other_bytes c = lacks

pub returns-clause-other_bytes_told : goal.returns-clause-other_bytes_told
unfolding digits
returns-clause-other_bytes_told c = λ m e. (lacks m e, record { outputs = refl; text = refl; fault = refl })

pub returns-clause-other_head : goal.returns-clause-other_head
unfolding digits
returns-clause-other_head c = λ m. record { head = refl; why = refl; no_place = λ h. let e : 2 ≡ 4 = h.done in omega (arith, e) }

pub returns-clause-not_refused : goal.returns-clause-not_refused
unfolding digits
returns-clause-not_refused c = λ m why h. h
