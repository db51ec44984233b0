-- By computing.
use Rattle.std.proofs.Common.{◌≡◌, ℕ, [], ◌∷◌, Option, Some, None, Err, refl, arith, inl, inr}
use Rattle.kx_laws.proofs.Options.{some_same}
use Rattle.image_slots.specs.declared.fault.SlotsFault.TheVariants as slots
use Rattle.file_commands.specs.Taking.{by}
use Rattle.load_commands.specs.Drill.{first_meeting}
use Rattle.command_parts.specs.declared.reason.Reason.TheVariants as reasons
use Rattle.worked_commands.specs.Events.{drill_makes, drill_of, reserved_ram}
use Rattle.worked_commands.proofs.drills.pool_meets_the_area.Goals as goal

other_page : drill_makes (0x10 ∷ 0x12 ∷ 0x11 ∷ []) reserved_ram (Err (by (reasons.Slots (slots.PoolMeets 0x11)))) → ⊥
other_page (inl e) = let f : 0x12 ≡ 0x11 = some_same 0x12 0x11 e in omega (arith, f)
other_page (inr (ram, are, apart, h)) = h

not_apart : first_meeting (drill_of (0x10 ∷ 0x12 ∷ []) reserved_ram []) ≡ None → ⊥
not_apart e = let f : ◌≡◌ {A = Option ℕ} (Some 0x12) None = e in cc

pub returns-clause-meets : goal.returns-clause-meets
returns-clause-meets c = refl

pub returns-clause-apart : goal.returns-clause-apart
returns-clause-apart c = refl

pub returns-clause-no_area : goal.returns-clause-no_area
returns-clause-no_area c = refl

pub returns-clause-refused : goal.returns-clause-refused
returns-clause-refused c = inl refl

pub returns-clause-other_page : goal.returns-clause-other_page
returns-clause-other_page c = other_page

pub returns-clause-other_reason : goal.returns-clause-other_reason
returns-clause-other_reason c = λ h. h

pub returns-clause-not_made : goal.returns-clause-not_made
returns-clause-not_made c = λ goods h. not_apart h.2

pub returns-clause-never_too_long : goal.returns-clause-never_too_long
returns-clause-never_too_long c = λ h. h
