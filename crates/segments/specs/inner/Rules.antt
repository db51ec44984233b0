-- The rules that segments have to meet: those of kexec_load(2) and of the kernel's kexec core (sanity_check_segment_list),
-- and two of this project's own. Each rule is tested over all segments before the next one. The first refusal is
-- answered, with the least segment and then the least earlier one.
-- No clause of `kexec` reaches what stands here: it serves laws, and contracts inside the crates.
use Rattle.std.specs.Prelude.{◌≡◌, ◌⊎◌, ℕ, List, Option, Some, None, Result, Ok, Err}
use Rattle.segments.specs.declared.fault.SegFault.{SegFault}
use Rattle.segments.specs.declared.fault.SegFault.TheVariants as faults
use Rattle.segments.specs.Values.{SegmentValue}
use Rattle.segments.specs.Rules.{bare_refusal}

-- segments that no rule refuses where nothing is known of memory
abbrev pub IsBare : List SegmentValue → Type 0
IsBare ss = bare_refusal ss ≡ None

-- the fault is the first refusal, or memory ran out and nothing is refused
abbrev pub Refuses : SegFault → Option SegFault → Type 0
Refuses fault first = (first ≡ Some fault) ⊎ ((fault ≡ faults.Memory) × (first ≡ None))

-- the segments are the list, which no rule refuses; or this is the first refusal
abbrev pub Answers : List SegmentValue → Option SegFault
    → Result (List SegmentValue) SegFault → Type 0
Answers ss first (Ok made) = (made ≡ ss) × (first ≡ None)
Answers ss first (Err fault) = Refuses fault first

-- the errno of kexec_load(2): EINVAL 22, EADDRNOTAVAIL 99, ENOMEM 12; 0 where the system call has no such refusal
abbrev pub errno : SegFault → ℕ
errno faults.Memory = 12
errno faults.NoSegments = 0
errno faults.TooMany = 22
errno (faults.BadAddress i) = 99
errno (faults.Overlap i j) = 22
errno (faults.TooFull i) = 22
errno faults.HalfOfMemory = 22
errno (faults.OutsideReserved i) = 99
errno (faults.NotRam i) = 0
errno (faults.TooLarge n) = 0
