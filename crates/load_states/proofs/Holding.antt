-- Holding the pages that pairs' moves write.
use Rattle.std.proofs.Common.{◌≡◌, ℕ, ◌++◌, List, [], ◌∷◌, subst}
use Rattle.std.specs.List.{AllByRecursion}
use Rattle.std.specs.Prelude.{All, Result, Ok, Err, OnOk}
use Rattle.kx_pages.specs.declared.image.Mode.{Mode}
use Rattle.kx_pages.specs.declared.image.Mode.TheVariants.{Plain, Kept}
use Rattle.kx_pages.specs.Lists.{destinations, sources}
use Rattle.page_memory.specs.Contents.{Contents}
use Rattle.page_memory.specs.inner.Contents.{IsHeld}
use Rattle.kimage_list.specs.inner.Held.{HoldSame}
use Rattle.relocate_machine.specs.inner.Writes.{AreHeld, move_writes}
use Rattle.load_states.specs.inner.Ready.{written_pages}
use Rattle.kx_pages.proofs.Lists.{Each-left, Each-right}
use Rattle.kx_pages.proofs.Lists.{Each-from_All}

-- the pages of the pairs' moves are held
abbrev pub Holds : Contents → Mode → List (ℕ × ℕ) → Type 0
Holds m mode qs = AllByRecursion (λ q. AreHeld m (move_writes mode q.0 q.1)) qs

held_plain : (m : Contents) (qs : List (ℕ × ℕ)) → AllByRecursion (λ p. IsHeld m p) (destinations qs) → Holds m Plain qs
held_plain m [] h = tt
held_plain m (q ∷ qs) h = ((h.0, tt, tt), held_plain m qs h.1)

held_kept : (m : Contents) (swap : ℕ) (qs : List (ℕ × ℕ)) → IsHeld m swap → AllByRecursion (λ p. IsHeld m p) (destinations qs) → AllByRecursion (λ p. IsHeld m p) (sources qs) → Holds m (Kept swap) qs
held_kept m swap [] w d s = tt
held_kept m swap (q ∷ qs) w d s = ((d.0, s.0, w), held_kept m swap qs w d.1 s.1)

held_written : (mode : Mode) (m : Contents) (qs : List (ℕ × ℕ)) → AllByRecursion (λ p. IsHeld m p) (written_pages mode qs) → Holds m mode qs
held_written Plain m qs h = held_plain m qs h
held_written (Kept swap) m qs h =
    let rest = Each-right (λ p. IsHeld m p) (destinations qs) (sources qs ++ swap ∷ []) h in
    held_kept m swap qs (Each-right (λ p. IsHeld m p) (sources qs) (swap ∷ []) rest).0 (Each-left (λ p. IsHeld m p) (destinations qs) (sources qs ++ swap ∷ []) h) (Each-left (λ p. IsHeld m p) (sources qs) (swap ∷ []) rest)

-- the pages that were held are those that the moves write
pub all_written : {T E : Type 0} (r : Result T E) (mode : Mode) (m : Contents) (qs : List (ℕ × ℕ)) (pages : List ℕ) → pages ≡ written_pages mode qs → OnOk r (All (λ p. IsHeld m p) pages) → OnOk r (AllByRecursion (λ p. IsHeld m p) (written_pages mode qs))
all_written (Err e) mode m qs pages same held = held
all_written (Ok x) mode m qs pages same held = subst (AllByRecursion (λ p. IsHeld m p)) same (Each-from_All (λ p. IsHeld m p) pages held)

-- where the pages that the moves write are held, the moves' pages are
pub holds_written : {T E : Type 0} (r : Result T E) (mode : Mode) (m : Contents) (qs : List (ℕ × ℕ)) (pages : List ℕ) → pages ≡ written_pages mode qs → OnOk r (All (λ p. IsHeld m p) pages) → OnOk r (Holds m mode qs)
holds_written (Err e) mode m qs pages same held = held
holds_written (Ok x) mode m qs pages same held = held_written mode m qs (subst (AllByRecursion (λ p. IsHeld m p)) same (Each-from_All (λ p. IsHeld m p) pages held))

-- what holds the same pages one after another
pub hold_same_too : (l m n : Contents) → HoldSame n m → HoldSame m l → HoldSame n l
hold_same_too l m n later before q = (λ h. (before q).0 ((later q).0 h), λ h. (later q).1 ((before q).1 h))
