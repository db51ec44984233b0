-- What reads of files are refused for.
use Rattle.std.proofs.Common.{◌≡◌, ◌∙◌, ℕ, ◌-◌, List, [], ◌∷◌, ◌++◌, length, Bool, true, false, Option, Some, None, Result, Ok, Err, nat_lt, if◌then◌else◌, sym, ap, subst}
use Rattle.kx_edge.specs.Edge.{Files, read_of}
use Rattle.file_commands.specs.Files.{all_files, from_reader, more_files, optional_file, whole_file}
use Rattle.file_commands.specs.Taking.{File, Refusal, Take, and_then, by, file, ok, reads, refuse, too_long}
use Rattle.file_commands.specs.inner.Taking.{file_at}
use Rattle.file_commands.proofs.Measured.{measured_reads}

module _ {R : Type 0} (Q : R → Type 0) where
  -- a file is too long, or this holds of the reason
  abbrev pub IsOf : Refusal R → Type 0
  IsOf (too_long name limit) = Unit {0}
  IsOf (by why) = Q why

  -- what is read of these files is refused only so
  abbrev pub Only : {X : Type 0} → Files → Take R X → Type 0
  Only held t = (a : Refusal R) → reads t held ≡ Err a → IsOf a

  one_err : {X : Type 0} (a b : Refusal R) → ◌≡◌ {A = Result X (Refusal R)} (Err a) (Err b) → a ≡ b
  one_err a b e = cc

  ok_err : {X : Type 0} (x : X) (a : Refusal R) → ◌≡◌ {A = Result X (Refusal R)} (Ok x) (Err a) → ⊥
  ok_err x a e = cc

  pub only_ok : {X : Type 0} (held : Files) (x : X) → Only held (ok x)
  only_ok held x = λ a e. absurd (ok_err x a e)

  pub only_then : {X Y : Type 0} (held : Files) (t : Take R X) (f : X → Take R Y) → Only held t → ((x : X) → Only held (f x)) → Only held (and_then t f)
  unfolding and_then
  only_then held (ok x) f h k = k x
  only_then {X} {Y} held (refuse b) f h k = λ a e. h a (ap Err (one_err {X = Y} b a e))
  only_then held (file name most next) f h k = only_then held (next (read_of held name most)) f h k

  long_or_whole : (held : Files) (limit : ℕ) (name : List ℕ) (a : Refusal R) (b : Bool) → (if b then Err (too_long name limit) else Ok (file_at held name)) ≡ Err a → IsOf a
  long_or_whole held limit name a true e = subst IsOf (one_err {X = List ℕ} (too_long name limit) a e) tt
  long_or_whole held limit name a false e = absurd (ok_err (file_at held name) a e)

  pub only_whole : (held : Files) (limit : ℕ) (name : List ℕ) → Only held (whole_file limit name)
  only_whole held limit name = λ a e. long_or_whole held limit name a (nat_lt limit (length (file_at held name))) (sym (measured_reads limit name held) ∙ e)

  pub only_reader : {F X : Type 0} (held : Files) (reason : F → R) (r : Result X F) → ((f : F) → Q (reason f)) → Only held (from_reader reason r)
  only_reader held reason (Ok x) h = only_ok held x
  only_reader {F} {X} held reason (Err f) h = λ a e. subst IsOf (one_err {X = X} (by (reason f)) a e) (h f)

  pub only_optional : {X : Type 0} (held : Files) (take : List ℕ → Take R X) (name : Option (List ℕ)) → ((n : List ℕ) → Only held (take n)) → Only held (optional_file take name)
  only_optional held take None h = only_ok held None
  only_optional held take (Some name) h = only_then held (take name) (λ x. ok (Some x)) (h name) (λ x. only_ok held (Some x))

  only_more : (held : Files) (left : ℕ) (names : List (List ℕ)) (taken : List File) → Only held (more_files left names taken)
  only_more held left [] taken = only_ok held taken
  only_more held left (name ∷ names) taken =
      only_then held (whole_file left name) (λ bytes. more_files (left - length bytes) names (taken ++ (name, bytes) ∷ []))
      (only_whole held left name) (λ bytes. only_more held (left - length bytes) names (taken ++ (name, bytes) ∷ []))

  pub only_all : (held : Files) (budget : ℕ) (names : List (List ℕ)) → Only held (all_files budget names)
  only_all held budget names = only_more held budget names []
