-- What a command takes of a shelf, file after file, and what is made of their bytes: one value, from which it follows what
-- is read of files that are told, which takes were made, and which of them failed. This project's own.
use Rattle.std.specs.Prelude.{◌≡◌, ℕ, ◌⊎◌, List, IfSome, Result, Ok, Err}
use Rattle.kx_edge.specs.Edge.{Files, Rose, read_of}
use Rattle.kx_edge.specs.declared.edge.Shelf.{Ghosts as Shelf}

-- a file: its name and its bytes
abbrev pub File : Type 0
File = List ℕ × List ℕ

-- why a command is refused: a file is longer than it can be here, or a reason of the command's own
pub data Refusal (R : Type 0) : Type 0 where
  too_long : (name : List ℕ) → (limit : ℕ) → Refusal R
  by : R → Refusal R

-- What a command takes: nothing more, and it has a value; nothing more, since it refuses; or the first bytes of a file,
-- and then more by these bytes.
pub data Take (R X : Type 0) : Type 0 where
  ok : X → Take R X
  refuse : Refusal R → Take R X
  file : (name : List ℕ) → (most : ℕ) → (List ℕ → Take R X) → Take R X

-- one after the other
unfoldable pub and_then : {R X Y : Type 0} → Take R X → (X → Take R Y) → Take R Y
and_then (ok x) f = f x
and_then (refuse a) f = refuse a
and_then (file name most next) f = file name most (λ bytes. and_then (next bytes) f)

infixl 10 ◌>>=◌
abbrev pub ◌>>=◌ : {R X Y : Type 0} → Take R X → (X → Take R Y) → Take R Y
t >>= f = and_then t f

-- what is made of files that are held
abbrev pub reads : {R X : Type 0} → Take R X → Files → Result X (Refusal R)
reads (ok x) held = Ok x
reads (refuse a) held = Err a
reads (file name most next) held = reads (next (read_of held name most)) held

-- a shelf holds what it held, and has not failed
pub record Same {S : Type 0} (D : Shelf S) (old new : S) : Type 0 where
  pub files : D.files new ≡ D.files old
  pub faults : D.faults new ≡ D.faults old

-- a take of this name, of at most so many bytes, gave these, which are the file's where files are told
pub record GivesFile {S : Type 0} (D : Shelf S) (old : S) (name : List ℕ) (most : ℕ)
    (bytes : List ℕ) (new : S) : Type 0 where
  pub took : D.gives old name most bytes new
  pub same : Same D old new
  pub told : IfSome (D.files old) (λ held. bytes ≡ read_of held name most)

-- a take of this name failed
pub record FailsFile {S : Type 0} (D : Shelf S) (old : S) (name : List ℕ) (new : S) : Type 0 where
  pub took : D.fails old name new
  pub files : D.files new ≡ D.files old
  pub rose : Rose (D.faults old) (D.faults new)

-- a take of this name wanted memory
pub record WantsFile {S : Type 0} (D : Shelf S) (old : S) (name : List ℕ) (new : S) : Type 0 where
  pub took : D.wants old name new
  pub same : Same D old new

-- the takes were made in their order, from one state of the shelf to another, and this is made of what they gave
unfoldable pub Took : {S R X : Type 0} → Shelf S → Take R X → S → Result X (Refusal R) → S → Type 0
Took D (ok x) old r new = (r ≡ Ok x) × (new ≡ old)
Took D (refuse a) old r new = (r ≡ Err a) × (new ≡ old)
Took {S} D (file name most next) old r new =
    (bytes : List ℕ) × (mid : S) × GivesFile D old name most bytes mid
    × Took D (next bytes) mid r new

-- the takes were made in their order up to one of this name, which failed
unfoldable pub FailedAt : {S R X : Type 0} → Shelf S → Take R X → S → List ℕ → S → Type 0
FailedAt D (ok x) old which new = ⊥
FailedAt D (refuse a) old which new = ⊥
FailedAt {S} D (file name most next) old which new =
    ((which ≡ name) × FailsFile D old name new)
    ⊎ ((bytes : List ℕ) × (mid : S) × GivesFile D old name most bytes mid
    × FailedAt D (next bytes) mid which new)

-- Memory was wanted: after some of the takes were made in their order, for a next one, or for what is made of them.
unfoldable pub WantedAt : {S R X : Type 0} → Shelf S → Take R X → S → S → Type 0
WantedAt D (ok x) old new = new ≡ old
WantedAt D (refuse a) old new = new ≡ old
WantedAt {S} D (file name most next) old new =
    (new ≡ old) ⊎ WantsFile D old name new
    ⊎ ((bytes : List ℕ) × (mid : S) × GivesFile D old name most bytes mid
    × WantedAt D (next bytes) mid new)
