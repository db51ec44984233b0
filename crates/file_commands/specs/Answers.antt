-- What a command makes and delivers, and what each of its answers says. This project's own.
use Rattle.std.specs.Prelude.{◌≡◌, ℕ, ◌≤◌, ◌⊎◌, List, [], ◌∷◌, ◌++◌, length, take, Option, Some, None, option_map, Result, Ok, Err}
use Rattle.std.specs.FinMap.{insert}
use Rattle.kx_edge.specs.Edge.{Files, Rose, PutFile, PutPrefix, Said, SaidPrefix}
use Rattle.kx_edge.specs.declared.edge.Shelf.{Ghosts as Shelf}
use Rattle.kx_edge.specs.declared.edge.Sink.{Ghosts as Sink}
use Rattle.file_commands.specs.Taking.{File, Refusal, Take, Took, FailedAt, WantedAt, Same, reads}

-- how a command ended
pub data Answer (F R : Type 0) : Type 0 where
  done : Answer F R
  not_accepted : F → Answer F R
  unread : (name : List ℕ) → Answer F R
  unwritten : (name : List ℕ) → Answer F R
  unsaid : Answer F R
  memory : Answer F R
  refused : Refusal R → Answer F R

-- what a command makes before it writes: the outputs in their order, the text, and a fault that is answered last
pub record Goods (F : Type 0) : Type 0 where
  pub outputs : List File
  pub text : List ℕ
  pub fault : Option F

-- a command: what it takes, and what it makes of that
pub record Command (X F R : Type 0) : Type 1 where
  pub takes : Take R X
  pub makes : X → Result (Goods F) (Refusal R) → Type 0

abbrev pub command_of : {X F R : Type 0} → Take R X → (X → Result (Goods F) (Refusal R) → Type 0)
    → Command X F R
command_of takes makes = record { takes = takes; makes = makes }

-- files with these outputs put in order
abbrev pub with_outputs : Files → List File → Files
with_outputs held [] = held
with_outputs held (o ∷ os) = with_outputs (insert held o.0 o.1) os

-- All outputs were put. Where files were told before, exactly these are told afterwards; where none were, none are.
abbrev pub FilesPut : Option Files → List File → Option Files → Type 0
FilesPut old outputs new = new ≡ option_map (λ held. with_outputs held outputs) old

-- The outputs before one of this name are whole, and it has a prefix of its bytes. Files that are told afterwards were told
-- before.
abbrev pub FilesUpTo : Option Files → List File → List ℕ → List ℕ → Option Files → Type 0
FilesUpTo old before name bytes None = Unit {0}
FilesUpTo old before name bytes (Some now) =
    (held : Files) × (n : ℕ) × (n ≤ length bytes) × (old ≡ Some held)
    × (now ≡ insert (with_outputs held before) name (take n bytes))

abbrev pub FilesCut : Option Files → List File → List ℕ → Option Files → Type 0
FilesCut old outputs name now =
    (before : List File) × (bytes : List ℕ) × (after : List File)
    × (outputs ≡ before ++ (name, bytes) ∷ after) × FilesUpTo old before name bytes now

module _ {S : Type 0} (D : Shelf S) where
  -- a file was put whole
  pub record PutsFile (s : S) (o : File) (t : S) : Type 0 where
    pub did : D.puts s o.0 o.1 t
    pub file : PutFile (D.files s) o.0 o.1 (D.files t)
    pub calm : D.faults t ≡ D.faults s

  -- a put failed
  pub record CutsFile (s : S) (o : File) (t : S) : Type 0 where
    pub did : D.cuts s o.0 o.1 t
    pub file : PutPrefix (D.files s) o.0 o.1 (D.files t)
    pub rose : Rose (D.faults s) (D.faults t)

  -- all outputs were put in their order
  abbrev pub PutAll : List File → S → S → Type 0
  PutAll [] s t = t ≡ s
  PutAll (o ∷ os) s t = (mid : S) × PutsFile s o mid × PutAll os mid t

  -- the outputs were put in their order, up to one of this name, whose put failed
  abbrev pub PutUpTo : List File → S → List ℕ → S → Type 0
  PutUpTo [] s name t = ⊥
  PutUpTo (o ∷ os) s name t =
      ((name ≡ o.0) × CutsFile s o t) ⊎ ((mid : S) × PutsFile s o mid × PutUpTo os mid name t)

module _ {O : Type 0} (E : Sink O) where
  -- the bytes were said; the say failed
  pub record SaysText (o : O) (bytes : List ℕ) (p : O) : Type 0 where
    pub did : E.says o bytes p
    pub said : Said (E.said o) bytes (E.said p)
    pub calm : E.faults p ≡ E.faults o

  pub record BreaksText (o : O) (bytes : List ℕ) (p : O) : Type 0 where
    pub did : E.breaks o bytes p
    pub said : SaidPrefix (E.said o) bytes (E.said p)
    pub rose : Rose (E.faults o) (E.faults p)

module _ {S O : Type 0} (D : Shelf S) (E : Sink O) where
  -- what stands after goods were delivered, or could not be
  abbrev pub Delivers : {F R : Type 0} → Goods F → S → O → Answer F R → S → O → Type 0
  Delivers goods s o done s' o' =
      (goods.fault ≡ None) × PutAll D goods.outputs s s' × SaysText E o goods.text o'
  Delivers goods s o (not_accepted fault) s' o' =
      (goods.fault ≡ Some fault) × PutAll D goods.outputs s s' × SaysText E o goods.text o'
  Delivers goods s o (unwritten name) s' o' = PutUpTo D goods.outputs s name s' × (o' ≡ o)
  Delivers goods s o unsaid s' o' = PutAll D goods.outputs s s' × BreaksText E o goods.text o'
  Delivers goods s o other s' o' = ⊥

  -- What an answer says of a command, from one state of shelf and sink to another: the takes, the goods and what was
  -- delivered of them. Where memory was wanted, some of the takes were made, and nothing was put or said.
  abbrev pub Meets : {X F R : Type 0} → Command X F R → S → O → Answer F R → S → O → Type 0
  Meets c s o (unread name) s' o' = FailedAt D c.takes s name s' × (o' ≡ o)
  Meets c s o memory s' o' = WantedAt D c.takes s s' × (o' ≡ o)
  Meets {X} c s o (refused a) s' o' =
      (Took D c.takes s (Err a) s' ⊎ ((x : X) × Took D c.takes s (Ok x) s' × c.makes x (Err a)))
      × (o' ≡ o)
  Meets {X} {F} c s o other s' o' =
      (x : X) × (goods : Goods F) × (mid : S) × Took D c.takes s (Ok x) mid × c.makes x (Ok goods)
      × Delivers goods mid o other s' o'

  -- The same over files that are told: all outputs were put and the text was said, and no device failed; the shelf failed
  -- at the put of this name, after which nothing was put or said; all outputs were put, and the sink failed at the text.
  pub record GoesOut {F : Type 0} (goods : Goods F) (s : S) (o : O) (s' : S) (o' : O) : Type 0 where
    pub shelf : D.faults s' ≡ D.faults s
    pub sink : E.faults o' ≡ E.faults o
    pub put : FilesPut (D.files s) goods.outputs (D.files s')
    pub said : Said (E.said o) goods.text (E.said o')

  pub record EndsAtOutput {F : Type 0} (goods : Goods F) (name : List ℕ) (s : S) (o : O) (s' : S)
      (o' : O) : Type 0 where
    pub shelf : Rose (D.faults s) (D.faults s')
    pub sink : o' ≡ o
    pub put : FilesCut (D.files s) goods.outputs name (D.files s')

  pub record EndsAtText {F : Type 0} (goods : Goods F) (s : S) (o : O) (s' : S) (o' : O)
      : Type 0 where
    pub shelf : D.faults s' ≡ D.faults s
    pub sink : Rose (E.faults o) (E.faults o')
    pub put : FilesPut (D.files s) goods.outputs (D.files s')
    pub said : SaidPrefix (E.said o) goods.text (E.said o')

-- What an answer says over files that are told, by what is read of them.
abbrev pub MeetsTold : {S O X F R : Type 0} → Shelf S → Sink O → Command X F R → Files → S → O
    → Answer F R → S → O → Type 0
MeetsTold {X = X} {F = F} D E c held s o done s' o' =
    (x : X) × (goods : Goods F) × (reads c.takes held ≡ Ok x) × c.makes x (Ok goods)
    × (goods.fault ≡ None) × GoesOut D E goods s o s' o'
MeetsTold {X = X} {F = F} D E c held s o (not_accepted fault) s' o' =
    (x : X) × (goods : Goods F) × (reads c.takes held ≡ Ok x) × c.makes x (Ok goods)
    × (goods.fault ≡ Some fault) × GoesOut D E goods s o s' o'
MeetsTold D E c held s o (unread name) s' o' =
    Rose (D.faults s) (D.faults s') × (D.files s' ≡ D.files s)
MeetsTold {X = X} {F = F} D E c held s o (unwritten name) s' o' =
    (x : X) × (goods : Goods F) × (reads c.takes held ≡ Ok x) × c.makes x (Ok goods)
    × EndsAtOutput D E goods name s o s' o'
MeetsTold {X = X} {F = F} D E c held s o unsaid s' o' =
    (x : X) × (goods : Goods F) × (reads c.takes held ≡ Ok x) × c.makes x (Ok goods)
    × EndsAtText D E goods s o s' o'
MeetsTold D E c held s o memory s' o' = Same D s s'
MeetsTold {X = X} D E c held s o (refused a) s' o' =
    ((reads c.takes held ≡ Err a) ⊎ ((x : X) × (reads c.takes held ≡ Ok x) × c.makes x (Err a)))
    × Same D s s'
