-- The files that a log tells: those that its takes read, and what its puts made of them. This project's own.
use Rattle.std.specs.Prelude.{◌≡◌, ℕ, List, [], ◌∷◌, ◌++◌, Some}
use Rattle.std.specs.FinMap.{empty, insert}
use Rattle.kx_edge.specs.Edge.{Files, read_of}
use Rattle.kx_edge.specs.declared.edge.Shelf.{Ghosts as Shelf}
use Rattle.kx_edge.specs.declared.edge.Sink.{Ghosts as Sink}
use Rattle.file_commands.specs.Answers.{Answer, not_accepted, refused}
use Rattle.call_log.specs.Calls.{Call, put, taken}

-- each take of the log gave what is read of these files
abbrev pub ReadAs : Files → List Call → Type 0
ReadAs held [] = Unit {0}
ReadAs held (taken name most bytes ∷ calls) = (bytes ≡ read_of held name most) × ReadAs held calls
ReadAs held (other ∷ calls) = ReadAs held calls

-- the files that the takes of a log gave; of a name that was taken twice, what it gave first
abbrev pub taken_files : List Call → Files
taken_files [] = empty
taken_files (taken name most bytes ∷ calls) = insert (taken_files calls) name bytes
taken_files (other ∷ calls) = taken_files calls

-- each take of this name gave these bytes
abbrev pub StaysAs : List ℕ → List ℕ → List Call → Type 0
StaysAs name bytes [] = Unit {0}
StaysAs name bytes (taken n most bs ∷ calls) = (name ≡ n → bs ≡ bytes) × StaysAs name bytes calls
StaysAs name bytes (other ∷ calls) = StaysAs name bytes calls

-- no name gave different bytes
abbrev pub IsSteady : List Call → Type 0
IsSteady [] = Unit {0}
IsSteady (taken name most bytes ∷ calls) = StaysAs name bytes calls × IsSteady calls
IsSteady (other ∷ calls) = IsSteady calls

-- these files, with each put of the log
abbrev pub with_puts : Files → List Call → Files
with_puts held [] = held
with_puts held (put name bytes ∷ calls) = with_puts (insert held name bytes) calls
with_puts held (other ∷ calls) = with_puts held calls

-- what was made has no fault, and nothing refused it
abbrev pub IsUnrefused : {F R : Type 0} → Answer F R → Type 0
IsUnrefused (not_accepted fault) = ⊥
IsUnrefused (refused why) = ⊥
IsUnrefused other = Unit {0}

-- a shelf that is its files, and a sink that is its bytes: both tell them, and never fail
abbrev pub of_files : Shelf Files
of_files = record {
  files = λ held. Some held;
  faults = λ held. 0;
  gives = λ held name most bytes now. (bytes ≡ read_of held name most) × (now ≡ held);
  fails = λ held name now. ⊥;
  wants = λ held name now. ⊥;
  puts = λ held name bytes now. now ≡ insert held name bytes;
  cuts = λ held name bytes now. ⊥;
}

abbrev pub of_bytes : Sink (List ℕ)
of_bytes = record {
  said = λ bytes. Some bytes;
  faults = λ bytes. 0;
  says = λ before bytes now. now ≡ before ++ bytes;
  breaks = λ before bytes now. ⊥;
}
