-- What holds of the command that words say, and so of each call that runs it.
use Rattle.std.proofs.Common.{◌≡◌, ℕ, List, Option, Some, None, Result, Ok, Err, subst}
use Rattle.std.specs.Prelude.{IfSome, ◌⊎◌}
use Rattle.kx_edge.specs.Edge.{Files, Rose}
use Rattle.kx_edge.specs.declared.edge.Shelf.{Ghosts as Shelf}
use Rattle.kx_edge.specs.declared.edge.Sink.{Ghosts as Sink}
use Rattle.file_commands.specs.Answers.{Answer, Command, Meets, MeetsTold, done, memory, refused, unread, unsaid, unwritten}
use Rattle.file_commands.specs.Taking.{Refusal}
use Rattle.file_commands.specs.Entry.{Entry, Holds, IsDone, IsReady, IsRefused, NeedsNoFiles}
use Rattle.file_commands.proofs.Keeping.{Keeps, alone, complete, has_done, refused_for, was_ready}
use Rattle.file_commands.proofs.Meeting as meeting

module _ {C W F R : Type 0} (entry_of : C → Entry F R) (reason : W → R) where
  holds_as : (P Q : (X : Type 0) → Command X F R → Type 0) → ((X : Type 0) (c : Command X F R) → P X c → Q X c) → (w : Result C W) → Holds entry_of reason P w → Holds entry_of reason Q w
  holds_as P Q f (Err why) h = f _ _ h
  holds_as P Q f (Ok c) h = f _ _ h

  -- what does not speak of the command
  holds_one : (P : Type 0) (w : Result C W) → Holds entry_of reason (λ X c. P) w → P
  holds_one P (Err why) h = h
  holds_one P (Ok c) h = h

  -- what holds of the command that is said
  pub holds_of : (P : (X : Type 0) → Command X F R → Type 0) (w : Result C W) (c : C) → w ≡ Ok c → Holds entry_of reason P w → P (entry_of c).Inputs (entry_of c).command
  holds_of P w c e h = subst (λ w. Holds entry_of reason P w) e h

  module _ {S O : Type 0} (D : Shelf S) (E : Sink O) (s : S) (o : O) (a : Answer F R) (s' : S) (o' : O) (w : Result C W) where
    abbrev pub Answers : Type 0
    Answers = Holds entry_of reason (λ X c. Meets D E c s o a s' o') w

    gathered : (files : Option Files) → Holds entry_of reason (λ X c. IfSome files (λ held. MeetsTold D E c held s o a s' o')) w → IfSome files (λ held. Holds entry_of reason (λ X c. MeetsTold D E c held s o a s' o') w)
    gathered None h = tt
    gathered (Some held) h = h

    pub told : Answers → IfSome (D.files s) (λ held. Holds entry_of reason (λ X c. MeetsTold D E c held s o a s' o') w)
    told h = gathered (D.files s) (holds_as (λ X c. Meets D E c s o a s' o') (λ X c. IfSome (D.files s) (λ held. MeetsTold D E c held s o a s' o')) (λ X c m. meeting.meets_told D E c s o a s' o' m) w h)

    -- what is told gives what follows from it
    following : {P Q : Files → Type 0} (files : Option Files) → ((held : Files) → P held → Q held) → IfSome files P → IfSome files Q
    following None f h = tt
    following (Some held) f h = f held h

    -- what follows for the command that is said, where files are told
    gives : {Q : Files → Type 0} (c : C) → w ≡ Ok c → ((held : Files) → MeetsTold D E (entry_of c).command held s o a s' o' → Q held) → Answers → IfSome (D.files s) Q
    gives c e f h = following (D.files s) (λ held k. f held (holds_of (λ X c. MeetsTold D E c held s o a s' o') w c e k)) (told h)

    -- the answers that tell of a device come only where its count of faults rose
    pub unread_rose : (n : List ℕ) → a ≡ unread n → Answers → Rose (D.faults s) (D.faults s')
    unread_rose n e h = holds_one _ w (holds_as (λ X c. Meets D E c s o a s' o') (λ X c. Rose (D.faults s) (D.faults s')) (λ X c m. meeting.unread_rose D E c s o s' o' n (subst (λ a. Meets D E c s o a s' o') e m)) w h)

    -- and none tells of a file that could not be read over a shelf whose takes never fail
    pub unread_never : (n : List ℕ) → ((s : S) (name : List ℕ) (t : S) → D.fails s name t → ⊥) → a ≡ unread n → Answers → ⊥
    unread_never n never e h = holds_one ⊥ w (holds_as (λ X c. Meets D E c s o a s' o') (λ X c. ⊥) (λ X c m. meeting.unread_never D E c s o s' o' n never (subst (λ a. Meets D E c s o a s' o') e m)) w h)

    pub unwritten_rose : (n : List ℕ) → a ≡ unwritten n → Answers → Rose (D.faults s) (D.faults s')
    unwritten_rose n e h = holds_one _ w (holds_as (λ X c. Meets D E c s o a s' o') (λ X c. Rose (D.faults s) (D.faults s')) (λ X c m. meeting.unwritten_rose D E c s o s' o' n (subst (λ a. Meets D E c s o a s' o') e m)) w h)

    pub unsaid_rose : a ≡ unsaid → Answers → Rose (E.faults o) (E.faults o')
    unsaid_rose e h = holds_one _ w (holds_as (λ X c. Meets D E c s o a s' o') (λ X c. Rose (E.faults o) (E.faults o')) (λ X c m. meeting.unsaid_rose D E c s o s' o' (subst (λ a. Meets D E c s o a s' o') e m)) w h)

    -- and what follows where it was done
    pub said_gives : {Q : Files → Type 0} (c : C) → w ≡ Ok c → a ≡ done → ((held : Files) → MeetsTold D E (entry_of c).command held s o done s' o' → Q held) → Answers → IfSome (D.files s) Q
    said_gives c e f g h = gives c e (λ held m. g held (subst (λ a. MeetsTold D E (entry_of c).command held s o a s' o') f m)) h

    -- each command keeps its laws, so the one that is said does
    module _ (keeps : (c : C) → Keeps (entry_of c)) (c : C) (said : w ≡ Ok c) where
      pub said_done : a ≡ done → Answers → IfSome (D.files s) (λ held. IsDone D E (entry_of c) held s o s' o')
      said_done f h = gives c said (λ held m. has_done D E (entry_of c) (keeps c) s o s' o' held a f m) h

      pub said_ready : a ≡ done → Answers → IfSome (D.files s) (λ held. IsReady (entry_of c) held)
      said_ready f h = gives c said (λ held m. was_ready D E (entry_of c) (keeps c) s o s' o' held a f m) h

      pub said_complete : Answers → IfSome (D.files s) (λ held. IsReady (entry_of c) held → (Rose (D.faults s) (D.faults s') → ⊥) → (Rose (E.faults o) (E.faults o') → ⊥) → (a ≡ done) ⊎ (a ≡ memory))
      said_complete h = gives c said (λ held m. λ i calm quiet. complete D E (entry_of c) (keeps c) s o s' o' held a calm quiet i m) h

      pub said_refused : Answers → IfSome (D.files s) (λ held. (why : Refusal R) → IsRefused (entry_of c) held why → (Rose (D.faults s) (D.faults s') → ⊥) → (Rose (E.faults o) (E.faults o') → ⊥) → (a ≡ refused why) ⊎ (a ≡ memory))
      said_refused h = gives c said (λ held m. λ why r calm quiet. refused_for D E (entry_of c) (keeps c) s o s' o' held a calm quiet why r m) h

      pub said_alone : Answers → NeedsNoFiles D E (entry_of c) s o a s' o'
      said_alone h = alone D E (entry_of c) (keeps c) s o s' o' a (holds_of (λ X p. Meets D E p s o a s' o') w c said h)
