-- The devices under a log went by the calls that the log has, and by no others.
use Rattle.std.proofs.Common.{◌≡◌, ℕ, List, [], ◌∷◌, ◌++◌, Option, Some, Result, Ok, Err, ap, refl, subst, inl, inr}
use Rattle.kx_edge.specs.declared.edge.Shelf.{Ghosts as Shelf}
use Rattle.kx_edge.specs.declared.edge.Sink.{Ghosts as Sink}
use Rattle.file_commands.specs.Taking.{FailedAt, File, Refusal, Take, Took, WantedAt, file, ok, refuse}
use Rattle.file_commands.specs.Answers.{Answer, Command, Meets, PutAll, PutUpTo, done, memory, not_accepted, refused, unread, unsaid, unwritten}
use Rattle.call_log.specs.declared.log.Logging.{Logging}
use Rattle.call_log.specs.declared.recorder.Recorder.{Recorder}
use Rattle.call_log.specs.declared.recording_sink.RecordingSink.{RecordingSink}
use Rattle.call_log.specs.Calls.{Call, ShelfGoes, SinkGoes, put, said, taken, unput, untaken, wanting}
use Rattle.call_log.specs.Calls as of_log
use Rattle.call_log.specs.inner.Calls.{log_at_first}
use Rattle.call_log.proofs.Growing.{Grew, grew_more, grew_none, grew_same, grew_then, is_log, was_empty}
use Rattle.call_log.proofs.Recording.{recorder_over, recording_over}

module _ {S : Type 0} (D : Shelf S) where
  goes_then : (xs ys : List Call) (a b c : S) → ShelfGoes D a xs b → ShelfGoes D b ys c → ShelfGoes D a (xs ++ ys) c
  goes_then [] ys a b c h k = subst (λ a. ShelfGoes D a ys c) h k
  goes_then (taken name most bytes ∷ xs) ys a b c (mid, did, h) k = (mid, did, goes_then xs ys mid b c h k)
  goes_then (untaken name ∷ xs) ys a b c (mid, did, h) k = (mid, did, goes_then xs ys mid b c h k)
  goes_then (wanting name ∷ xs) ys a b c (mid, did, h) k = (mid, did, goes_then xs ys mid b c h k)
  goes_then (put name bytes ∷ xs) ys a b c (mid, did, h) k = (mid, did, goes_then xs ys mid b c h k)
  goes_then (unput name bytes ∷ xs) ys a b c (mid, did, h) k = (mid, did, goes_then xs ys mid b c h k)
  goes_then (said bytes ∷ xs) ys a b c h k = absurd h
  goes_then (of_log.unsaid bytes ∷ xs) ys a b c h k = absurd h

  -- the shelf goes by some calls, and its log grows by these
  abbrev pub Grows : Recorder S → Recorder S → Type 0
  Grows s t = (calls : List Call) × ShelfGoes D s.inner calls t.inner × Grew s.log calls t.log

  stays : (s t : Recorder S) → t ≡ s → Grows s t
  stays s t e = ([], ap (λ s. s.inner) e, grew_same s.log t.log (ap (λ s. s.log) e))

  grows_then : (s mid t : Recorder S) → Grows s mid → Grows mid t → Grows s t
  grows_then s mid t (xs, a, g) (ys, b, h) = (xs ++ ys, goes_then xs ys s.inner mid.inner t.inner a b, grew_then s.log mid.log t.log xs ys g h)

  took : {R X : Type 0} (t : Take R X) (s new : Recorder S) (r : Result X (Refusal R)) → Took (recorder_over D) t s r new → Grows s new
  unfolding Took
  took (ok x) s new r h = stays s new h.1
  took (refuse a) s new r h = stays s new h.1
  took (file name most next) s new r (bytes, mid, gave, more) =
      let m = took (next bytes) mid new r more in
      (taken name most bytes ∷ m.0, (mid.inner, gave.took.0, m.1), grew_more s.log mid.log new.log (taken name most bytes) m.0 gave.took.1 m.2)

  failed : {R X : Type 0} (t : Take R X) (s new : Recorder S) (which : List ℕ) → FailedAt (recorder_over D) t s which new → Grows s new
  unfolding FailedAt
  failed (ok x) s new which h = absurd h
  failed (refuse a) s new which h = absurd h
  failed (file name most next) s new which (inl h) =
      (untaken name ∷ [], (new.inner, h.1.took.0, refl), grew_more s.log new.log new.log (untaken name) [] h.1.took.1 (grew_none new.log))
  failed (file name most next) s new which (inr (bytes, mid, gave, more)) =
      let m = failed (next bytes) mid new which more in
      (taken name most bytes ∷ m.0, (mid.inner, gave.took.0, m.1), grew_more s.log mid.log new.log (taken name most bytes) m.0 gave.took.1 m.2)

  wanted : {R X : Type 0} (t : Take R X) (s new : Recorder S) → WantedAt (recorder_over D) t s new → Grows s new
  unfolding WantedAt
  wanted (ok x) s new h = stays s new h
  wanted (refuse a) s new h = stays s new h
  wanted (file name most next) s new (inl h) = stays s new h
  wanted (file name most next) s new (inr (inl h)) =
      (wanting name ∷ [], (new.inner, h.took.0, refl), grew_more s.log new.log new.log (wanting name) [] h.took.1 (grew_none new.log))
  wanted (file name most next) s new (inr (inr (bytes, mid, gave, more))) =
      let m = wanted (next bytes) mid new more in
      (taken name most bytes ∷ m.0, (mid.inner, gave.took.0, m.1), grew_more s.log mid.log new.log (taken name most bytes) m.0 gave.took.1 m.2)

  puts : (os : List File) (s t : Recorder S) → PutAll (recorder_over D) os s t → Grows s t
  puts [] s t e = stays s t e
  puts (o ∷ os) s t (mid, p, more) =
      let m = puts os mid t more in
      (put o.0 o.1 ∷ m.0, (mid.inner, p.did.0, m.1), grew_more s.log mid.log t.log (put o.0 o.1) m.0 p.did.1 m.2)

  torn : (os : List File) (s t : Recorder S) (which : List ℕ) → PutUpTo (recorder_over D) os s which t → Grows s t
  torn [] s t which h = absurd h
  torn (o ∷ os) s t which (inl h) =
      (unput o.0 o.1 ∷ [], (t.inner, h.1.did.0, refl), grew_more s.log t.log t.log (unput o.0 o.1) [] h.1.did.1 (grew_none t.log))
  torn (o ∷ os) s t which (inr (mid, p, more)) =
      let m = torn os mid t which more in
      (put o.0 o.1 ∷ m.0, (mid.inner, p.did.0, m.1), grew_more s.log mid.log t.log (put o.0 o.1) m.0 p.did.1 m.2)

module _ {O : Type 0} (E : Sink O) where
  abbrev pub GrowsOut : RecordingSink O → RecordingSink O → Type 0
  GrowsOut o p = (text : List Call) × SinkGoes E o.inner text p.inner × Grew o.log text p.log

  silent : (o p : RecordingSink O) → p ≡ o → GrowsOut o p
  silent o p e = ([], ap (λ o. o.inner) e, grew_same o.log p.log (ap (λ o. o.log) e))

  says : (o p : RecordingSink O) (bytes : List ℕ) → (recording_over E).says o bytes p → GrowsOut o p
  says o p bytes h = (said bytes ∷ [], (p.inner, h.0, refl), grew_more o.log p.log p.log (said bytes) [] h.1 (grew_none p.log))

  breaks : (o p : RecordingSink O) (bytes : List ℕ) → (recording_over E).breaks o bytes p → GrowsOut o p
  breaks o p bytes h = (of_log.unsaid bytes ∷ [], (p.inner, h.0, refl), grew_more o.log p.log p.log (of_log.unsaid bytes) [] h.1 (grew_none p.log))

module _ {S O X F R : Type 0} (D : Shelf S) (E : Sink O) (c : Command X F R) (s : Recorder S) (o : RecordingSink O) (s' : Recorder S) (o' : RecordingSink O) where
  pub goes_by : (a : Answer F R) → Meets (recorder_over D) (recording_over E) c s o a s' o' → Grows D s s' × GrowsOut E o o'
  goes_by done (x, goods, mid, h, m, d) = (grows_then D s mid s' (took D c.takes s mid (Ok x) h) (puts D goods.outputs mid s' d.1), says E o o' goods.text d.2.did)
  goes_by (not_accepted f) (x, goods, mid, h, m, d) = (grows_then D s mid s' (took D c.takes s mid (Ok x) h) (puts D goods.outputs mid s' d.1), says E o o' goods.text d.2.did)
  goes_by (unread name) h = (failed D c.takes s s' name h.0, silent E o o' h.1)
  goes_by (unwritten name) (x, goods, mid, h, m, d) = (grows_then D s mid s' (took D c.takes s mid (Ok x) h) (torn D goods.outputs mid s' name d.0), silent E o o' d.1)
  goes_by unsaid (x, goods, mid, h, m, d) = (grows_then D s mid s' (took D c.takes s mid (Ok x) h) (puts D goods.outputs mid s' d.0), breaks E o o' goods.text d.1.did)
  goes_by memory h = (wanted D c.takes s s' h.0, silent E o o' h.1)
  goes_by (refused a) (inl h, e) = (took D c.takes s s' (Err a) h, silent E o o' e)
  goes_by (refused a) (inr (x, h, m), e) = (took D c.takes s s' (Ok x) h, silent E o o' e)

-- a log that was empty or off at first, and is whole at the end, has these calls
pub whole_log : (logging : Logging) (now : Option (List Call)) (calls all : List Call) → Grew (log_at_first logging) calls now → now ≡ Some all → all ≡ calls
whole_log logging now calls all g e = is_log (log_at_first logging) now calls all (was_empty logging now calls all g e) e g
