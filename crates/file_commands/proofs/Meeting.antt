-- How the parts of a command make up its answer, and that what is in order is done.
use Rattle.std.proofs.Common.{◌≡◌, ℕ, List, Option, Some, None, Result, Ok, Err, refl, sym, ap, ◌∙◌, subst, inl, inr}
use Rattle.std.specs.Prelude.{IfSome, ◌⊎◌}
use Rattle.kx_laws.proofs.Results.{ok_same}
use Rattle.kx_edge.specs.Edge.{Files, Rose}
use Rattle.kx_edge.specs.declared.edge.Shelf.{Ghosts as Shelf}
use Rattle.kx_edge.specs.declared.edge.Sink.{Ghosts as Sink}
use Rattle.file_commands.specs.declared.stop.TakeFault.{TakeFault}
use Rattle.file_commands.specs.declared.stop.TakeFault.TheVariants as takes
use Rattle.file_commands.specs.declared.stop.MakeFault.{MakeFault}
use Rattle.file_commands.specs.declared.stop.MakeFault.TheVariants as makes
use Rattle.file_commands.specs.declared.goods.Goods.{Goods as MadeGoods}
use Rattle.file_commands.specs.Taking.{Refusal, FailedAt, ok, reads, Same, Took}
use Rattle.file_commands.specs.Answers.{Answer, Command, Goods, FilesPut, FilesCut, PutAll, PutUpTo, SaysText, BreaksText, GoesOut, EndsAtOutput, EndsAtText, Delivers, Meets, MeetsTold, done, not_accepted, unread, unwritten, unsaid, memory, refused}
use Rattle.file_commands.proofs.Puts.{puts_files, puts_calm, torn_files, torn_rose}
use Rattle.file_commands.specs.inner.Calls.{Takes, TakesNot, Makes, goods_of, take_answer, make_answer}
use Rattle.file_commands.specs.inner.Order.{Completes, InOrder, Stands}
use Rattle.file_commands.proofs.Steps.{took_same, took_told, took_wanted, wanted_same, failed_rose, failed_never, failed_files}

module _ {S O X F R : Type 0} (D : Shelf S) (E : Sink O) (c : Command X F R) (s : S) (o : O) where
  -- the files could not be taken
  untaken_as : {T : Type 0} (view : T → X) (s' : S) (f : TakeFault R) → Takes D c.takes view s (Err f) s' → Meets D E c s o (take_answer f) s' o
  unfolding TakesNot
  untaken_as view s' (takes.Refused why) h = (inl h, refl)
  untaken_as view s' (takes.TooLong role name limit) h = (inl h, refl)
  untaken_as view s' (takes.Unread role name) h = (h, refl)
  untaken_as view s' takes.Memory h = (h, refl)

  pub meets_untaken : {T : Type 0} (view : T → X) (s' : S) (a : Answer F R) (f : TakeFault R) → a ≡ take_answer f → Takes D c.takes view s (Err f) s' → Meets D E c s o a s' o
  meets_untaken view s' a f e h = subst (λ a. Meets D E c s o a s' o) (sym e) (untaken_as view s' f h)

  -- nothing is made of them
  unmade_as : (x : X) (s' : S) (f : MakeFault R) → Took D c.takes s (Ok x) s' → Makes c.makes x (Err f) → Meets D E c s o (make_answer f) s' o
  unmade_as x s' (makes.Refused why) h m = (inr (x, h, m), refl)
  unmade_as x s' makes.Memory h m = (took_wanted D c.takes s s' (Ok x) h, refl)

  pub meets_unmade : (x : X) (s' : S) (a : Answer F R) (f : MakeFault R) → a ≡ make_answer f → Took D c.takes s (Ok x) s' → Makes c.makes x (Err f) → Meets D E c s o a s' o
  meets_unmade x s' a f e h m = subst (λ a. Meets D E c s o a s' o) (sym e) (unmade_as x s' f h m)

  -- the goods went out, or could not
  pub meets_delivered : (x : X) (mid s' : S) (o' : O) (goods : MadeGoods F) (a : Answer F R)
      → Took D c.takes s (Ok x) mid → Makes c.makes x (Ok goods) → Delivers D E (goods_of goods) mid o a s' o' → Meets D E c s o a s' o'
  meets_delivered x mid s' o' goods done h m d = (x, goods_of goods, mid, h, m, d)
  meets_delivered x mid s' o' goods (not_accepted fault) h m d = (x, goods_of goods, mid, h, m, d)
  meets_delivered x mid s' o' goods (unwritten name) h m d = (x, goods_of goods, mid, h, m, d)
  meets_delivered x mid s' o' goods unsaid h m d = (x, goods_of goods, mid, h, m, d)
  meets_delivered x mid s' o' goods (unread name) h m d = absurd d
  meets_delivered x mid s' o' goods memory h m d = absurd d
  meets_delivered x mid s' o' goods (refused a) h m d = absurd d

  -- what was taken stands where the command is in order
  stands_as : (files : Option Files) (r : Result X (Refusal R)) (mid : S) → InOrder c files → IfSome files (λ held. reads c.takes held ≡ r) → Took D c.takes s r mid → (x : X) × (r ≡ Ok x) × Stands c x
  unfolding Took
  stands_as None r mid i told h = (i.0, (subst (λ t. Took D t s r mid) i.1 h).0, i.2)
  stands_as (Some held) r mid i told h = (i.0, sym told ∙ i.1, i.2)

  stands : (r : Result X (Refusal R)) (mid : S) → InOrder c (D.files s) → Took D c.takes s r mid → (x : X) × (r ≡ Ok x) × Stands c x
  stands r mid i h = stands_as (D.files s) r mid i (took_told D c.takes s mid r h) h

  stands_ok : (x : X) (mid : S) → InOrder c (D.files s) → Took D c.takes s (Ok x) mid → Stands c x
  stands_ok x mid i h = let k = stands (Ok x) mid i h in subst (λ y. Stands c y) (sym (same x k.0 k.1)) k.2
    where
      same : (x y : X) → ◌≡◌ {A = Result X (Refusal R)} (Ok x) (Ok y) → x ≡ y
      same x y e = cc

  stands_err : (a : Refusal R) (mid : S) → InOrder c (D.files s) → Took D c.takes s (Err a) mid → ⊥
  stands_err a mid i h = let k = stands (Err a) mid i h in other k.0 a k.1
    where
      other : (x : X) (a : Refusal R) → ◌≡◌ {A = Result X (Refusal R)} (Err a) (Ok x) → ⊥
      other x a e = cc

  no_fault : (g : Option F) (f : F) → g ≡ None → g ≡ Some f → ⊥
  no_fault g f a b = cc

  pub completes : (a : Answer F R) (s' : S) (o' : O) → Meets D E c s o a s' o' → Completes D E c s o a s' o'
  completes done s' o' h i calm quiet = inl refl
  completes memory s' o' h i calm quiet = inr refl
  completes (not_accepted f) s' o' (x, goods, mid, h, m, d) i calm quiet = absurd (no_fault goods.fault f ((stands_ok x mid i h).whole goods m) d.0)
  completes (unread n) s' o' h i calm quiet = absurd (calm (failed_rose D c.takes s s' n h.0))
  completes (unwritten n) s' o' (x, goods, mid, h, m, d) i calm quiet = absurd (calm (subst (λ k. Rose k (D.faults s')) (took_same D c.takes s mid (Ok x) h).faults (torn_rose D goods.outputs mid s' n d.0)))
  completes unsaid s' o' (x, goods, mid, h, m, d) i calm quiet = absurd (quiet d.1.rose)
  completes (refused a) s' o' (inl h, same) i calm quiet = absurd (stands_err a s' i h)
  completes (refused a) s' o' (inr h, same) i calm quiet = absurd ((stands_ok h.0 s' i h.1).unrefused a h.2)

  -- the answers that tell of a device come only where its count of faults rose
  pub unread_rose : (s' : S) (o' : O) (n : List ℕ) → Meets D E c s o (unread n) s' o' → Rose (D.faults s) (D.faults s')
  unread_rose s' o' n h = failed_rose D c.takes s s' n h.0

  pub unread_never : (s' : S) (o' : O) (n : List ℕ) → ((s : S) (name : List ℕ) (t : S) → D.fails s name t → ⊥) → Meets D E c s o (unread n) s' o' → ⊥
  unread_never s' o' n never h = failed_never D c.takes s s' n never h.0

  pub unwritten_rose : (s' : S) (o' : O) (n : List ℕ) → Meets D E c s o (unwritten n) s' o' → Rose (D.faults s) (D.faults s')
  unwritten_rose s' o' n (x, goods, mid, h, m, d) = subst (λ k. Rose k (D.faults s')) (took_same D c.takes s mid (Ok x) h).faults (torn_rose D goods.outputs mid s' n d.0)

  pub unsaid_rose : (s' : S) (o' : O) → Meets D E c s o unsaid s' o' → Rose (E.faults o) (E.faults o')
  unsaid_rose s' o' (x, goods, mid, h, m, d) = d.1.rose

  -- what is seen where files are told
  told : {P Q : Files → Type 0} (files : Option Files) → ((held : Files) → P held → Q held) → IfSome files P → IfSome files Q
  told None f h = tt
  told (Some held) f h = f held h

  plain : {P : Type 0} (files : Option Files) → P → IfSome files (λ held. P)
  plain None p = tt
  plain (Some held) p = p

  module _ (mid : S) (same : Same D s mid) (goods : Goods F) (s' : S) (o' : O) where
    out_from : PutAll D goods.outputs mid s' → SaysText E o goods.text o' → GoesOut D E goods s o s' o'
    out_from p q = record { shelf = puts_calm D goods.outputs mid s' p ∙ same.faults; sink = q.calm; put = subst (λ f. FilesPut f goods.outputs (D.files s')) same.files (puts_files D goods.outputs mid s' p); said = q.said }

    cut_from : (name : List ℕ) → PutUpTo D goods.outputs mid name s' → o' ≡ o → EndsAtOutput D E goods name s o s' o'
    cut_from name p q = record {
      shelf = subst (λ n. Rose n (D.faults s')) same.faults (torn_rose D goods.outputs mid s' name p);
      sink = q;
      put = subst (λ f. FilesCut f goods.outputs name (D.files s')) same.files (torn_files D goods.outputs mid s' name p);
    }

    mute_from : PutAll D goods.outputs mid s' → BreaksText E o goods.text o' → EndsAtText D E goods s o s' o'
    mute_from p q = record { shelf = puts_calm D goods.outputs mid s' p ∙ same.faults; sink = q.rose; put = subst (λ f. FilesPut f goods.outputs (D.files s')) same.files (puts_files D goods.outputs mid s' p); said = q.said }

  pub meets_told : (a : Answer F R) (s' : S) (o' : O) → Meets D E c s o a s' o' → IfSome (D.files s) (λ held. MeetsTold D E c held s o a s' o')
  meets_told done s' o' (x, goods, mid, h, m, d) = told (D.files s) (λ held r. (x, goods, r, m, d.0, out_from mid (took_same D c.takes s mid (Ok x) h) goods s' o' d.1 d.2)) (took_told D c.takes s mid (Ok x) h)
  meets_told (not_accepted f) s' o' (x, goods, mid, h, m, d) = told (D.files s) (λ held r. (x, goods, r, m, d.0, out_from mid (took_same D c.takes s mid (Ok x) h) goods s' o' d.1 d.2)) (took_told D c.takes s mid (Ok x) h)
  meets_told (unread n) s' o' h = plain (D.files s) (failed_rose D c.takes s s' n h.0, failed_files D c.takes s s' n h.0)
  meets_told (unwritten n) s' o' (x, goods, mid, h, m, d) = told (D.files s) (λ held r. (x, goods, r, m, cut_from mid (took_same D c.takes s mid (Ok x) h) goods s' o' n d.0 d.1)) (took_told D c.takes s mid (Ok x) h)
  meets_told unsaid s' o' (x, goods, mid, h, m, d) = told (D.files s) (λ held r. (x, goods, r, m, mute_from mid (took_same D c.takes s mid (Ok x) h) goods s' o' d.0 d.1)) (took_told D c.takes s mid (Ok x) h)
  meets_told memory s' o' h = plain (D.files s) (wanted_same D c.takes s s' h.0)
  meets_told (refused a) s' o' (inl h, same) = told (D.files s) (λ held r. (inl r, took_same D c.takes s s' _ h)) (took_told D c.takes s s' _ h)
  meets_told (refused a) s' o' (inr h, same) = told (D.files s) (λ held r. (inr (h.0, r, h.2), took_same D c.takes s s' _ h.1)) (took_told D c.takes s s' _ h.1)

-- nothing but this refusal comes of what was read
abbrev pub RefusesFor : {X F R : Type 0} → Command X F R → X → Refusal R → Type 0
RefusesFor {F = F} {R = R} c x why = (r : Result (Goods F) (Refusal R)) → c.makes x r → r ≡ Err why

-- Where this is so, the refusal is the answer, or memory is wanted.
module _ {S O X F R : Type 0} (D : Shelf S) (E : Sink O) (c : Command X F R) (held : Files) (x : X) (why : Refusal R) where
  one_made : (y : X) (r : Result (Goods F) (Refusal R)) → reads c.takes held ≡ Ok x → reads c.takes held ≡ Ok y → RefusesFor c x why → c.makes y r → r ≡ Err why
  one_made y r read again only m = only r (subst (λ z. c.makes z r) (ok_same y x (sym again ∙ read)) m)

  not_goods : (goods : Goods F) → ◌≡◌ {A = Result (Goods F) (Refusal R)} (Ok goods) (Err why) → ⊥
  not_goods goods e = cc

  not_read : (a : Refusal R) → ◌≡◌ {A = Result X (Refusal R)} (Ok x) (Err a) → ⊥
  not_read a e = cc

  one_reason : (a : Refusal R) → ◌≡◌ {A = Result (Goods F) (Refusal R)} (Err a) (Err why) → a ≡ why
  one_reason a e = cc

  pub refuses : (s s' : S) (o o' : O) (a : Answer F R) → reads c.takes held ≡ Ok x → RefusesFor c x why
      → (Rose (D.faults s) (D.faults s') → ⊥) → (Rose (E.faults o) (E.faults o') → ⊥) → MeetsTold D E c held s o a s' o' → (a ≡ refused why) ⊎ (a ≡ memory)
  refuses s s' o o' done read only calm quiet (y, goods, again, m, fault, h) = absurd (not_goods goods (one_made y (Ok goods) read again only m))
  refuses s s' o o' (not_accepted f) read only calm quiet (y, goods, again, m, fault, h) = absurd (not_goods goods (one_made y (Ok goods) read again only m))
  refuses s s' o o' (unread n) read only calm quiet h = absurd (calm h.0)
  refuses s s' o o' (unwritten n) read only calm quiet (y, goods, again, m, h) = absurd (not_goods goods (one_made y (Ok goods) read again only m))
  refuses s s' o o' unsaid read only calm quiet (y, goods, again, m, h) = absurd (not_goods goods (one_made y (Ok goods) read again only m))
  refuses s s' o o' memory read only calm quiet h = inr refl
  refuses s s' o o' (refused a) read only calm quiet (inl h, same) = absurd (not_read a (sym read ∙ h))
  refuses s s' o o' (refused a) read only calm quiet (inr h, same) = inl (ap refused (one_reason a (one_made h.0 (Err a) read h.1 only h.2)))

-- what stands is done, or memory is wanted
module _ {S O X F R : Type 0} (D : Shelf S) (E : Sink O) (c : Command X F R) (held : Files) (x : X) where
  no_reason : (a : Refusal R) → ◌≡◌ {A = Result X (Refusal R)} (Ok x) (Err a) → ⊥
  no_reason a e = cc

  unfaulty : (g : Option F) (f : F) → g ≡ None → g ≡ Some f → ⊥
  unfaulty g f a b = cc

  as_read : (y : X) → reads c.takes held ≡ Ok x → reads c.takes held ≡ Ok y → Stands c x → Stands c y
  as_read y read again h = subst (λ z. Stands c z) (ok_same x y (sym read ∙ again)) h

  pub stands_told : (s s' : S) (o o' : O) (a : Answer F R) → reads c.takes held ≡ Ok x → Stands c x
      → (Rose (D.faults s) (D.faults s') → ⊥) → (Rose (E.faults o) (E.faults o') → ⊥) → MeetsTold D E c held s o a s' o' → (a ≡ done) ⊎ (a ≡ memory)
  stands_told s s' o o' done read h calm quiet m = inl refl
  stands_told s s' o o' (not_accepted f) read h calm quiet (y, goods, again, m, fault, out) = absurd (unfaulty goods.fault f ((as_read y read again h).whole goods m) fault)
  stands_told s s' o o' (unread n) read h calm quiet m = absurd (calm m.0)
  stands_told s s' o o' (unwritten n) read h calm quiet (y, goods, again, m, cut) = absurd (calm cut.shelf)
  stands_told s s' o o' unsaid read h calm quiet (y, goods, again, m, cut) = absurd (quiet cut.sink)
  stands_told s s' o o' memory read h calm quiet m = inr refl
  stands_told s s' o o' (refused a) read h calm quiet (inl r, same) = absurd (no_reason a (sym read ∙ r))
  stands_told s s' o o' (refused a) read h calm quiet (inr r, same) = absurd ((as_read r.0 read r.1 h).unrefused a r.2)

-- What takes no file is what it is, and does not fail.
module _ {S X F R : Type 0} (D : Shelf S) (c : Command X F R) (x : X) (none : c.takes ≡ ok x) (s : S) where
  pub took_none : (r : Result X (Refusal R)) (mid : S) → Took D c.takes s r mid → (r ≡ Ok x) × (mid ≡ s)
  unfolding Took
  took_none r mid h = subst (λ t. Took D t s r mid) none h

  pub fails_none : (n : List ℕ) (s' : S) → FailedAt D c.takes s n s' → ⊥
  unfolding FailedAt
  fails_none n s' h = subst (λ t. FailedAt D t s n s') none h

-- A command that takes no file does over every shelf what it does over files that are told.
module _ {S O X F R : Type 0} (D : Shelf S) (E : Sink O) (c : Command X F R) (x : X) (none : c.takes ≡ ok x) (s : S) (o : O) where
  read_none : (held : Files) → reads c.takes held ≡ Ok x
  read_none held = ap (λ t. reads t held) none

  pub alone_told : (held : Files) (s' : S) (o' : O) → Meets D E c s o done s' o' → MeetsTold D E c held s o done s' o'
  alone_told held s' o' (y, goods, mid, h, m, d) =
      (y, goods, read_none held ∙ sym (took_none D c x none s (Ok y) mid h).0, m, d.0, out_from D E c s o mid (took_same D c.takes s mid (Ok y) h) goods s' o' d.1 d.2)
