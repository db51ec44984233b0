-- Takes that follow one another.
use Rattle.std.proofs.Common.{◌≡◌, ℕ, List, Option, Some, None, Result, Ok, Err, refl, sym, ap, ◌∙◌, subst, inl, inr}
use Rattle.std.specs.Prelude.{IfSome, ◌⊎◌}
use Rattle.kx_laws.proofs.Results.{ok_same}
use Rattle.kx_edge.specs.Edge.{Files, Rose, read_of}
use Rattle.kx_edge.specs.declared.edge.Shelf.{Ghosts as Shelf}
use Rattle.file_commands.specs.declared.stop.TakeFault.{TakeFault}
use Rattle.file_commands.specs.declared.stop.TakeFault.TheVariants as takes
use Rattle.file_commands.specs.Files.{from_reader}
use Rattle.file_commands.specs.Taking.{Refusal, Take, ok, refuse, by, file, and_then, ◌>>=◌, reads, Same, Took, FailedAt, WantedAt}
use Rattle.file_commands.specs.inner.Calls.{Takes, TakesNot}

same_err : {R X : Type 0} (a b : Refusal R) → ◌≡◌ {A = Result X (Refusal R)} (Err a) (Err b) → a ≡ b
same_err a b e = cc

ok_err : {R X : Type 0} (x : X) (a : Refusal R) → ◌≡◌ {A = Result X (Refusal R)} (Ok x) (Err a) → ⊥
ok_err x a e = cc

-- what is read of takes that follow one another
pub reads_ok : {R X Y : Type 0} (t : Take R X) (f : X → Take R Y) (held : Files) (x : X) → reads t held ≡ Ok x → reads (and_then t f) held ≡ reads (f x) held
unfolding and_then
reads_ok {R} (ok y) f held x e = ap (λ z. reads (f z) held) (ok_same {F = Refusal R} y x e)
reads_ok (refuse a) f held x e = absurd (ok_err x a (sym e))
reads_ok (file name most next) f held x e = reads_ok (next (read_of held name most)) f held x e

pub reads_err : {R X Y : Type 0} (t : Take R X) (f : X → Take R Y) (held : Files) (a : Refusal R) → reads t held ≡ Err a → reads (and_then t f) held ≡ Err a
unfolding and_then
reads_err (ok y) f held a e = absurd (ok_err y a e)
reads_err {X = X} (refuse b) f held a e = ap Err (same_err {X = X} b a e)
reads_err (file name most next) f held a e = reads_err (next (read_of held name most)) f held a e

-- what was read of takes that follow one another was read of each
pub reads_cases : {R X Y : Type 0} (t : Take R X) (f : X → Take R Y) (held : Files) (y : Y) → reads (and_then t f) held ≡ Ok y → (x : X) × (reads t held ≡ Ok x) × (reads (f x) held ≡ Ok y)
unfolding and_then
reads_cases (ok x) f held y h = (x, refl, h)
reads_cases (refuse a) f held y h = absurd (ok_err y a (sym h))
reads_cases (file name most next) f held y h = reads_cases (next (read_of held name most)) f held y h

module _ {S : Type 0} (D : Shelf S) where
  same_self : (s t : S) → t ≡ s → Same D s t
  same_self s t e = record { files = ap D.files e; faults = ap D.faults e }

  pub same_then : (s t u : S) → Same D s t → Same D t u → Same D s u
  same_then s t u a b = record { files = b.files ∙ a.files; faults = b.faults ∙ a.faults }

  -- what takes leave of the shelf
  pub took_same : {R X : Type 0} (t : Take R X) (s new : S) (r : Result X (Refusal R)) → Took D t s r new → Same D s new
  unfolding Took
  took_same (ok x) s new r h = same_self s new h.1
  took_same (refuse a) s new r h = same_self s new h.1
  took_same (file name most next) s new r (bytes, mid, gave, rest) = same_then s mid new gave.same (took_same (next bytes) mid new r rest)

  -- what is taken first, and then more
  took_next : {R X Y : Type 0} (t : Take R X) (f : X → Take R Y) (s mid new : S) (x : X) (r : Result Y (Refusal R)) → Took D t s (Ok x) mid → Took D (f x) mid r new → Took D (t >>= f) s r new
  unfolding and_then Took
  took_next {R} (ok y) f s mid new x r h k = subst (λ m. Took D (f y) m r new) h.1 (subst (λ z. Took D (f z) mid r new) (ok_same {F = Refusal R} x y h.0) k)
  took_next (refuse a) f s mid new x r h k = absurd (ok_err x a h.0)
  took_next (file name most next) f s mid new x r (bytes, m, gave, rest) k = (bytes, m, gave, took_next (next bytes) f m mid new x r rest k)

  took_stop : {R X Y : Type 0} (t : Take R X) (f : X → Take R Y) (s new : S) (a : Refusal R) → Took D t s (Err a) new → Took D (t >>= f) s (Err a) new
  unfolding and_then Took
  took_stop (ok y) f s new a h = absurd (ok_err y a (sym h.0))
  took_stop {R} {X} (refuse b) f s new a h = (ap Err (same_err {X = X} a b h.0), h.1)
  took_stop (file name most next) f s new a (bytes, m, gave, rest) = (bytes, m, gave, took_stop (next bytes) f m new a rest)

  failed_next : {R X Y : Type 0} (t : Take R X) (f : X → Take R Y) (s mid new : S) (x : X) (n : List ℕ) → Took D t s (Ok x) mid → FailedAt D (f x) mid n new → FailedAt D (t >>= f) s n new
  unfolding and_then Took FailedAt
  failed_next {R} (ok y) f s mid new x n h k = subst (λ m. FailedAt D (f y) m n new) h.1 (subst (λ z. FailedAt D (f z) mid n new) (ok_same {F = Refusal R} x y h.0) k)
  failed_next (refuse a) f s mid new x n h k = absurd (ok_err x a h.0)
  failed_next (file name most next) f s mid new x n (bytes, m, gave, rest) k = inr (bytes, m, gave, failed_next (next bytes) f m mid new x n rest k)

  failed_stop : {R X Y : Type 0} (t : Take R X) (f : X → Take R Y) (s new : S) (n : List ℕ) → FailedAt D t s n new → FailedAt D (t >>= f) s n new
  unfolding and_then FailedAt
  failed_stop (ok y) f s new n h = absurd h
  failed_stop (refuse b) f s new n h = absurd h
  failed_stop (file name most next) f s new n (inl h) = inl h
  failed_stop (file name most next) f s new n (inr h) = inr (h.0, h.1, h.2, failed_stop (next h.0) f h.1 new n h.3)

  -- memory may be wanted before a take, and after all of them
  wanted_here : {R X : Type 0} (t : Take R X) (s : S) → WantedAt D t s s
  unfolding WantedAt
  wanted_here (ok x) s = refl
  wanted_here (refuse a) s = refl
  wanted_here (file name most next) s = inl refl

  pub took_wanted : {R X : Type 0} (t : Take R X) (s new : S) (r : Result X (Refusal R)) → Took D t s r new → WantedAt D t s new
  unfolding Took WantedAt
  took_wanted (ok x) s new r h = h.1
  took_wanted (refuse a) s new r h = h.1
  took_wanted (file name most next) s new r (bytes, mid, gave, rest) = inr (inr (bytes, mid, gave, took_wanted (next bytes) mid new r rest))

  pub wanted_same : {R X : Type 0} (t : Take R X) (s new : S) → WantedAt D t s new → Same D s new
  unfolding WantedAt
  wanted_same (ok x) s new h = same_self s new h
  wanted_same (refuse a) s new h = same_self s new h
  wanted_same (file name most next) s new (inl h) = same_self s new h
  wanted_same (file name most next) s new (inr (inl h)) = h.same
  wanted_same (file name most next) s new (inr (inr (bytes, mid, gave, rest))) = same_then s mid new gave.same (wanted_same (next bytes) mid new rest)

  wanted_next : {R X Y : Type 0} (t : Take R X) (f : X → Take R Y) (s mid new : S) (x : X) → Took D t s (Ok x) mid → WantedAt D (f x) mid new → WantedAt D (t >>= f) s new
  unfolding and_then Took WantedAt
  wanted_next {R} (ok y) f s mid new x h k = subst (λ m. WantedAt D (f y) m new) h.1 (subst (λ z. WantedAt D (f z) mid new) (ok_same {F = Refusal R} x y h.0) k)
  wanted_next (refuse a) f s mid new x h k = absurd (ok_err x a h.0)
  wanted_next (file name most next) f s mid new x (bytes, m, gave, rest) k = inr (inr (bytes, m, gave, wanted_next (next bytes) f m mid new x rest k))

  wanted_stop : {R X Y : Type 0} (t : Take R X) (f : X → Take R Y) (s new : S) → WantedAt D t s new → WantedAt D (t >>= f) s new
  unfolding and_then WantedAt
  wanted_stop (ok y) f s new h = subst (λ m. WantedAt D (f y) s m) (sym h) (wanted_here (f y) s)
  wanted_stop (refuse b) f s new h = h
  wanted_stop (file name most next) f s new (inl h) = inl h
  wanted_stop (file name most next) f s new (inr (inl h)) = inr (inl h)
  wanted_stop (file name most next) f s new (inr (inr (bytes, m, gave, rest))) = inr (inr (bytes, m, gave, wanted_stop (next bytes) f m new rest))

  -- After some of the takes of `t` the shelf is at `mid`, and these are left.
  pub record Left {R X : Type 0} (t : Take R X) (s : S) (rest : Take R X) (mid : S) : Type 0 where
    pub same : Same D s mid
    pub wanted : (new : S) → WantedAt D rest mid new → WantedAt D t s new
    pub took : (r : Result X (Refusal R)) (new : S) → Took D rest mid r new → Took D t s r new
    pub failed : (n : List ℕ) (new : S) → FailedAt D rest mid n new → FailedAt D t s n new

  -- all are left
  pub start : {R X : Type 0} (t : Take R X) (s : S) → Left t s t s
  start t s = record { same = same_self s s refl; wanted = λ new h. h; took = λ r new h. h; failed = λ n new h. h }

  -- the next was taken
  pub next : {R X Y : Type 0} {t : Take R Y} {s mid new : S} {x : X} (first : Take R X) (f : X → Take R Y) → Left t s (and_then first f) mid → Took D first mid (Ok x) new → Left t s (f x) new
  next {t = t} {s = s} {mid = mid} {new = new} {x = x} first f l h = record {
    same = same_then s mid new l.same (took_same first mid new (Ok x) h);
    wanted = λ late k. l.wanted late (wanted_next first f mid new late x h k);
    took = λ r late k. l.took r late (took_next first f mid new late x r h k);
    failed = λ n late k. l.failed n late (failed_next first f mid new late x n h k);
  }

  -- the next was not taken
  stopped_by : {R X Y : Type 0} (t : Take R Y) (s mid new : S) (first : Take R X) (f : X → Take R Y) (e : TakeFault R) → Left t s (and_then first f) mid → TakesNot D first mid e new → TakesNot D t s e new
  unfolding TakesNot
  stopped_by t s mid new first f (takes.Refused why) l h = l.took _ new (took_stop first f mid new _ h)
  stopped_by t s mid new first f (takes.TooLong role name limit) l h = l.took _ new (took_stop first f mid new _ h)
  stopped_by t s mid new first f (takes.Unread role name) l h = l.failed _ new (failed_stop first f mid new _ h)
  stopped_by t s mid new first f takes.Memory l h = l.wanted new (wanted_stop first f mid new h)

  pub stopped : {R X Y Z : Type 0} {t : Take R Y} {s mid : S} {e : TakeFault R} (new : S) (first : Take R X) (f : X → Take R Y) (look : Z → Y) (result : Result Z (TakeFault R))
      → result ≡ Err e → Left t s (and_then first f) mid → TakesNot D first mid e new → Takes D t look s result new
  stopped {t = t} {s = s} {mid = mid} {e = e} new first f look result is l h = subst (λ r. Takes D t look s r new) (sym is) (stopped_by t s mid new first f e l h)

  -- there was no memory for more
  pub wanting : {R X Z : Type 0} {t : Take R X} {s new : S} {rest : Take R X} (look : Z → X) (result : Result Z (TakeFault R)) → result ≡ Err takes.Memory → Left t s rest new → Takes D t look s result new
  unfolding TakesNot
  wanting {t = t} {s = s} {new = new} {rest = rest} look result is l = subst (λ r. Takes D t look s r new) (sym is) (l.wanted new (wanted_here rest new))

  -- what is known needs no take: it passes, or refuses
  pub passed : {F R X Y : Type 0} {t : Take R Y} {s mid : S} (reason : F → R) (r : Result X F) (x : X) (f : X → Take R Y) → r ≡ Ok x → Left t s (and_then (from_reader reason r) f) mid → Left t s (f x) mid
  unfolding and_then
  passed {t = t} {s = s} {mid = mid} reason r x f e l = subst (λ r. Left t s (and_then (from_reader reason r) f) mid) e l

  refused_by : {F R X : Type 0} (reason : F → R) (r : Result X F) (what : F) (s : S) → r ≡ Err what → TakesNot D (from_reader reason r) s (takes.Refused (reason what)) s
  unfolding TakesNot Took
  refused_by reason r what s e = subst (λ r. Took D (from_reader reason r) s (Err (by (reason what))) s) (sym e) (refl, refl)

  pub refused_here : {F R X Y Z : Type 0} {t : Take R Y} {s mid : S} (reason : F → R) (r : Result X F) (what : F) (f : X → Take R Y) (look : Z → Y) (result : Result Z (TakeFault R))
      → result ≡ Err (takes.Refused (reason what)) → r ≡ Err what → Left t s (and_then (from_reader reason r) f) mid → Takes D t look s result mid
  refused_here {mid = mid} reason r what f look result is e l = stopped mid (from_reader reason r) f look result is l (refused_by reason r what mid e)

  -- nothing is left
  pub finished : {R Y : Type 0} {t : Take R Y} {s new : S} {y : Y} → Left t s (ok y) new → Took D t s (Ok y) new
  unfolding Took
  finished {new = new} l = l.took _ new (refl, refl)

  -- what needs no file is what it is
  pub took_ok : {X : Type 0} (R : Type 0) (x y : X) (s new : S) → Took {R = R} D (ok y) s (Ok x) new → x ≡ y
  unfolding Took
  took_ok R x y s new h = ok_same {F = Refusal R} x y h.0

  -- what is made is what the files say, where they are told
  told_step : (o o' : Option Files) (P : List ℕ → Files → Type 0) (name bytes : List ℕ) (most : ℕ) → o' ≡ o → IfSome o (λ held. bytes ≡ read_of held name most) → IfSome o' (λ held. P bytes held)
      → IfSome o (λ held. P (read_of held name most) held)
  told_step None o' P name bytes most e h k = tt
  told_step (Some held) o' P name bytes most e h k = subst (λ b. P b held) h (subst (λ o. IfSome o (λ held. P bytes held)) e k)

  pub took_told : {R X : Type 0} (t : Take R X) (s new : S) (r : Result X (Refusal R)) → Took D t s r new → IfSome (D.files s) (λ held. reads t held ≡ r)
  unfolding Took
  took_told (ok x) s new r h = all (D.files s) (sym h.0)
    where
      all : {P : Type 0} (o : Option Files) → P → IfSome o (λ held. P)
      all None p = tt
      all (Some held) p = p
  took_told (refuse a) s new r h = all (D.files s) (sym h.0)
    where
      all : {P : Type 0} (o : Option Files) → P → IfSome o (λ held. P)
      all None p = tt
      all (Some held) p = p
  took_told (file name most next) s new r (bytes, mid, gave, rest) =
      told_step (D.files s) (D.files mid) (λ b held. reads (next b) held ≡ r) name bytes most gave.same.files gave.told (took_told (next bytes) mid new r rest)

  pub failed_rose : {R X : Type 0} (t : Take R X) (s new : S) (n : List ℕ) → FailedAt D t s n new → Rose (D.faults s) (D.faults new)
  unfolding FailedAt
  failed_rose (ok x) s new n h = absurd h
  failed_rose (refuse a) s new n h = absurd h
  failed_rose (file name most next) s new n (inl h) = h.1.rose
  failed_rose (file name most next) s new n (inr h) = subst (λ k. Rose k (D.faults new)) h.2.same.faults (failed_rose (next h.0) h.1 new n h.3)

  -- over a shelf whose takes never fail none does
  pub failed_never : {R X : Type 0} (t : Take R X) (s new : S) (n : List ℕ) → ((s : S) (name : List ℕ) (t : S) → D.fails s name t → ⊥) → FailedAt D t s n new → ⊥
  unfolding FailedAt
  failed_never (ok x) s new n never h = h
  failed_never (refuse a) s new n never h = h
  failed_never (file name most next) s new n never (inl h) = never s name new h.1.took
  failed_never (file name most next) s new n never (inr h) = failed_never (next h.0) h.1 new n never h.3

  pub failed_files : {R X : Type 0} (t : Take R X) (s new : S) (n : List ℕ) → FailedAt D t s n new → D.files new ≡ D.files s
  unfolding FailedAt
  failed_files (ok x) s new n h = absurd h
  failed_files (refuse a) s new n h = absurd h
  failed_files (file name most next) s new n (inl h) = h.1.files
  failed_files (file name most next) s new n (inr h) = failed_files (next h.0) h.1 new n h.3 ∙ h.2.same.files

  -- where takes that follow one another failed
  pub failed_cases : {R X Y : Type 0} (t : Take R X) (f : X → Take R Y) (s new : S) (n : List ℕ) → FailedAt D (and_then t f) s n new
      → FailedAt D t s n new ⊎ ((x : X) × (mid : S) × Took D t s (Ok x) mid × FailedAt D (f x) mid n new)
  unfolding and_then Took FailedAt
  failed_cases (ok y) f s new n h = inr (y, s, (refl, refl), h)
  failed_cases (refuse a) f s new n h = absurd h
  failed_cases (file name most next) f s new n (inl h) = inl (inl h)
  failed_cases {X = X} (file name most next) f s new n (inr (bytes, m, gave, rest)) = go (failed_cases (next bytes) f m new n rest)
    where
      go : FailedAt D (next bytes) m n new ⊎ ((x : X) × (mid : S) × Took D (next bytes) m (Ok x) mid × FailedAt D (f x) mid n new)
          → FailedAt D (file name most next) s n new ⊎ ((x : X) × (mid : S) × Took D (file name most next) s (Ok x) mid × FailedAt D (f x) mid n new)
      go (inl h) = inl (inr (bytes, m, gave, h))
      go (inr (x, mid, took, late)) = inr (x, mid, (bytes, m, gave, took), late)

  -- what was taken of takes that follow one another
  pub took_cases : {R X Y : Type 0} (t : Take R X) (f : X → Take R Y) (s new : S) (y : Y) → Took D (and_then t f) s (Ok y) new → (x : X) × (mid : S) × Took D t s (Ok x) mid × Took D (f x) mid (Ok y) new
  unfolding and_then Took
  took_cases (ok x) f s new y h = (x, s, (refl, refl), h)
  took_cases {Y = Y} (refuse a) f s new y h = absurd (ok_err y a h.0)
  took_cases (file name most next) f s new y (bytes, m, gave, rest) = let k = took_cases (next bytes) f m new y rest in (k.0, k.1, (bytes, m, gave, k.2), k.3)
