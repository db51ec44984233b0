-- What pages read as after a change. Crates above cite these.
use Rattle.std.specs.Prelude.{◌≡◌, ℕ, ◌≢◌, List, Bool, true, false, cond, Some, None, Option, IsSome, is_some, unwrap_or, refl}
use Rattle.std.proofs.Common.{sym, ap, ◌∙◌, arith, ◌/◌, ◌%◌, drop}
use Rattle.byteorder.specs.Endian.{little_number}
use Rattle.std.specs.Ordering.{nat_cmp, is_eq}
use Rattle.std.specs.Cmp.{nat_cmp_total, eq_by_cmp_equiv}
use Rattle.std.specs.declared.cmp.Ordering.{Ordering}
use Rattle.std.specs.declared.cmp.Ordering.TheVariants.{Less, Equal, Greater}
use Rattle.std.specs.FinMap.{FinMap, get, insert, get-insert, nat_cmp-IsAntisymmetric}
use Rattle.std.specs.Prelude.{◌⊎◌, eqb}
use Rattle.std.proofs.Common.{inl, inr}
use Rattle.std.proofs.lemmas.Bool.Decides.{eqb_tells}
use Rattle.kx_pages.specs.Bytes.{Mem}
use Rattle.page_memory.specs.Contents.{Contents, at, with_page, frame_at, zero_page}
use Rattle.page_memory.specs.inner.Contents.{after_set, with_word, page_with_word}
use Rattle.page_memory.specs.Memory.{word, put}
use Rattle.page_memory.specs.inner.Memory.{set_word}
use Rattle.kx_laws.proofs.Booleans.{is_eq-false}

pub frame_at-found : (m : FinMap nat_cmp (List ℕ)) (p : ℕ) (bytes : List ℕ) → Some bytes ≡ get m p → frame_at m p ≡ bytes
unfolding frame_at
frame_at-found m p bytes e = ap (λ o. unwrap_or o zero_page) (sym e)

pub frame_at-none : (m : FinMap nat_cmp (List ℕ)) (p : ℕ) → None ≡ get m p → frame_at m p ≡ zero_page
unfolding frame_at
frame_at-none m p e = ap (λ o. unwrap_or o zero_page) (sym e)

-- a page that was written
pub get-insert_same : (m : FinMap nat_cmp (List ℕ)) (k : ℕ) (v : List ℕ) → get (insert m k v) k ≡ Some v
get-insert_same m k v = get-insert nat_cmp_total m k v k ∙ ap (λ b. cond b (Some v) (get m k)) ((eq_by_cmp_equiv nat_cmp_total).refl k)

-- any other page
pub get-insert_other : (m : FinMap nat_cmp (List ℕ)) (k : ℕ) (v : List ℕ) (q : ℕ) → q ≢ k → get (insert m k v) q ≡ get m q
get-insert_other m k v q apart = get-insert nat_cmp_total m k v q ∙ ap (λ b. cond b (Some v) (get m q)) (is_eq-false (nat_cmp q k) (λ e. apart (nat_cmp-IsAntisymmetric q k e)))

pub frame_at-insert_same : (m : FinMap nat_cmp (List ℕ)) (k : ℕ) (v : List ℕ) → frame_at (insert m k v) k ≡ v
unfolding frame_at
frame_at-insert_same m k v = ap (λ o. unwrap_or o zero_page) (get-insert_same m k v)

pub frame_at-insert_other : (m : FinMap nat_cmp (List ℕ)) (k : ℕ) (v : List ℕ) (q : ℕ) → q ≢ k → frame_at (insert m k v) q ≡ frame_at m q
unfolding frame_at
frame_at-insert_other m k v q apart = ap (λ o. unwrap_or o zero_page) (get-insert_other m k v q apart)

held_either : (b : Bool) (v : List ℕ) (o : Option (List ℕ)) → IsSome o → IsSome (cond b (Some v) o)
held_either true v o h = refl
held_either false v o h = h

-- what is held stays held
pub held-insert : (m : FinMap nat_cmp (List ℕ)) (k : ℕ) (v : List ℕ) (q : ℕ) → IsSome (get m q) → IsSome (get (insert m k v) q)
held-insert m k v q h = rw (get-insert nat_cmp_total m k v q) (held_either _ v (get m q) h)

pub held-insert_same : (m : FinMap nat_cmp (List ℕ)) (k : ℕ) (v : List ℕ) → IsSome (get (insert m k v) k)
held-insert_same m k v = ap is_some (get-insert_same m k v)

-- and what is held was held, or is the page that was written
pub held-insert_only : (m : FinMap nat_cmp (List ℕ)) (k : ℕ) (v : List ℕ) (q : ℕ) → IsSome (get (insert m k v) q) → IsSome (get m q) ⊎ (q ≡ k)
held-insert_only m k v q h = go (eqb_tells q k)
  where
    go : ((eqb q k ≡ true) × (q ≡ k)) ⊎ ((eqb q k ≡ false) × (q ≢ k)) → IsSome (get m q) ⊎ (q ≡ k)
    go (inl t) = inr t.1
    go (inr t) = inl (rw (← get-insert_other m k v q t.1) h)

not_some : (o : Option (List ℕ)) → is_some o ≡ false → None ≡ o
not_some None e = refl
not_some (Some x) e = cc

-- a page of zeros that was not held reads as before
pub frame_at-insert_zeros : (m : FinMap nat_cmp (List ℕ)) (k : ℕ) (q : ℕ) → is_some (get m k) ≡ false → frame_at (insert m k zero_page) q ≡ frame_at m q
unfolding frame_at
frame_at-insert_zeros m k q none =
    ap (λ o. unwrap_or o zero_page) (get-insert nat_cmp_total m k zero_page q)
    ∙ zeros_either (nat_cmp q k) refl
  where
    zeros_either : (r : Ordering) → nat_cmp q k ≡ r → unwrap_or (cond (is_eq r) (Some zero_page) (get m q)) zero_page ≡ unwrap_or (get m q) zero_page
    zeros_either Less e = refl
    zeros_either Greater e = refl
    zeros_either Equal e = ap (λ o. unwrap_or o zero_page) (not_some (get m k) none ∙ ap (get m) (sym (nat_cmp-IsAntisymmetric q k e)))

frame_put : (m : Contents) (p : ℕ) (b : List ℕ) (q : ℕ) → at (with_page m p b) q ≡ put (at m) p b q
frame_put m p b q = go (eqb_tells q p)
  where
    go : ((eqb q p ≡ true) × (q ≡ p)) ⊎ ((eqb q p ≡ false) × (q ≢ p)) → at (with_page m p b) q ≡ put (at m) p b q
    go (inl t) = ap (at (with_page m p b)) t.1 ∙ frame_at-insert_same m.pages p b ∙ sym (ap (λ c. cond c b (at m q)) t.0)
    go (inr t) = frame_at-insert_other m.pages p b q t.1 ∙ sym (ap (λ c. cond c b (at m q)) t.0)

-- a page that was put, and any other
pub put-same : (M : Mem) (p : ℕ) (b : List ℕ) → put M p b p ≡ b
put-same M p b = grind arith

pub put-apart : (M : Mem) (p q : ℕ) (b : List ℕ) → p ≢ q → put M p b q ≡ M q
put-apart M p q b apart = grind arith

-- memory as a function, after a page was set, and after a word was
pub at-with_page : (m : Contents) (p : ℕ) (b : List ℕ) → at (with_page m p b) ≡ put (at m) p b
at-with_page m p b = λ i q. frame_put m p b q i

pub at-after_set : (m : Contents) (p : ℕ) (b : List ℕ) → at (after_set m p b) ≡ put (at m) p b
at-after_set m p b = at-with_page m p b

pub at-with_word : (m : Contents) (a v : ℕ) → at (with_word m a v) ≡ set_word (at m) a v
at-with_word m a v = at-after_set m (a / 4096) (page_with_word (at m (a / 4096)) (a % 4096) v)

-- a word is told by its page
pub word-same_page : (M N : ℕ → List ℕ) (a : ℕ) → M (a / 4096) ≡ N (a / 4096) → word M a ≡ word N a
unfolding word
word-same_page M N a h = ap (λ bytes. little_number 8 (drop (a % 4096) bytes)) h
