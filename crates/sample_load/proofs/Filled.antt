-- A memory that is filled page by page, and one that is digested page by page.
use Rattle.std.proofs.Common.{◌≡◌, ℕ, suc, ◌+◌, ◌-◌, ◌%◌, ◌≤◌, ◌++◌, List, [], ◌∷◌, length, true, false, refl, sym, ap, ◌∙◌, arith, inl, inr, append_assoc}
use Rattle.std.specs.Prelude.{◌⊎◌, ◌≢◌, ◌&&◌, cond, eqb, nat_le, nat_lt, replicate}
use Rattle.std.specs.List.{flat_map, range_with_len}
use Rattle.std.proofs.lemmas.Bool.Decides.{eqb_tells, nat_tests}
use Rattle.std.proofs.lemmas.List.{append-nil, length-replicate}
use Rattle.std.proofs.lemmas.Grind.{flat_map-append}
use Rattle.std.specs.Ordering.{nat_cmp}
use Rattle.std.specs.FinMap as finite
use Rattle.kx_pages.specs.Bytes.{page_of, Mem}
use Rattle.page_memory.specs.Contents.{zero_page, at}
use Rattle.page_memory.specs.Memory.{Agree, put}
use Rattle.kx_pages.proofs.Bytes.{page_of-fits}
use Rattle.page_memory.proofs.Laws.{frame_at-none}
use Rattle.sample_load.specs.Samples.{filled_before, page_full_of, pages_of}
use Rattle.kx_laws.proofs.Lists.{range_more}

-- one more page is full
pub fill_more : (M N : Mem) (k : ℕ) → 4096 ≤ k → Agree M (filled_before k) → ((q : ℕ) → N q ≡ put M k (page_full_of (1 + k % 251)) q) → Agree N (filled_before (k + 1))
fill_more M N k low h f q = f q ∙ go (eqb_tells q k)
  where
    go : ((eqb q k ≡ true) × (q ≡ k)) ⊎ ((eqb q k ≡ false) × (q ≢ k)) → put M k (page_full_of (1 + k % 251)) q ≡ filled_before (k + 1) q
    go (inl t) =
        let here : (nat_le 4096 q && nat_lt q (k + 1)) ≡ true = grind (arith, nat_tests) in
        rw (t.0, here, t.1) refl
    go (inr t) =
        let there : (nat_le 4096 q && nat_lt q k) ≡ (nat_le 4096 q && nat_lt q (k + 1)) = grind (arith, nat_tests) in
        ap (λ b. cond b (page_full_of (1 + k % 251)) (M q)) t.0 ∙ h q ∙ ap (λ b. cond b (page_full_of (1 + q % 251)) zero_page) there

-- no page is full yet
pub filled_none : (M : Mem) → ((q : ℕ) → M q ≡ zero_page) → Agree M (filled_before 4096)
filled_none M h q =
    let none : (nat_le 4096 q && nat_lt q 4096) ≡ false = grind (arith, nat_tests) in
    h q ∙ sym (ap (λ b. cond b (page_full_of (1 + q % 251)) zero_page) none)

-- no page yet, and one page more
pub digest_none : (M : Mem) (m : List ℕ) (first number : ℕ) → number ≡ first → m ≡ m ++ pages_of M first (number - first)
unfolding pages_of
digest_none M m first number e =
    let none : number - first ≡ 0 = omega (arith, e) in
    sym (append-nil m) ∙ ap (λ n. m ++ flat_map M (range_with_len first n)) (sym none)

pub digest_more : (M : Mem) (m : List ℕ) (first k : ℕ) → first ≤ k → (m ++ pages_of M first (k - first)) ++ M k ≡ m ++ pages_of M first (k + 1 - first)
unfolding pages_of
digest_more M m first k low =
    let n = k - first in
    let place : first + n ≡ k = omega arith in
    let next : suc n ≡ k + 1 - first = omega arith in
    let step : flat_map M (range_with_len first n ++ k ∷ []) ≡ flat_map M (range_with_len first n) ++ M k =
    flat_map-append M (range_with_len first n) (k ∷ []) ∙ ap (λ ys. flat_map M (range_with_len first n) ++ ys) (append-nil (M k)) in
    append_assoc m (flat_map M (range_with_len first n)) (M k)
    ∙ ap (λ ys. m ++ ys) (sym step ∙ ap (flat_map M) (ap (λ x. range_with_len first n ++ x ∷ []) (sym place) ∙ sym (range_more n first) ∙ ap (range_with_len first) next))

-- a page that is full of one byte is one
pub page_of-full : (byte : ℕ) → page_of (replicate 4096 byte) ≡ page_full_of byte
unfolding page_full_of
page_of-full byte =
    let full = length-replicate 4096 byte in
    let rest : 4096 - length (replicate 4096 byte) ≡ 0 = omega (arith, full) in
    page_of-fits (replicate 4096 byte) (omega (arith, full)) ∙ ap (λ n. replicate 4096 byte ++ replicate n 0) rest ∙ append-nil (replicate 4096 byte)

-- a memory that holds no page reads as zeros
pub empty_zeros : (q : ℕ) → at (record { pages = finite.empty; sets = 0 }) q ≡ zero_page
empty_zeros q = frame_at-none finite.empty q (sym (finite.get-empty nat_cmp q))
