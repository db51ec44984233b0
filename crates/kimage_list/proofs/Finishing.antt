-- The list is finished: memory is the laid memory.
use Rattle.std.proofs.Common.{◌≡◌, ℕ, ◌+◌, ◌-◌, ◌^◌, ◌<◌, ◌≤◌, List, [], ◌∷◌, ◌++◌, length, refl, sym, ap, ◌∙◌, subst, ⊎_elim, inl, inr, arith, true, false, cond}
use Rattle.std.specs.Prelude.{◌≢◌, ◌⊎◌, ◌/◌, ◌%◌, eqb}
use Rattle.std.proofs.lemmas.Bool.Decides.{eqb_tells}
use Rattle.std.proofs.lemmas.Bool.{cases_lt}
use Rattle.page_memory.specs.Contents.{Contents, at}
use Rattle.page_memory.specs.inner.Contents.{IsHeld}
use Rattle.page_pool.specs.Pages.{Pages}
use Rattle.kimage_list.proofs.Linking.{items-full, next-listed, sources-keys, word-still, word-apart}
use Rattle.kimage_list.proofs.Lists.{keys, keys-append, keys-link_pages, keys-source_pages, holds_all, put_all_other}
use Rattle.kimage_list.proofs.OpenList.{list_ended, holds-append}
use Rattle.kimage_list.specs.inner.Drafts.{Draft, Renders, HasLink, laid_by}
use Rattle.kimage_list.specs.Laying.{items, source_pages, link_pages, put_all}
use Rattle.kimage_list.specs.inner.Laying.{Holds}
use Rattle.kimage_list.specs.inner.Opening.{next_place, open_pages}
use Rattle.kimage_list.specs.inner.Tables.{Slots}
use Rattle.kx_pages.specs.Lists.{Distinct, sources, count}
use Rattle.kx_pages.specs.Bytes.{Mem}
use Rattle.page_memory.specs.inner.Memory.{set_word}
use Rattle.kx_pages.proofs.Counting.{count-append, Distinct-from_count}

same_page : (N K : Mem) (xs : List (ℕ × (List ℕ))) (p : ℕ) → Holds N xs → Holds K xs → 1 ≤ count p (keys xs) → N p ≡ K p
same_page N K [] p h k c = absurd (omega (arith, c))
same_page N K (x ∷ xs) p h k c = go (eqb_tells x.0 p) (same_page N K xs p h.1 k.1)
  where
    go : ((eqb x.0 p ≡ true) × (x.0 ≡ p)) ⊎ ((eqb x.0 p ≡ false) × (x.0 ≢ p)) → (1 ≤ count p (keys xs) → N p ≡ K p) → N p ≡ K p
    go (inl u) ih = ap N (sym u.1) ∙ h.0 ∙ sym k.0 ∙ ap K u.1
    go (inr u) ih =
        let m : count p (keys (x ∷ xs)) ≡ 0 + count p (keys xs) = ap (λ b. cond b 1 0 + count p (keys xs)) u.0 in
        ih (omega (arith, m, c))

-- memory that holds these pages and is as before elsewhere
pub all_put : (N M : Mem) (xs : List (ℕ × (List ℕ))) → ((x : ℕ) → count x (keys xs) ≤ 1) → Holds N xs → ((x : ℕ) → count x (keys xs) ≡ 0 → N x ≡ M x) → (p : ℕ) → N p ≡ put_all M xs p
all_put N M xs once h out p = ⊎_elim
    (λ z. let none : count p (keys xs) ≡ 0 = omega (arith, z) in out p none ∙ sym (put_all_other M xs p none))
    (λ z. same_page N (put_all M xs) xs p h (holds_all M xs once) (omega (arith, z)))
    (cases_lt (count p (keys xs)) 1)

module _ (d : Draft) (memory : Contents) (pool : Pages) (table : Slots) (next entries : ℕ) (w : Renders d [] memory pool table next entries) (some : HasLink d) where
  in_spare : (x : ℕ) → count x d.loading.spare ≡ count x d.first + count x d.links
  in_spare x = ap (count x) w.spare ∙ count-append x d.first d.links

  listed : 1 ≤ count (next / 4096) d.links
  listed = subst (λ a. 1 ≤ count (a / 4096) d.links) (sym w.place) (next-listed d.links (length d.entries) w.tight some)

  pub end_held : IsHeld memory (next / 4096)
  end_held = w.held (next / 4096) (omega (arith, listed, in_spare (next / 4096), w.within (next / 4096)))

  pub end_low : next / 4096 < 2 ^ 34
  end_low = w.below (next / 4096) (omega (arith, listed, in_spare (next / 4096), w.within (next / 4096)))

  pub end_aligned : next % 8 ≡ 0
  end_aligned = omega (arith, w.place, aligned d.links (length d.entries))
    where
      aligned : (ls : List ℕ) (n : ℕ) → next_place ls n % 8 ≡ 0
      aligned [] n = refl
      aligned (l ∷ []) n = omega arith
      aligned (l ∷ (j ∷ ls)) n = aligned (j ∷ ls) (n - 511)

  named : (x : ℕ) → count x (keys (link_pages d.links (items d.entries d.loading.pairs) ++ source_pages d.bytes d.loading.pairs)) ≡ count x d.links + count x (sources d.loading.pairs)
  named x =
      ap (count x) (keys-append (link_pages d.links (items d.entries d.loading.pairs)) (source_pages d.bytes d.loading.pairs))
      ∙ count-append x (keys (link_pages d.links (items d.entries d.loading.pairs))) (keys (source_pages d.bytes d.loading.pairs))
      ∙ ap (λ ys. count x ys + count x (keys (source_pages d.bytes d.loading.pairs))) (keys-link_pages d.links (items d.entries d.loading.pairs))
      ∙ ap (λ ys. count x d.links + count x ys) (keys-source_pages d.bytes d.loading.pairs)

  pub finished : (memory' : Contents) → at memory' ≡ set_word (at memory) next 4 → (p : ℕ) → at memory' p ≡ laid_by d p
  finished memory' e p =
      ap (λ N. N p) e ∙ all_put (set_word (at memory) next 4) d.before (link_pages d.links (items d.entries d.loading.pairs) ++ source_pages d.bytes d.loading.pairs)
      (λ x. omega (arith, named x, w.once x, in_spare x))
      (holds-append (set_word (at memory) next 4) (link_pages d.links (items d.entries d.loading.pairs)) (source_pages d.bytes d.loading.pairs) (list d.links refl)
      (word-still (at memory) next 4 (source_pages d.bytes d.loading.pairs) (sources-keys d.bytes (next / 4096) d.loading.pairs unsourced) w.loaded))
      (λ x z. word-apart (at memory) next 4 x (λ f. away x f (omega (arith, z, named x))) ∙ w.others x (omega (arith, z, named x))) p
    where
      unsourced : count (next / 4096) (sources d.loading.pairs) ≡ 0
      unsourced = omega (arith, listed, w.once (next / 4096), in_spare (next / 4096))

      away : (x : ℕ) → next / 4096 ≡ x → count x d.links ≡ 0 → ⊥
      away x f z = let m : count (next / 4096) d.links ≡ 0 = ap (λ y. count y d.links) f ∙ z in omega (arith, m, listed)

      size : length (items d.entries d.loading.pairs) ≡ length d.entries
      size = items-full d.entries d.loading.pairs w.order

      list : (ls : List ℕ) → d.links ≡ ls → Holds (set_word (at memory) next 4) (link_pages d.links (items d.entries d.loading.pairs))
      list [] l = absurd (omega (arith, ap length l, some))
      list (j ∷ ls) l =
          let is = items d.entries d.loading.pairs in
          let distinct : Distinct (j ∷ ls) = subst Distinct l (Distinct-from_count d.links (λ x. omega (arith, w.once x, in_spare x))) in
          let held : Holds (at memory) (open_pages (j ∷ ls) is) = subst (λ xs. Holds (at memory) (open_pages xs is)) l w.list in
          let place : next_place (j ∷ ls) (length (items d.entries d.loading.pairs)) ≡ next = ap (next_place (j ∷ ls)) size ∙ ap (λ xs. next_place xs (length d.entries)) (sym l) ∙ sym w.place in
          let n : length d.links ≡ length (j ∷ ls) = ap length l in
          subst (λ xs. Holds (set_word (at memory) next 4) (link_pages xs is)) (sym l)
          (subst (λ a. Holds (set_word (at memory) a 4) (link_pages (j ∷ ls) is)) place (list_ended (at memory) j ls is (omega (arith, size, n, w.tight.0), omega (arith, size, n, w.tight.1)) distinct held))
