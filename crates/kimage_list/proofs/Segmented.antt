-- The entries of a segment, page by page.
use Rattle.std.proofs.Common.{◌≡◌, ℕ, zero, suc, ◌+◌, [], ◌∷◌, ◌++◌, Some, refl, ap, ◌∙◌, arith}
use Rattle.kimage_list.specs.Load.{Move, page_entries}
use Rattle.kimage_list.specs.inner.Load.{pages_of, starts}
use Rattle.kimage_list.specs.inner.Writers.{destination_after, pages_from}

pub pages_of-page_entries : (p n : ℕ) → pages_of (page_entries p n) ≡ pages_from p n
pages_of-page_entries p zero = refl
pages_of-page_entries p (suc n) = ap (λ ys. p ∷ ys) (pages_of-page_entries (suc p) n)

pub starts-page_entries : (p n : ℕ) → starts (page_entries p n) ≡ 0
starts-page_entries p zero = refl
starts-page_entries p (suc n) = starts-page_entries (suc p) n

pub after-page_entries : (p n : ℕ) → destination_after (Some p) (page_entries p n) ≡ Some (p + n)
after-page_entries p zero = let e : p ≡ p + 0 = omega arith in ap (λ x. Some x) e
after-page_entries p (suc n) = let e : suc p + n ≡ p + suc n = omega arith in after-page_entries (suc p) n ∙ ap (λ x. Some x) e

pub page_entries-more : (p n : ℕ) → page_entries p (n + 1) ≡ page_entries p n ++ Move (p + n) ∷ []
page_entries-more p zero = let e : p ≡ p + 0 = omega arith in ap (λ x. Move x ∷ []) e
page_entries-more p (suc n) =
    let e : suc p + n ≡ p + suc n = omega arith in
    let f : suc n + 1 ≡ suc (n + 1) = omega arith in
    ap (page_entries p) f ∙ ap (λ ys. Move p ∷ ys) (page_entries-more (suc p) n ∙ ap (λ x. page_entries (suc p) n ++ Move x ∷ []) e)
