-- What a clause sees of a Pool (this project's own).
-- No clause of `kexec` reaches what stands here: it serves laws, and contracts inside the crates.
use Rattle.std.specs.Prelude.{ℕ, List, Bool, refl}
use Rattle.std.specs.Ordering.{nat_cmp}
use Rattle.std.specs.FinMap as finite
use Rattle.std.specs.Coded.{Coded, code_by, coded×, coded_ℕ, coded_list, coded_bool}
use Rattle.page_pool.specs.Pages.{Pages}

-- stored as its fields
abbrev pub pages_code : Coded Pages
pages_code =
    code_by (List ℕ × (List ℕ × (ℕ × finite.FinMap nat_cmp Bool)))
    (coded× (coded_list coded_ℕ) (coded× (coded_list coded_ℕ)
    (coded× coded_ℕ (finite.code coded_ℕ coded_bool))))
    (λ m. (m.made, (m.drawn, (m.limit, m.marks))))
    (λ p. record { made = p.0; drawn = p.1.0; limit = p.1.1.0; marks = p.1.1.1 }) (λ _. refl)

-- p becomes filed, or is no longer
abbrev pub mark : Pages → ℕ → Bool → Pages
mark v p b = record v { marks = finite.insert v.marks p b }
