-- Page 2 is the only page that is wanted; the rest by computing.
use Rattle.std.proofs.Common.{◌≡◌, ℕ, List, refl, sym, ap, ◌∙◌, Some, inl, inr}
use Rattle.std.specs.Prelude.{◌⊎◌, codes}
use Rattle.kx_pages.specs.Bytes.{page_of, Mem}
use Rattle.segments.specs.Values.{want}
use Rattle.kx_laws.proofs.Options.{some_same}
use Rattle.worked_examples.specs.Kernels.{three_bytes}
use Rattle.worked_examples.proofs.Refusing.{three_bytes-listed}
use Rattle.worked_examples.proofs.lists.crash_list.Goals as goal

destination_is_wanted : want three_bytes 2 ≡ Some (page_of (codes "abc"))
unfolding page_of
destination_is_wanted = refl

there : (M : Mem) → M 2 ≡ page_of (codes "abc") → (p : ℕ) (bytes : List ℕ) → want three_bytes p ≡ Some bytes → (2 ≡ p) ⊎ ⊥ → M p ≡ bytes
there M has p bytes e (inl is) = ap M (sym is) ∙ has ∙ some_same (page_of (codes "abc")) bytes (sym destination_is_wanted ∙ ap (want three_bytes) is ∙ e)
there M has p bytes e (inr none) = absurd none

pub returns-clause-accepted : goal.returns-clause-accepted
returns-clause-accepted c = λ M has. record { done = refl; there = λ p bytes e. there M has p bytes e (three_bytes-listed.whole p bytes e) }

pub returns-clause-missing : goal.returns-clause-missing
unfolding page_of
returns-clause-missing c = refl

pub returns-clause-link : goal.returns-clause-link
returns-clause-link c = λ M. refl

pub returns-clause-past_the_limit : goal.returns-clause-past_the_limit
returns-clause-past_the_limit c = λ M. refl

pub returns-clause-two_flags : goal.returns-clause-two_flags
returns-clause-two_flags c = λ M. refl
