-- The list of the examples: it is accepted, and no other one is.
use Rattle.std.proofs.Common.{◌≡◌, ℕ, List, [], ◌∷◌, Some, None, refl, sym, ap, ◌∙◌, arith, inl, inr}
use Rattle.std.specs.Prelude.{◌⊎◌, codes, get_or, not}
use Rattle.kx_laws.proofs.Options.{some_same}
use Rattle.kx_pages.specs.declared.item.Item.{Item}
use Rattle.kx_pages.specs.Items.{decode}
use Rattle.kx_pages.specs.declared.item.Item.TheVariants.{Link, Destination}
use Rattle.kx_pages.specs.Bytes.{Mem, page_of}
use Rattle.segments.specs.Rules.{bare_refusal, shape_refusal}
use Rattle.segments.specs.Values.{pages, want}
use Rattle.list_checker.specs.inner.Laws.{ListsWanted}
use Rattle.list_checker.specs.Walk.{Accepted, Walk}
use Rattle.list_checker.specs.Crash.{crash_reason}
use Rattle.list_checker.specs.Faults.{Faulty, first_of, nothing_earlier, same_bytes}
use Rattle.list_checker.specs.declared.fault.Why.TheVariants.{Missing, WrongBytes}
use Rattle.list_checker.proofs.Ending.{check_ends}
use Rattle.list_checker.proofs.Unique.{walk_same}
use Rattle.list_checker.proofs.Wanted.{parts_listed}
use Rattle.worked_commands.specs.Inputs.{three_bytes}
use Rattle.worked_commands.specs.Lists.{HasWords, one_move}

pub listed : ListsWanted (want three_bytes) (pages three_bytes)
unfolding bare_refusal shape_refusal
listed = parts_listed three_bytes refl

pub accepted : (M : Mem) → HasWords M 0x11000 (0x2001 ∷ 0x12008 ∷ 4 ∷ []) → M 0x12 ≡ page_of (codes "abc") → Accepted M (want three_bytes) 0x11002 0x10 one_move
unfolding page_of
accepted M w source = record {
  walk = (refl, omega arith, (w.0, omega arith, omega arith, (w.1.0, omega arith, omega arith, (w.1.1.0, refl))));
  once = (tt, tt);
  destination_first = tt;
  in_order = (tt, tt);
  whole = listed.whole;
  right_bytes = (ap Some (sym source), tt);
  links_unwritten = ((omega arith, tt), tt);
  control_apart = ((omega arith, tt), ((omega arith, omega arith), tt));
}

pub only_list : (M : Mem) → HasWords M 0x11000 (0x2001 ∷ 0x12008 ∷ 4 ∷ []) → M 0x12 ≡ page_of (codes "abc") → (is : List Item) → Accepted M (want three_bytes) 0x11002 0x10 is → is ≡ one_move
only_list M w source is a = walk_same M 0x11002 is one_move a.walk (accepted M w source).walk

wanted : want three_bytes 2 ≡ Some (page_of (codes "abc"))
unfolding page_of
wanted = refl

there : (M : Mem) → M 2 ≡ page_of (codes "abc") → (p : ℕ) (bytes : List ℕ) → want three_bytes p ≡ Some bytes → (2 ≡ p) ⊎ ⊥ → M p ≡ bytes
there M has p bytes e (inl is) = ap M (sym is) ∙ has ∙ some_same (page_of (codes "abc")) bytes (sym wanted ∙ ap (want three_bytes) is ∙ e)
there M has p bytes e (inr none) = absurd none

-- where page 2 has its bytes, each page that is wanted has
pub in_place : (M : Mem) → M 2 ≡ page_of (codes "abc") → (p : ℕ) (bytes : List ℕ) → want three_bytes p ≡ Some bytes → M p ≡ bytes
in_place M has p bytes e = there M has p bytes e (listed.whole p bytes e)

-- and where it has others, it has not
pub not_in_place : (M : Mem) → M 2 ≡ page_of (codes "abd") → ((p : ℕ) (bytes : List ℕ) → want three_bytes p ≡ Some bytes → M p ≡ bytes) → ⊥
unfolding page_of
not_in_place M has there =
    let e : page_of (codes "abd") ≡ page_of (codes "abc") = sym has ∙ there 2 (page_of (codes "abc")) wanted in
    let f : 100 ≡ 99 = ap (λ bytes. get_or bytes 2 0) e in
    omega (arith, f)

-- with other bytes in page 12 the source word has a fault
pub faulty : (M : Mem) → HasWords M 0x11000 (0x2001 ∷ 0x12008 ∷ 4 ∷ []) → M 0x12 ≡ page_of (codes "abd") → Faulty M (want three_bytes) (pages three_bytes) 0x10 None None nothing_earlier 0x11002 2 WrongBytes
unfolding page_of
faulty M w source = (
  Link 0x11,
  refl,
  refl,
  (λ p e. cc),
  (Destination 2, ap decode w.0, refl, (λ p e. cc), rw w.1.0 (rw source refl)),
)

pub none_accepted : (M : Mem) → HasWords M 0x11000 (0x2001 ∷ 0x12008 ∷ 4 ∷ []) → M 0x12 ≡ page_of (codes "abd") → (is : List Item) → Accepted M (want three_bytes) 0x11002 0x10 is → ⊥
none_accepted M w source = ((check_ends M (want three_bytes) (pages three_bytes) 0x11002 0x10 None listed).1 2 WrongBytes (faulty M w source)).0

pub missing : (M : Mem) → M 2 ≡ page_of (codes "abd") → crash_reason M (want three_bytes) (pages three_bytes) (decode 4) ≡ Some (Missing 2)
unfolding page_of
missing M has = ap (λ bytes. first_of ((not (same_bytes (page_of (codes "abc")) bytes), Missing 2) ∷ [])) has

-- the walk, whatever page 12 has
pub walk_is : (M : Mem) → HasWords M 0x11000 (0x2001 ∷ 0x12008 ∷ 4 ∷ []) → Walk M 0x11002 one_move
walk_is M w = (refl, omega arith, (w.0, omega arith, omega arith, (w.1.0, omega arith, omega arith, (w.1.1.0, refl))))
