-- What is held of files that are written down, and when two such shelves are one.
use Rattle.std.proofs.Common.{◌≡◌, ◌∙◌, ℕ, List, [], ◌∷◌, length, Option, Some, None, Bool, true, false, cond, refl, sym, ap}
use Rattle.std.proofs.Common.{inl, inr}
use Rattle.std.specs.Prelude.{eqb}
use Rattle.std.proofs.lemmas.Bool.Decides.{eqb_tells}
use Rattle.std.specs.FinMap.{entries, entries-insert, get, get-empty, get-insert, len-empty, len-entries, same_entries_map}
use Rattle.std.specs.FinMap.Entries.{put}
use Rattle.std.specs.Ordering.{eq_by_cmp, nat_cmp}
use Rattle.std.specs.Cmp.Lexicographic.{slice_cmp}
use Rattle.std.proofs.lemmas.Cmp.{nat_list_cmp_total}
use Rattle.kx_laws.proofs.Options.{some_same}
use Rattle.kx_edge.specs.Edge.{Files}
use Rattle.worked_commands.specs.Shelves.{holding}

-- the file of this name: the first one
abbrev pub look : List (List ℕ × List ℕ) → List ℕ → Option (List ℕ)
look [] name = None
look (f ∷ fs) name = cond (eq_by_cmp (slice_cmp nat_cmp) name f.0) (Some f.1) (look fs name)

pub got : (fs : List (List ℕ × List ℕ)) (name : List ℕ) → get (holding fs) name ≡ look fs name
got [] name = get-empty (slice_cmp nat_cmp) name
got (f ∷ fs) name = get-insert nat_list_cmp_total (holding fs) f.0 f.1 name ∙ ap (cond (eq_by_cmp (slice_cmp nat_cmp) name f.0) (Some f.1)) (got fs name)

-- the files in the order of their names
abbrev pub in_order : List (List ℕ × List ℕ) → List (List ℕ × List ℕ)
in_order [] = []
in_order (f ∷ fs) = put (slice_cmp nat_cmp) f.0 f.1 (in_order fs)

none : (es : List (List ℕ × List ℕ)) → length es ≡ 0 → es ≡ []
none [] e = refl
none (f ∷ es) e = absurd cc

entries_of : (fs : List (List ℕ × List ℕ)) → entries (holding fs) ≡ in_order fs
entries_of [] = none (entries (holding [])) (sym (len-entries (holding [])) ∙ len-empty (slice_cmp nat_cmp) (List ℕ))
entries_of (f ∷ fs) = entries-insert nat_list_cmp_total (holding fs) f.0 f.1 ∙ ap (put (slice_cmp nat_cmp) f.0 f.1) (entries_of fs)

pub one_shelf : (fs gs : List (List ℕ × List ℕ)) → in_order fs ≡ in_order gs → holding fs ≡ holding gs
one_shelf fs gs e = same_entries_map (holding fs) (holding gs) (entries_of fs ∙ e ∙ sym (entries_of gs))

-- what is held of shelves that are one
pub also : (fs gs : List (List ℕ × List ℕ)) (name : List ℕ) → holding fs ≡ holding gs → look fs name ≡ look gs name
also fs gs name e = sym (got fs name) ∙ ap (λ (held : Files). get held name) e ∙ got gs name

-- bytes that differ
abbrev pub same : List ℕ → List ℕ → Bool
same [] [] = true
same [] (b ∷ bs) = false
same (a ∷ xs) [] = false
same (a ∷ xs) (b ∷ bs) = cond (eqb a b) (same xs bs) false

same_self : (a : List ℕ) → same a a ≡ true
same_self [] = refl
same_self (a ∷ xs) = ap (λ b. cond b (same xs xs) false) (elim (eqb_tells a a) [ inl t ↦ t.0 | inr t ↦ absurd (t.1 refl) ]) ∙ same_self xs

pub differ : (a b : List ℕ) → same a b ≡ false → a ≡ b → ⊥
differ a b f e = let h : true ≡ false = sym (same_self a) ∙ ap (same a) e ∙ f in cc

-- files of two shelves that differ
pub apart : (fs gs : List (List ℕ × List ℕ)) (name a b : List ℕ) → look fs name ≡ Some a → look gs name ≡ Some b → same a b ≡ false → holding fs ≡ holding gs → ⊥
apart fs gs name a b x y f e = differ a b f (some_same a b (sym x ∙ also fs gs name e ∙ y))

pub lost : (fs gs : List (List ℕ × List ℕ)) (name b : List ℕ) → look fs name ≡ None → look gs name ≡ Some b → holding fs ≡ holding gs → ⊥
lost fs gs name b x y e = let h : ◌≡◌ {A = Option (List ℕ)} None (Some b) = sym x ∙ also fs gs name e ∙ y in cc
