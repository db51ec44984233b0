-- The linked object, way by way.
use Rattle.std.proofs.Common.{◌≡◌, ℕ, zero, suc, ◌+◌, ◌≤◌, ◌⊎◌, inl, inr, List, [], ◌∷◌, Bool, true, false, cond, sym, ap, ◌∙◌, subst, Option, Some, None, Result, Ok, Err, arith}
use Rattle.std.specs.Prelude.{position}
use Rattle.std.specs.List.{slice_get}
use Rattle.elf_image.specs.declared.section.Section.{Section}
use Rattle.elf_image.specs.Object.{Relocatable}
use Rattle.purgatory_link.specs.declared.fault.LinkFault.{LinkFault}
use Rattle.purgatory_link.specs.declared.fault.LinkFault.TheVariants as faults
use Rattle.kx_laws.specs.Results.{◌>>=◌, unless_at}
use Rattle.purgatory_link.specs.Sym.{Named}
use Rattle.purgatory_link.specs.Layout.{is_loaded, is_rel, padding, end_behind, starts, end, in_pages, lay, linked_size}
use Rattle.purgatory_link.specs.Symbols.{known_start, names_of}
use Rattle.purgatory_link.specs.Relocs.{size_of, relocate}
use Rattle.purgatory_link.specs.inner.Relocs.{HasRoom}
use Rattle.purgatory_link.specs.Link.{unlinked_bytes, starts_of, link_at, linking}
use Rattle.purgatory_link.proofs.Laying.{le-end, pages_hold}
use Rattle.purgatory_link.proofs.Relocating.{room_more}

here_fits : (b : Bool) (n pad size s e : ℕ) → cond b (Some (n + pad)) None ≡ Some s → cond b (n + pad + size) n ≤ e → s + size ≤ e
here_fits true n pad size s e h l = let i : n + pad ≡ s = cc in omega (arith, i, l)
here_fits false n pad size s e h l = absurd (cc)

starts_fit : (n : ℕ) (xs : List Section) (i s : ℕ) → known_start (slice_get (starts n xs) i) ≡ Some s → s + size_of (slice_get xs i) ≤ end n xs
unfolding starts end
starts_fit n [] i s h = absurd (cc)
starts_fit n (x ∷ xs) zero s h = here_fits (is_loaded x) n (padding x n) x.size s _ h (le-end (end_behind n x) xs)
starts_fit n (x ∷ xs) (suc i) s h = starts_fit (end_behind n x) xs i s h

pub room_for : (o : Relocatable) (sts : List (Option ℕ)) (n : ℕ) → sts ≡ starts_of o → n ≡ in_pages (end 0 o.sections) → HasRoom o sts n
room_for o sts n is size =
    subst (λ l. HasRoom o l n) (sym is) (subst (HasRoom o (starts_of o)) (sym size) (room_more o (starts_of o) (end 0 o.sections) (in_pages (end 0 o.sections)) (pages_hold (end 0 o.sections)) (record { fits = λ i s e. starts_fit 0 o.sections i s e })))

pub same_relocated : (base : ℕ) (o : Relocatable) (file : List ℕ) (n : ℕ) (sts : List (Option ℕ)) (old : List ℕ) (r : Result (List ℕ) LinkFault) → sts ≡ starts_of o → old ≡ unlinked_bytes o file n → relocate base o file sts old ≡ r → relocate base o file (starts_of o) (unlinked_bytes o file n) ≡ r
same_relocated base o file n sts old r is lay h =
    sym (ap (λ l. relocate base o file l old) is ∙ ap (relocate base o file (starts_of o)) lay) ∙ h

pub linked_fails : (base : ℕ) (o : Relocatable) (file : List ℕ) (n : ℕ) (sts : List (Option ℕ)) (old : List ℕ) (e : LinkFault) → sts ≡ starts_of o → old ≡ unlinked_bytes o file n → (relocate base o file sts old ≡ Err e) ⊎ (e ≡ faults.Memory) → (link_at base o file n ≡ Err e) ⊎ (e ≡ faults.Memory)
unfolding link_at
linked_fails base o file n sts old e is lay (inl h) =
    inl (ap (λ r. r >>= λ bytes. Ok (record { base = base; bytes = bytes; names = names_of base (starts_of o) o.symbols })) (same_relocated base o file n sts old (Err e) is lay h))
linked_fails base o file n sts old e is lay (inr h) = inr h

pub linked_ok : (base : ℕ) (o : Relocatable) (file : List ℕ) (n : ℕ) (sts : List (Option ℕ)) (old new : List ℕ) (names : List Named) → sts ≡ starts_of o → old ≡ unlinked_bytes o file n → relocate base o file sts old ≡ Ok new → names ≡ names_of base sts o.symbols → link_at base o file n ≡ Ok (record { base = base; bytes = new; names = names })
unfolding link_at
linked_ok base o file n sts old new names is lay h named =
    ap (λ r. r >>= λ bytes. Ok (record { base = base; bytes = bytes; names = names_of base (starts_of o) o.symbols })) (same_relocated base o file n sts old (Ok new) is lay h)
    ∙ ap (λ l. Ok (record { base = base; bytes = new; names = l })) (sym (named ∙ ap (λ l. names_of base l o.symbols) is))

pub linking_rel : (base : ℕ) (o : Relocatable) (file : List ℕ) (e : LinkFault) → Err e ≡ unless_at faults.RelSection (position (is_rel o.sections) o.sections) → linking base o file ≡ Err e
unfolding linking
linking_rel base o file e h = ap (λ r. r >>= λ _. linked_size o.sections >>= λ n. link_at base o file n) (sym h)

pub linking_size : (base : ℕ) (o : Relocatable) (file : List ℕ) (e : LinkFault) (x : Unit {0}) → Ok x ≡ unless_at faults.RelSection (position (is_rel o.sections) o.sections) → Err e ≡ linked_size o.sections → linking base o file ≡ Err e
unfolding linking
linking_size base o file e x h s =
    ap (λ r. r >>= λ _. linked_size o.sections >>= λ n. link_at base o file n) (sym h) ∙ ap (λ r. r >>= λ n. link_at base o file n) (sym s)

pub linking_sized : (base : ℕ) (o : Relocatable) (file : List ℕ) (n : ℕ) (x : Unit {0}) → Ok x ≡ unless_at faults.RelSection (position (is_rel o.sections) o.sections) → Ok n ≡ linked_size o.sections → linking base o file ≡ link_at base o file n
unfolding linking
linking_sized base o file n x h s =
    ap (λ r. r >>= λ _. linked_size o.sections >>= λ n. link_at base o file n) (sym h) ∙ ap (λ r. r >>= λ n. link_at base o file n) (sym s)
