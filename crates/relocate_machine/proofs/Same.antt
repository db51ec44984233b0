-- A step does the same in a memory that holds besides what the step writes.
use Rattle.std.proofs.Common.{◌≡◌, ◌≢◌, ℕ, ◌+◌, ◌/◌, ◌^◌, Bool, true, false, cond, refl, sym, ap, ◌∙◌, subst, Ok, Err, Result, Option, Some, None, inl, inr, ⊎_elim, List}
use Rattle.std.specs.Prelude.{◌⊎◌, nat_le, is_some}
use Rattle.std.specs.Cmp.{nat_cmp_total}
use Rattle.std.specs.FinMap.{FinMap, get, same_map, nat_cmp-IsAntisymmetric}
use Rattle.std.specs.Ordering.{nat_cmp}
use Rattle.std.proofs.lemmas.Bool.{cases_eq, false≢true}
use Rattle.kx_laws.proofs.Options.{some_same, none_some}
use Rattle.kx_pages.specs.declared.image.Mode.{Mode}
use Rattle.kx_pages.specs.declared.image.Mode.TheVariants.{Plain, Kept}
use Rattle.page_memory.specs.Contents.{Contents, at, copy_page}
use Rattle.page_memory.specs.Memory.{Agree}
use Rattle.page_memory.proofs.Laws.{word-same_page, frame_at-found, get-insert_same, get-insert_other, frame_at-insert_same, frame_at-insert_other}
use Rattle.relocate_machine.specs.declared.step.Step.{Step}
use Rattle.relocate_machine.specs.declared.step.Step.TheVariants as steps
use Rattle.relocate_machine.specs.declared.step.Writes.{Writes}
use Rattle.relocate_machine.specs.declared.word.WordKind.{WordKind}
use Rattle.relocate_machine.specs.declared.word.WordKind.TheVariants as kinds
use Rattle.relocate_machine.specs.Machine.{State, Registers, after_move, after_word, kind_of, next_word, past_word, step_by, step_of, word_address}
use Rattle.relocate_machine.specs.inner.Writes.{IsHeldFor, IsWritten, move_writes, no_writes, word_writes, writes_by, writes_of}

-- the word to handle, and what the step writes, in memories that read alike
pub next_word-same : (first : Option ℕ) (cursor : ℕ) (m n : Contents) → Agree (at m) (at n)
    → next_word first cursor n ≡ next_word first cursor m
next_word-same (Some w) cursor m n h = refl
next_word-same None cursor m n h =
    ap (λ w. cond (nat_le (2 ^ 46) cursor) (Err cursor) (Ok w)) (word-same_page (at n) (at m) cursor (sym (h (cursor / 4096))))

pub writes_of-same : (r : Registers) (m n : Contents) → Agree (at m) (at n)
    → writes_of (record { machine = r; memory = n }) ≡ writes_of (record { machine = r; memory = m })
unfolding writes_of
writes_of-same r m n h = ap (writes_by r) (next_word-same r.first r.cursor m n h)

-- n is m but for which pages of P are held
record IsSameOff (P : ℕ → Type 0) (m n : Contents) : Type 0 where
  pub sets : n.sets ≡ m.sets
  pub reads : Agree (at m) (at n)
  pub pages : (q : ℕ) → (P q → ⊥) → get n.pages q ≡ get m.pages q

off_as : (P Q : ℕ → Type 0) (m n : Contents) → ((q : ℕ) → P q → Q q) → IsSameOff P m n → IsSameOff Q m n
off_as P Q m n f h = record { sets = h.sets; reads = h.reads; pages = λ q off. h.pages q (λ x. off (f q x)) }

same_parts : (p r : FinMap nat_cmp (List ℕ)) (s t : ℕ) → p ≡ r → s ≡ t
    → ◌≡◌ {A = Contents} (record { pages = p; sets = s }) (record { pages = r; sets = t })
same_parts p r s t e f = ap (λ p. record { pages = p; sets = s }) e ∙ ap (λ s. record { pages = r; sets = s }) f

same_contents : (m n : Contents) → IsSameOff (λ q. ⊥) m n → n ≡ m
same_contents m n h =
    same_parts n.pages m.pages n.sets m.sets
    (same_map nat_cmp_total nat_cmp-IsAntisymmetric n.pages m.pages (λ q. h.pages q (λ x. x))) h.sets

-- a page that is copied to is held and reads alike
off_copied : (P : ℕ → Type 0) (m n : Contents) (d s : ℕ) → IsSameOff (λ q. (q ≡ d) ⊎ P q) m n → IsSameOff P (copy_page m d s) (copy_page n d s)
off_copied P m n d s h = record {
  sets = h.sets;
  reads = λ q. reads q (cases_eq q d);
  pages = λ q off. pages q off (cases_eq q d);
}
  where
    reads : (q : ℕ) → (q ≡ d) ⊎ (q ≢ d) → at (copy_page m d s) q ≡ at (copy_page n d s) q
    reads q (inl e) =
        subst (λ q. at (copy_page m d s) q ≡ at (copy_page n d s) q) (sym e)
        (frame_at-insert_same m.pages d (at m s) ∙ h.reads s ∙ sym (frame_at-insert_same n.pages d (at n s)))
    reads q (inr ne) =
        frame_at-insert_other m.pages d (at m s) q ne ∙ h.reads q ∙ sym (frame_at-insert_other n.pages d (at n s) q ne)

    pages : (q : ℕ) → (P q → ⊥) → (q ≡ d) ⊎ (q ≢ d) → get (copy_page n d s).pages q ≡ get (copy_page m d s).pages q
    pages q off (inl e) =
        subst (λ q. get (copy_page n d s).pages q ≡ get (copy_page m d s).pages q) (sym e)
        (get-insert_same n.pages d (at n s) ∙ ap Some (sym (h.reads s)) ∙ sym (get-insert_same m.pages d (at m s)))
    pages q off (inr ne) =
        get-insert_other n.pages d (at n s) q ne ∙ h.pages q (⊎_elim ne off) ∙ sym (get-insert_other m.pages d (at m s) q ne)

nothing : (w : Writes) (q : ℕ) → w ≡ no_writes → IsWritten w q → ⊥
nothing w q e (inl h) = none_some w.destination q (ap (λ w. w.destination) e) h
nothing w q e (inr (inl h)) = none_some w.source q (ap (λ w. w.source) e) h
nothing w q e (inr (inr h)) = none_some w.swap q (ap (λ w. w.swap) e) h

same_unwritten : (m n : Contents) → IsSameOff (IsWritten no_writes) m n → n ≡ m
same_unwritten m n h = same_contents m n (off_as (IsWritten no_writes) (λ q. ⊥) m n (λ q x. nothing no_writes q refl x) h)

move-same : (mode : Mode) (m n : Contents) (d s : ℕ) → IsSameOff (IsWritten (move_writes mode d s)) m n
    → after_move mode n d s ≡ after_move mode m d s
move-same Plain m n d s h =
    same_contents (copy_page m d s) (copy_page n d s)
    (off_copied (λ q. ⊥) m n d s (off_as (IsWritten (move_writes Plain d s)) (λ q. (q ≡ d) ⊎ ⊥) m n narrow h))
  where
    narrow : (q : ℕ) → IsWritten (move_writes Plain d s) q → (q ≡ d) ⊎ ⊥
    narrow q (inl e) = inl (sym (some_same d q e))
    narrow q (inr (inl e)) = absurd (none_some None q refl e)
    narrow q (inr (inr e)) = absurd (none_some None q refl e)
move-same (Kept w) m n d s h =
    let one = off_copied (λ q. (q ≡ s) ⊎ ((q ≡ d) ⊎ ⊥)) m n w s
    (off_as (IsWritten (move_writes (Kept w) d s)) (λ q. (q ≡ w) ⊎ ((q ≡ s) ⊎ ((q ≡ d) ⊎ ⊥))) m n narrow h) in
    let two = off_copied (λ q. (q ≡ d) ⊎ ⊥) (copy_page m w s) (copy_page n w s) s d one in
    same_contents _ _ (off_copied (λ q. ⊥) (copy_page (copy_page m w s) s d) (copy_page (copy_page n w s) s d) d w two)
  where
    narrow : (q : ℕ) → IsWritten (move_writes (Kept w) d s) q → (q ≡ w) ⊎ ((q ≡ s) ⊎ ((q ≡ d) ⊎ ⊥))
    narrow q (inl e) = inr (inr (inl (sym (some_same d q e))))
    narrow q (inr (inl e)) = inr (inl (sym (some_same s q e)))
    narrow q (inr (inr e)) = inl (sym (some_same w q e))

-- each case of a step
source-same : (r u : Registers) (m n : Contents) (a : ℕ) (far far_to : Bool)
    → IsSameOff (IsWritten (cond far no_writes (cond far_to no_writes (move_writes r.mode (r.destination / 4096) (a / 4096))))) m n
    → ◌≡◌ {A = State × Step}
    (cond far (record { machine = r; memory = n }, steps.Off a) (cond far_to (record { machine = r; memory = n }, steps.Off r.destination) (record { machine = record u { destination = r.destination + 4096 }; memory = after_move r.mode n (r.destination / 4096) (a / 4096) }, steps.Went)))
    (cond far (record { machine = r; memory = m }, steps.Off a) (cond far_to (record { machine = r; memory = m }, steps.Off r.destination) (record { machine = record u { destination = r.destination + 4096 }; memory = after_move r.mode m (r.destination / 4096) (a / 4096) }, steps.Went)))
source-same r u m n a true far_to h = ap (λ m. (record { machine = r; memory = m }, steps.Off a)) (same_unwritten m n h)
source-same r u m n a false true h = ap (λ m. (record { machine = r; memory = m }, steps.Off r.destination)) (same_unwritten m n h)
source-same r u m n a false false h =
    ap (λ m. (record { machine = record u { destination = r.destination + 4096 }; memory = m }, steps.Went))
    (move-same r.mode m n (r.destination / 4096) (a / 4096) h)

word-same : (r u : Registers) (m n : Contents) (k : WordKind) (a : ℕ) → IsSameOff (IsWritten (word_writes r k a)) m n
    → after_word (record { machine = r; memory = n }) u k a ≡ after_word (record { machine = r; memory = m }) u k a
word-same r u m n kinds.Destination a h = ap (λ m. (record { machine = record u { destination = a }; memory = m }, steps.Went)) (same_unwritten m n h)
word-same r u m n kinds.Link a h = ap (λ m. (record { machine = record u { cursor = a }; memory = m }, steps.Went)) (same_unwritten m n h)
word-same r u m n kinds.Done a h = ap (λ m. (record { machine = record u { ended = true }; memory = m }, steps.Ended)) (same_unwritten m n h)
word-same r u m n kinds.Source a h = source-same r u m n a (nat_le (2 ^ 46) a) (nat_le (2 ^ 46) r.destination) h
word-same r u m n kinds.Nothing a h = ap (λ m. (record { machine = u; memory = m }, steps.Went)) (same_unwritten m n h)

fetch-same : (r : Registers) (m n : Contents) (w : Result ℕ ℕ) → IsSameOff (IsWritten (writes_by r w)) m n
    → step_by (record { machine = r; memory = n }) w ≡ step_by (record { machine = r; memory = m }) w
fetch-same r m n (Ok w) h = word-same r (past_word r.first r) m n (kind_of w) (word_address w) h
fetch-same r m n (Err a) h = ap (λ m. (record { machine = r; memory = m }, steps.Off a)) (same_unwritten m n h)

off_held : (P : ℕ → Type 0) (m n : Contents) → IsHeldFor P m n → IsSameOff P m n
off_held P m n h = record { sets = h.stays.sets; reads = h.reads; pages = λ q off. go q off (get m.pages q) refl (get n.pages q) refl }
  where
    go : (q : ℕ) → (P q → ⊥) → (o : Option (List ℕ)) → get m.pages q ≡ o → (p : Option (List ℕ)) → get n.pages q ≡ p → get n.pages q ≡ get m.pages q
    go q off None e None f = f ∙ sym e
    go q off None e (Some c) f = ⊎_elim (λ k. absurd (false≢true (sym (ap (λ o. is_some o) e) ∙ k))) (λ k. absurd (off k)) (h.only q (ap (λ o. is_some o) f))
    go q off (Some b) e None f = absurd (false≢true (sym (ap (λ o. is_some o) f) ∙ h.stays.held q (ap (λ o. is_some o) e)))
    go q off (Some b) e (Some c) f =
        f ∙ ap Some (sym (frame_at-found n.pages q c (sym f)) ∙ sym (h.reads q) ∙ frame_at-found m.pages q b (sym e)) ∙ sym e

-- a step from a memory that holds besides what the step writes
pub step_of-same : (r : Registers) (m n : Contents) → IsHeldFor (IsWritten (writes_of (record { machine = r; memory = m }))) m n
    → step_of (record { machine = r; memory = n }) ≡ step_of (record { machine = r; memory = m })
unfolding step_of writes_of
step_of-same r m n h =
    ap (step_by (record { machine = r; memory = n })) (next_word-same r.first r.cursor m n h.reads)
    ∙ fetch-same r m n (next_word r.first r.cursor m) (off_held _ m n h)
