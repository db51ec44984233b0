-- All relocations, step by step.
use Rattle.std.proofs.Common.{◌≡◌, ℕ, zero, suc, inl, inr, ◌+◌, ◌<◌, ◌≤◌, List, [], ◌∷◌, ◌++◌, append_assoc, length, take, drop, get_or, refl, sym, ap, subst, ◌∙◌, Option, Some, None, Result, Ok, Err, arith}
use Rattle.std.specs.List.{flat_map}
use Rattle.std.proofs.lemmas.Bool.{cases_lt}
use Rattle.std.proofs.lemmas.List.{at_drop_more, at_drop_all, take_more, drop_more, take_all, take-append-drop}
use Rattle.std.proofs.lemmas.List.FromFn.{length-map-range_with_len, get_or-map-range_with_len}
use Rattle.kx_fields.specs.Fields.{with_field}
use Rattle.elf_image.specs.declared.reloc.Reloc.{Reloc}
use Rattle.elf_image.specs.declared.reloc.RelocSection.{RelocSection}
use Rattle.elf_image.specs.Reloc.{entry_of, entries_of}
use Rattle.elf_image.specs.Object.{Relocatable, relocs_of}
use Rattle.purgatory_link.specs.declared.put.Put.{Put}
use Rattle.purgatory_link.specs.declared.relocate.LinkBuffer.{LinkBuffer}
use Rattle.purgatory_link.specs.declared.fault.LinkFault.{LinkFault}
use Rattle.kx_laws.specs.Results.{◌>>=◌}
use Rattle.purgatory_link.specs.Relocs.{with_one, with_puts, put_of, puts_of, relocate}
use Rattle.purgatory_link.specs.inner.Relocs.{HasRoom, with_put}
use Rattle.purgatory_link.specs.inner.Taken.{AreTaken}
use Rattle.purgatory_link.specs.inner.Progress.{PutSo, ArePut, Refuses}

pub room_more : (o : Relocatable) (starts : List (Option ℕ)) (n m : ℕ) → n ≤ m → HasRoom o starts n → HasRoom o starts m
room_more o starts n m h r = record { fits = λ i s e. let f = r.fits i s e in omega (arith, f, h) }

with_puts-more : (ps : List Put) (p : Put) (b : List ℕ) → with_puts (ps ++ p ∷ []) b ≡ with_field p.at p.wide p.value (with_puts ps b)
unfolding with_puts
with_puts-more [] p b = refl
with_puts-more (q ∷ qs) p b = with_puts-more qs p (with_field q.at q.wide q.value b)

pub with_puts-one : (ps : List Put) (x : Option Put) (b : List ℕ) → with_puts (with_one ps x) b ≡ with_put x (with_puts ps b)
with_puts-one ps None b = refl
with_puts-one ps (Some p) b = with_puts-more ps p b

-- ---- one relocation
puts_here : (base : ℕ) (o : Relocatable) (starts : List (Option ℕ)) (puts : List Put) (r : Reloc) (left : List Reloc) → puts_of base o starts puts (r ∷ left) ≡ (put_of base o starts puts r >>= λ x. puts_of base o starts (with_one puts x) left)
unfolding puts_of
puts_here base o starts puts r left = refl

pub one_put : (base : ℕ) (o : Relocatable) (starts : List (Option ℕ)) (old new : LinkBuffer) (r : Reloc) (x : Option Put)
    → ((puts : List Put) → AreTaken puts old.taken → Ok x ≡ put_of base o starts puts r)
    → ((puts : List Put) → AreTaken puts old.taken → AreTaken (with_one puts x) new.taken)
    → new.bytes.items ≡ with_put x old.bytes.items
    → ArePut base o starts old new (r ∷ [])
one_put base o starts old new r x is taken bytes = λ before all left so. record {
  puts = with_one so.puts x;
  taken = taken so.puts so.taken;
  bytes = bytes ∙ ap (with_put x) so.bytes ∙ sym (with_puts-one so.puts x before);
  same = ap (λ y. y >>= λ x. puts_of base o starts (with_one so.puts x) left) (is so.puts so.taken) ∙ sym (puts_here base o starts so.puts r left) ∙ so.same;
}

then_one : (base : ℕ) (o : Relocatable) (starts : List (Option ℕ)) (old now new : LinkBuffer) (rs : List Reloc) (r : Reloc) → ArePut base o starts old now rs → ArePut base o starts now new (r ∷ []) → ArePut base o starts old new (rs ++ r ∷ [])
then_one base o starts old now new rs r first one = λ before all left so.
    one before all left (first before all (r ∷ left) (subst (PutSo base o starts old before all) (append_assoc rs (r ∷ []) left) so))

then_none : (base : ℕ) (o : Relocatable) (starts : List (Option ℕ)) (old now : LinkBuffer) (rs : List Reloc) (r : Reloc) (more : List Reloc) (f : LinkFault) → ArePut base o starts old now rs → ((puts : List Put) → AreTaken puts now.taken → Err f ≡ put_of base o starts puts r) → Refuses base o starts old (rs ++ r ∷ more) f
then_none base o starts old now rs r more f first is = λ before all left so.
    let k = first before all (r ∷ more ++ left) (subst (PutSo base o starts old before all) (append_assoc rs (r ∷ more) left) so) in
    sym k.same ∙ puts_here base o starts k.puts r (more ++ left) ∙ ap (λ y. y >>= λ x. puts_of base o starts (with_one k.puts x) (more ++ left)) (sym (is k.puts k.taken))

-- ---- the entries of a section
long : (file : List ℕ) (s : RelocSection) → length (entries_of file s) ≡ s.count
long file s = length-map-range_with_len (entry_of file s) 0 s.count

there : (file : List ℕ) (s : RelocSection) (k : ℕ) (d : Reloc) → k < s.count → get_or (entries_of file s) k d ≡ entry_of file s k
there file s k d below = get_or-map-range_with_len (entry_of file s) 0 s.count k k d below (omega arith)

pub none_put : (base : ℕ) (o : Relocatable) (starts : List (Option ℕ)) (b : LinkBuffer) (file : List ℕ) (s : RelocSection) → ArePut base o starts b b (take 0 (entries_of file s))
none_put base o starts b file s = λ before all left so. so

pub entry_put : (base : ℕ) (o : Relocatable) (starts : List (Option ℕ)) (old now new : LinkBuffer) (file : List ℕ) (s : RelocSection) (k : ℕ) → k < s.count → ArePut base o starts old now (take k (entries_of file s)) → ArePut base o starts now new (entry_of file s k ∷ []) → ArePut base o starts old new (take (k + 1) (entries_of file s))
entry_put base o starts old now new file s k below first one =
    let es = entries_of file s in
    let d = entry_of file s k in
    let more : take (k + 1) es ≡ take k es ++ d ∷ [] = take_more es k d (omega (arith, below, long file s)) ∙ ap (λ r. take k es ++ r ∷ []) (there file s k d below) in
    subst (ArePut base o starts old new) (sym more) (then_one base o starts old now new (take k es) d first one)

pub entry_refused : (base : ℕ) (o : Relocatable) (starts : List (Option ℕ)) (old now : LinkBuffer) (file : List ℕ) (s : RelocSection) (k : ℕ) (f : LinkFault) → k < s.count → ArePut base o starts old now (take k (entries_of file s)) → ((puts : List Put) → AreTaken puts now.taken → Err f ≡ put_of base o starts puts (entry_of file s k)) → Refuses base o starts old (entries_of file s) f
entry_refused base o starts old now file s k f below first is =
    let es = entries_of file s in
    let d = entry_of file s k in
    let whole : take k es ++ d ∷ drop (k + 1) es ≡ es =
    sym (ap (λ r. take k es ++ r ∷ drop (k + 1) es) (there file s k d below)) ∙ sym (ap (λ l. take k es ++ l) (drop_more es k d (omega (arith, below, long file s)))) ∙ take-append-drop k es in
    subst (λ l. Refuses base o starts old l f) whole (then_none base o starts old now (take k es) d (drop (k + 1) es) f first is)

pub entries_put : (base : ℕ) (o : Relocatable) (starts : List (Option ℕ)) (old new : LinkBuffer) (file : List ℕ) (s : RelocSection) (k : ℕ) → s.count ≤ k → ArePut base o starts old new (take k (entries_of file s)) → ArePut base o starts old new (entries_of file s)
entries_put base o starts old new file s k past are = subst (ArePut base o starts old new) (take_all k (entries_of file s) (omega (arith, past, long file s))) are

-- ---- relocations that put nothing
abbrev pub PutsNothing : ℕ → Relocatable → List (Option ℕ) → Reloc → Type 0
PutsNothing base o starts r = (puts : List Put) → put_of base o starts puts r ≡ Ok None

idle_put : (base : ℕ) (o : Relocatable) (starts : List (Option ℕ)) (b : LinkBuffer) (r : Reloc) → PutsNothing base o starts r → ArePut base o starts b b (r ∷ [])
idle_put base o starts b r idle = one_put base o starts b b r None (λ puts _. sym (idle puts)) (λ puts are. are) refl

-- so many entries behind those that were put
pub idle_entries : (base : ℕ) (o : Relocatable) (starts : List (Option ℕ)) (old now : LinkBuffer) (file : List ℕ) (s : RelocSection) (j n : ℕ) → ArePut base o starts old now (take j (entries_of file s)) → ((k : ℕ) → k < n → j + k < s.count → PutsNothing base o starts (entry_of file s (j + k))) → ArePut base o starts old now (take (j + n) (entries_of file s))
idle_entries base o starts old now file s j zero are idle = let e : j ≡ j + 0 = omega arith in subst (λ m. ArePut base o starts old now (take m (entries_of file s))) e are
idle_entries base o starts old now file s j (suc n) are idle =
    let es = entries_of file s in
    let front = idle_entries base o starts old now file s j n are (λ k below. idle k (omega (arith, below))) in
    let on : j + n + 1 ≡ j + suc n = omega arith in
    elim (cases_lt (j + n) s.count) [
      | inl l ↦ subst (λ m. ArePut base o starts old now (take m es)) on (entry_put base o starts old now now file s (j + n) l front (idle_put base o starts now (entry_of file s (j + n)) (idle n (omega arith) l)))
      | inr l ↦
          let whole = take_all (j + n) es (omega (arith, l, long file s)) in
          let also = take_all (j + suc n) es (omega (arith, l, long file s)) in
          subst (ArePut base o starts old now) (whole ∙ sym also) front
    ]

-- all of them
pub all_idle : (base : ℕ) (o : Relocatable) (starts : List (Option ℕ)) (b : LinkBuffer) (file : List ℕ) (s : RelocSection) → ((k : ℕ) → k < s.count → PutsNothing base o starts (entry_of file s k)) → ArePut base o starts b b (entries_of file s)
all_idle base o starts b file s idle =
    entries_put base o starts b b file s (0 + s.count) (omega arith)
    (idle_entries base o starts b b file s 0 s.count (none_put base o starts b file s) (λ k below _. let e : k ≡ 0 + k = omega arith in subst (λ m. PutsNothing base o starts (entry_of file s m)) e (idle k below)))

-- ---- the sections
-- all that the relocations of an object put, or the first fault
abbrev pub all_of : ℕ → Relocatable → List ℕ → List (Option ℕ) → Result (List Put) LinkFault
all_of base o file starts = puts_of base o starts [] (relocs_of file o)

pub first_so : (base : ℕ) (o : Relocatable) (file : List ℕ) (starts : List (Option ℕ)) (b : LinkBuffer) (before : List ℕ) → b.bytes.items ≡ before → AreTaken [] b.taken → PutSo base o starts b before (all_of base o file starts) (flat_map (entries_of file) (drop 0 o.reloc_sections))
unfolding with_puts
first_so base o file starts b before is none = record { puts = []; taken = none; bytes = is; same = refl }

pub section_put : (base : ℕ) (o : Relocatable) (file : List ℕ) (starts : List (Option ℕ)) (old new : LinkBuffer) (before : List ℕ) (i : ℕ) (d : RelocSection) → i < length o.reloc_sections → ArePut base o starts old new (entries_of file (get_or o.reloc_sections i d)) → PutSo base o starts old before (all_of base o file starts) (flat_map (entries_of file) (drop i o.reloc_sections)) → PutSo base o starts new before (all_of base o file starts) (flat_map (entries_of file) (drop (i + 1) o.reloc_sections))
section_put base o file starts old new before i d below are so =
    let next = flat_map (entries_of file) (drop (i + 1) o.reloc_sections) in
    let e = at_drop_more (flat_map (entries_of file)) o.reloc_sections i d below in
    are before (all_of base o file starts) next (subst (PutSo base o starts old before (all_of base o file starts)) e so)

pub section_refused : (base : ℕ) (o : Relocatable) (file : List ℕ) (starts : List (Option ℕ)) (old : LinkBuffer) (before : List ℕ) (i : ℕ) (d : RelocSection) (f : LinkFault) → i < length o.reloc_sections → Refuses base o starts old (entries_of file (get_or o.reloc_sections i d)) f → PutSo base o starts old before (all_of base o file starts) (flat_map (entries_of file) (drop i o.reloc_sections)) → relocate base o file starts before ≡ Err f
unfolding relocate
section_refused base o file starts old before i d f below refused so =
    let next = flat_map (entries_of file) (drop (i + 1) o.reloc_sections) in
    let e = at_drop_more (flat_map (entries_of file)) o.reloc_sections i d below in
    ap (λ y. y >>= λ ps. Ok (with_puts ps before)) (refused before (all_of base o file starts) next (subst (PutSo base o starts old before (all_of base o file starts)) e so))

pub all_put : (base : ℕ) (o : Relocatable) (file : List ℕ) (starts : List (Option ℕ)) (b : LinkBuffer) (before : List ℕ) (i : ℕ) → length o.reloc_sections ≤ i → PutSo base o starts b before (all_of base o file starts) (flat_map (entries_of file) (drop i o.reloc_sections)) → relocate base o file starts before ≡ Ok b.bytes.items
unfolding relocate puts_of
all_put base o file starts b before i past so =
    ap (λ y. y >>= λ ps. Ok (with_puts ps before)) (sym so.same ∙ at_drop_all (λ l. puts_of base o starts so.puts (flat_map (entries_of file) l)) o.reloc_sections i past) ∙ ap (λ l. Ok l) (sym so.bytes)
