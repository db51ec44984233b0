-- Where a Multiboot kernel is loaded.
use Rattle.std.proofs.Common.{◌≡◌, ◌∙◌, ℕ, ◌+◌, ◌-◌, ◌*◌, ◌/◌, ◌%◌, ◌^◌, ◌<◌, ◌≤◌, ◌++◌, List, [], ◌∷◌, drop, length, take, replicate, Bool, true, false, cond, Option, Some, None, Result, Ok, Err, refl, sym, ap, subst, arith, inl, inr}
use Rattle.std.specs.Prelude.{nat_le, nat_lt, slice_index, ◌==◌, ◌&&◌, not}
use Rattle.std.specs.List.{find, range_with_len}
use Rattle.std.proofs.Math.ListN.{get_or-eq_default}
use Rattle.std.proofs.lemmas.Bool.{cases_eq, cond-false, cond-true, eq-eqb, ltb-false, ne_eqb, or_parts}
use Rattle.std.proofs.lemmas.Bool.Decides.{nat_tests}
use Rattle.std.proofs.lemmas.List.{get_or-drop, get_or-take, get_or-append_right, length-replicate, length-take, take-append-drop}
use Rattle.kx_laws.proofs.Results.{guard_ok, ok_same}
use Rattle.kx_fields.specs.Fields.{bytes_at, field}
use Rattle.kx_fields.specs.Formats.{read}
use Rattle.kx_fields.proofs.Fields.{field-append}
use Rattle.kx_pages.specs.Limits.{segment_page_limit}
use Rattle.segments.specs.Values.{SegmentValue}
use Rattle.elf_image.specs.Loads.{Executable, exec_reading}
use Rattle.elf_image.specs.Image.{image}
use Rattle.elf_image.specs.declared.fault.ElfFault.{ElfFault}
use Rattle.multiboot_image.specs.Header.{find_header, has_bit, head_at, header_in, header_of, header_place, is_header_at, kludge, kludge_in, unknown_bit, unless_unknown, with_kludge}
use Rattle.multiboot_image.specs.Parts.{Loaded, elf_parts, exec_parts, image_parts, is_bad, kludge_parts, load_stop, loaded_length, memory_stop, page_count, parts, parts_by, place, segment, segments, site}
use Rattle.multiboot_image.specs.declared.fault.MbFault.{MbFault}
use Rattle.multiboot_image.specs.declared.header.Header.{Header}
use Rattle.multiboot_image.specs.declared.header.Kludge.{Kludge}
use Rattle.plan_laws.specs.Executable.{AreLoaded32, HasByte, IsLoaded}
use Rattle.plan_laws.specs.Multiboot.{IsLoadedByHeader, IsLoadedMultiboot}
use Rattle.plan_laws.proofs.Bare.{image_is}
use Rattle.plan_laws.proofs.Headers.{entry32, field_of, loads32, parts_of}
use Rattle.plan_laws.proofs.Laying.{one_left}
use Rattle.plan_laws.proofs.Private.{MultibootSite}

-- ---- the header that was found

in_window : (b u n : ℕ) (file : List ℕ) → b + u ≤ length (take n file) → field b u (take n file) ≡ field b u file
in_window b u n file within = sym (field-append b u (take n file) (drop n file) within) ∙ ap (field b u) (take-append-drop n file)

passes : (f : ℕ → Bool) (xs : List ℕ) (x : ℕ) → find f xs ≡ Some x → f x ≡ true
passes f [] x e = cc
passes f (y ∷ ys) x e = by (f y) refl e (λ e. passes f ys x e)
  where
    by : (b : Bool) → f y ≡ b → cond b (Some y) (find f ys) ≡ Some x → (find f ys ≡ Some x → f x ≡ true) → f x ≡ true
    by true is e rest = (let same : y ≡ x = cc in ap f (sym same)) ∙ is
    by false is e rest = rest e

and_right : (a b : Bool) → (a && b) ≡ true → b ≡ true
and_right true b e = e
and_right false b e = cc

and_left : (a b : Bool) → (a && b) ≡ true → a ≡ true
and_left true b e = refl
and_left false b e = cc

near : (n m : ℕ) → nat_le n m ≡ true → n ≤ m
near n m e = grind (arith, nat_tests)

-- what is known of it
pub record Found (file : List ℕ) (h : Header) : Type 0 where
  pub flags : h.flags ≡ field (h.at + 4) 4 file
  pub with_addresses : has_bit h.flags 16 ≡ true → (k : Kludge) × (h.kludge ≡ Some k) × (h.at + 32 ≤ length (take 8192 file)) × (read kludge (bytes_at h.at 32 (take 8192 file)) ≡ k)
  pub without : has_bit h.flags 16 ≡ false → h.kludge ≡ None

addresses : (w : List ℕ) (at flags : ℕ) (h : Header) → with_kludge at flags (kludge_in w at) ≡ Ok h → (h.at ≡ at) × (h.flags ≡ flags) × (k : Kludge) × (h.kludge ≡ Some k) × (at + 32 ≤ length w) × (read kludge (bytes_at at 32 w) ≡ k)
addresses w at flags h e = by (nat_le (at + 32) (length w)) refl e
  where
    by : (b : Bool) → nat_le (at + 32) (length w) ≡ b → with_kludge at flags (cond b (Some (read kludge (bytes_at at 32 w))) None) ≡ Ok h → (h.at ≡ at) × (h.flags ≡ flags) × (k : Kludge) × (h.kludge ≡ Some k) × (at + 32 ≤ length w) × (read kludge (bytes_at at 32 w) ≡ k)
    by true is e =
        let same = ok_same {F = MbFault} _ h e in
        (sym (ap (λ (h : Header). h.at) same), sym (ap (λ (h : Header). h.flags) same), read kludge (bytes_at at 32 w), sym (ap (λ (h : Header). h.kludge) same), near (at + 32) (length w) is, refl)
    by false is e = cc

known : (file : List ℕ) (at flags : ℕ) (o : Option ℕ) (h : Header) → flags ≡ field (at + 4) 4 file → unless_unknown (take 8192 file) at flags o ≡ Ok h → Found file h
known file at flags (Some bit) h is e = cc
known file at flags None h is e = by (has_bit flags 16) refl e
  where
    by : (b : Bool) → has_bit flags 16 ≡ b → cond b (with_kludge at flags (kludge_in (take 8192 file) at)) (Ok (record { at = at; flags = flags; kludge = None })) ≡ Ok h → Found file h
    by true set e =
        let a = addresses (take 8192 file) at flags h e in
        let here = sym a.0 in
        record {
          flags = a.1 ∙ is ∙ ap (λ at. field (at + 4) 4 file) here;
          with_addresses = λ _. (a.2, a.3, subst (λ at. at + 32 ≤ length (take 8192 file)) here a.4, ap (λ at. read kludge (bytes_at at 32 (take 8192 file))) a.0 ∙ a.5);
          without = λ clear. (let b : true ≡ false = sym set ∙ ap (λ n. has_bit n 16) (sym a.1) ∙ clear in cc);
        }
    by false clear e =
        let same = ok_same {F = MbFault} (record { at = at; flags = flags; kludge = None }) h e in
        subst (Found file) same (record {
          flags = is;
          with_addresses = λ set. (let b : false ≡ true = sym clear ∙ set in cc);
          without = λ _. refl;
        })

pub found : (file : List ℕ) (h : Header) → find_header file ≡ Ok h → Found file h
unfolding find_header header_place header_of
found file h e = by (find (is_header_at (take 8192 file)) (range_with_len 0 (length (take 8192 file)))) refl e
  where
    by : (o : Option ℕ) → find (is_header_at (take 8192 file)) (range_with_len 0 (length (take 8192 file))) ≡ o → header_in (take 8192 file) o ≡ Ok h → Found file h
    by None is e = cc
    by (Some at) is e =
        let w = take 8192 file in
        let it = passes (is_header_at w) (range_with_len 0 (length w)) at is in
        let inside = near (at + 12) (length w) (and_left (nat_le (at + 12) (length w)) _ (and_right (at % 4 == 0) _ it)) in
        known file at (head_at w at).flags (unknown_bit (head_at w at).flags) h
        (field_of 12 at 4 4 w inside (omega arith) ∙ in_window (at + 4) 4 8192 file (omega (arith, inside))) e

-- ---- by the addresses in the header
pub record Fits (file : List ℕ) (at : ℕ) (k : Kludge) : Type 0 where
  pub header_addr : k.header_addr ≡ field (at + 12) 4 file
  pub load_addr : k.load_addr ≡ field (at + 16) 4 file
  pub load_end_addr : k.load_end_addr ≡ field (at + 20) 4 file
  pub bss_end_addr : k.bss_end_addr ≡ field (at + 24) 4 file
  pub entry_addr : k.entry_addr ≡ field (at + 28) 4 file

fits : (file : List ℕ) (at : ℕ) (k : Kludge) → at + 32 ≤ length (take 8192 file) → read kludge (bytes_at at 32 (take 8192 file)) ≡ k → Fits file at k
fits file at k inside is =
    let w = take 8192 file in
    let f = λ (b : ℕ) (within : b + 4 ≤ 32). (field_of 32 at b 4 w inside within ∙ in_window (at + b) 4 8192 file (omega (arith, inside, within))) in
    subst (Fits file at) is (record {
      header_addr = f 12 (omega arith);
      load_addr = f 16 (omega arith);
      load_end_addr = f 20 (omega arith);
      bss_end_addr = f 24 (omega arith);
      entry_addr = f 28 (omega arith);
    })

late : (x y : ℕ) → (not (x == 0) && nat_lt x y) ≡ false → 0 < x → y ≤ x
late x y e h = grind (arith, nat_tests)

module _ (file : List ℕ) (at : ℕ) (k : Kludge) where
  abbrev s : MultibootSite
  s = site file at k

  -- the addresses fit the file and one another
  pub record IsGood : Type 0 where
    pub header : k.load_addr ≤ k.header_addr
    pub low : k.header_addr ≤ at + k.load_addr
    pub ends : 0 < k.load_end_addr → k.load_addr ≤ k.load_end_addr
    pub whole : place s + loaded_length s ≤ length file
    pub memory : 0 < k.bss_end_addr → load_stop s ≤ k.bss_end_addr

  good : is_bad s ≡ false → IsGood
  good e =
      let a = or_parts (nat_lt k.header_addr k.load_addr) _ e in
      let b = or_parts (nat_lt (at + k.load_addr) k.header_addr) _ a.1 in
      let c = or_parts (not (k.load_end_addr == 0) && nat_lt k.load_end_addr k.load_addr) _ b.1 in
      let d = or_parts (nat_lt (length file) (place s + loaded_length s)) _ c.1 in
      let f = or_parts (nat_lt (2 ^ 32) (memory_stop s)) _ d.1 in
      record {
        header = ltb-false k.header_addr k.load_addr a.0;
        low = ltb-false (at + k.load_addr) k.header_addr b.0;
        ends = late k.load_end_addr k.load_addr c.0;
        whole = ltb-false (length file) (place s + loaded_length s) d.0;
        memory = late k.bss_end_addr (load_stop s) f.1;
      }

  abbrev count : ℕ
  count = loaded_length s

  abbrev memory : ℕ
  memory = memory_stop s - k.load_addr

  -- the byte of the segment so far behind load_addr
  byte_of : (i : ℕ) (b : ℕ) → i < memory → slice_index (take count (drop (place s) file)) i ≡ b → HasByte (k.load_addr + i) b (segments file s)
  byte_of i b inside is =
      let r = k.load_addr % 4096 in
      let met : page_count s ≡ (memory_stop s + 4095) / 4096 - k.load_addr / 4096 = cond-true _ _ _ (less k.load_addr (memory_stop s) (omega (arith, inside))) in
      let some : (page_count s == 0) ≡ false = ne_eqb (page_count s) 0 (λ none. omega (arith, none, met, inside)) in
      let index : k.load_addr + i - 4096 * (k.load_addr / 4096) ≡ r + i = omega arith in
      let back : r + i - r ≡ i = omega arith in
      subst (HasByte (k.load_addr + i) b) (sym (cond-false (page_count s == 0) [] (segment file s ∷ []) some)) (
        segment file s,
        (0, refl),
        (omega arith, omega (arith, inside, met)),
        ap (slice_index (segment file s).bytes) index
            ∙ get_or-append_right (replicate r 0) (take count (drop (place s) file)) r (r + i) 0 (length-replicate r 0) (omega arith)
            ∙ ap (slice_index (take count (drop (place s) file))) back ∙ is,
      )
    where
      less : (a b : ℕ) → a < b → nat_lt a b ≡ true
      less a b h = grind (arith, nat_tests)

  stops : (load_stop s ≤ memory_stop s) → count ≤ memory
  stops h = omega (arith, h)

  loaded : count ≤ memory → IsLoaded file (place s) k.load_addr count memory (segments file s)
  loaded long = record {
    bytes = λ i inside. byte_of i (slice_index file (place s + i)) (omega (arith, inside, long)) (get_or-take count (drop (place s) file) i 0 inside ∙ get_or-drop (place s) file i 0);
    zeros = λ i past inside. byte_of i 0 inside (get_or-eq_default (take count (drop (place s) file)) 0 (omega (arith, length-take count (drop (place s) file), past)));
  }

  pub by_addresses : IsGood → Fits file at k → IsLoadedByHeader file at k.entry_addr (segments file s)
  by_addresses g f =
      let to_end = λ (e : k.load_end_addr ≡ 0). cond-true (k.load_end_addr == 0) (length file - place s) (k.load_end_addr - k.load_addr) (eq-eqb _ _ e) in
      let to_address = λ (e : 0 < k.load_end_addr). cond-false (k.load_end_addr == 0) (length file - place s) (k.load_end_addr - k.load_addr) (ne_eqb _ _ (λ z. omega (arith, z, e))) in
      let no_bss = λ (e : k.bss_end_addr ≡ 0). cond-true (k.bss_end_addr == 0) (load_stop s) k.bss_end_addr (eq-eqb _ _ e) in
      let bss = λ (e : 0 < k.bss_end_addr). cond-false (k.bss_end_addr == 0) (load_stop s) k.bss_end_addr (ne_eqb _ _ (λ z. omega (arith, z, e))) in
      let whole = g.whole in
      let low = g.low in
      let long : count ≤ memory =
      elim (cases_eq k.bss_end_addr 0) [
        | inl z ↦ omega (arith, no_bss z)
        | inr n ↦ (let some : 0 < k.bss_end_addr = omega (arith, n) in let up = g.memory some in omega (arith, bss some, up))
      ] in
      record {
        entry_addr = f.entry_addr;
        place = place s;
        header_addr = (let h = f.header_addr in let l = f.load_addr in omega (arith, h, l, low));
        count = count;
        to_the_end = λ z. (let e = to_end (f.load_end_addr ∙ z) in omega (arith, e, whole));
        load_end_addr = λ n. (let l = f.load_addr in let m = f.load_end_addr in let some : 0 < k.load_end_addr = omega (arith, m, n) in let e = to_address some in let up = g.ends some in omega (arith, e, l, m, up));
        memory = memory;
        no_more = λ z. (let e = no_bss (f.bss_end_addr ∙ z) in omega (arith, e));
        bss_end_addr = λ n. (let l = f.load_addr in let m = f.bss_end_addr in let some : 0 < k.bss_end_addr = omega (arith, m, n) in let e = bss some in let up = g.memory some in omega (arith, e, l, m, up));
        loaded = subst (λ a. IsLoaded file (place s) a count memory (segments file s)) f.load_addr (loaded long);
      }

-- ---- either way
kludge_made : (file : List ℕ) (at : ℕ) (k : Kludge) (l : Loaded) → kludge_parts file (site file at k) ≡ Ok l → Fits file at k → IsLoadedByHeader file at l.entry l.list
unfolding kludge_parts
kludge_made file at k l e f =
    let s = site file at k in
    let a = guard_ok (is_bad s) _ _ l e in
    let b = guard_ok (nat_lt segment_page_limit (page_count s)) _ _ l a.1 in
    subst (λ (l : Loaded). IsLoadedByHeader file at l.entry l.list) (ok_same {F = MbFault} (record { list = segments file s; entry = k.entry_addr }) l b.1)
    (by_addresses file at k (good file at k a.0) f)

image_made : (file : List ℕ) (entry : ℕ) (r : Result (List SegmentValue) ElfFault) (l : Loaded) → image_parts entry r ≡ Ok l → (r ≡ Ok l.list) × (entry ≡ l.entry)
image_made file entry (Ok list) l e = let same = ok_same {F = MbFault} (record { list = list; entry = entry }) l e in (ap (λ (l : Loaded). Ok l.list) same, ap (λ (l : Loaded). l.entry) same)
image_made file entry (Err f) l e = cc

elf_made : (file : List ℕ) (r : Result Executable ElfFault) (l : Loaded) → exec_reading file ≡ r → exec_parts file r ≡ Ok l → (l.entry ≡ field 0x18 4 file) × AreLoaded32 file l.list
elf_made file (Err f) l is e = cc
elf_made file (Ok x) l is e =
    let a = guard_ok x.wide _ _ l e in
    let b = image_made file x.entry (image file x.loads) l a.1 in
    let p = parts_of file x is in
    let narrow = sym p.wide ∙ a.0 in (
      sym b.1 ∙ entry32 file x is p narrow,
      subst (AreLoaded32 file) (image_is file x.loads l.list b.0) (loads32 file x is p narrow),
    )

pub kernel_is_loaded : (file : List ℕ) (h : Header) (l : Loaded) → find_header file ≡ Ok h → parts h file ≡ Ok l → IsLoadedMultiboot file l.entry l.list
unfolding elf_parts
kernel_is_loaded file h l there e =
    let f = found file h there in
    record {
      header = h;
      found = there;
      by_header = λ set.
          let k = f.with_addresses (ap (λ n. has_bit n 16) f.flags ∙ set) in
          kludge_made file h.at k.0 l (ap (parts_by file h.at) (sym k.1) ∙ e) (fits file h.at k.0 k.2 k.3);
      as_elf = λ clear.
          elf_made file (exec_reading file) l refl (ap (parts_by file h.at) (sym (f.without (ap (λ n. has_bit n 16) f.flags ∙ clear))) ∙ e);
    }

-- ---- with more segments
byte_left : (a b : ℕ) (ss ts : List SegmentValue) → HasByte a b ss → HasByte a b (ss ++ ts)
byte_left a b ss ts (x, one, inside, is) = (x, one_left x ss ts one, inside, is)

loaded_left : (file : List ℕ) (place a n m : ℕ) (ss ts : List SegmentValue) → IsLoaded file place a n m ss → IsLoaded file place a n m (ss ++ ts)
loaded_left file place a n m ss ts l = record {
  bytes = λ k inside. byte_left (a + k) (slice_index file (place + k)) ss ts (l.bytes k inside);
  zeros = λ k past inside. byte_left (a + k) 0 ss ts (l.zeros k past inside);
}

pub kernel_left : (file : List ℕ) (entry : ℕ) (ss ts : List SegmentValue) → IsLoadedMultiboot file entry ss → IsLoadedMultiboot file entry (ss ++ ts)
kernel_left file entry ss ts k = record {
  header = k.header;
  found = k.found;
  by_header = λ set. (let l = k.by_header set in record {
    entry_addr = l.entry_addr;
    place = l.place;
    header_addr = l.header_addr;
    count = l.count;
    to_the_end = l.to_the_end;
    load_end_addr = l.load_end_addr;
    memory = l.memory;
    no_more = l.no_more;
    bss_end_addr = l.bss_end_addr;
    loaded = loaded_left file l.place _ l.count l.memory ss ts l.loaded;
  });
  as_elf = λ clear. (let l = k.as_elf clear in (l.0, λ i p below place type. loaded_left file _ _ _ _ ss ts (l.1 i p below place type)));
}
