-- Memories of a few pages: what a page reads as, and their one file.
use Rattle.std.proofs.Common.{◌≡◌, ◌≢◌, ◌∙◌, ◌^◌, ◌<◌, ◌≤◌, ℕ, List, [], ◌∷◌, length, filter, Bool, true, false, cond, Option, Some, None, refl, sym, ap, subst, arith, inl, inr, drop}
use Rattle.std.specs.Prelude.{◌⊎◌, IfSome, codes, unwrap_or}
use Rattle.std.proofs.lemmas.Bool.Decides.{eqb_tells}
use Rattle.std.specs.Ordering.{eq_by_cmp, nat_cmp}
use Rattle.std.specs.Cmp.{nat_cmp_total}
use Rattle.std.specs.FinMap.{entries, entries-insert, get, get-empty, get-insert, len-empty, len-entries, nat_cmp-IsAntisymmetric, same_entries_map}
use Rattle.std.specs.FinMap.Entries.{put}
use Rattle.byteorder.specs.Endian.{little_number}
use Rattle.kx_fields.specs.Fields.{IsBlock}
use Rattle.kx_fields.proofs.Bytes.{AreBytes-from_test}
use Rattle.kx_laws.proofs.Booleans.{Equal-from_is_eq}
use Rattle.kx_pages.specs.Bytes.{Mem, page_of}
use Rattle.page_memory.specs.Contents.{IsMemory, at, zero_page}
use Rattle.page_memory.specs.File.{is_stored, stored_pages, text_of}
use Rattle.page_memory.specs.Memory.{Agree, word}
use Rattle.page_memory.proofs.Laws.{frame_at-insert_other, frame_at-insert_same, frame_at-none}
use Rattle.page_memory.proofs.OneFile.{file-agree}
use Rattle.command_parts.specs.Outputs.{IsFileOf}
use Rattle.segments.specs.Values.{overlay, want}
use Rattle.worked_commands.specs.Inputs.{no_pages_file, three_bytes}
use Rattle.worked_commands.specs.Texts.{no_memory}
use Rattle.worked_commands.proofs.Lists.{listed}
use Rattle.worked_commands.specs.Lists.{HasList, HasSource}
use Rattle.worked_commands.specs.Memories.{abc_page, list_page, loaded, loaded_file, loaded_pages, memory_with, pages_of, run_file, run_pages}

abbrev pub Pages : Type 0
Pages = List (ℕ × List ℕ)

-- the pages in the order of their numbers
abbrev pub in_order : Pages → Pages
in_order [] = []
in_order (p ∷ ps) = put nat_cmp p.0 p.1 (in_order ps)

none : (es : Pages) → length es ≡ 0 → es ≡ []
none [] e = refl
none (f ∷ es) e = absurd cc

entries_of : (ps : Pages) → entries (pages_of ps) ≡ in_order ps
entries_of [] = none (entries (pages_of [])) (sym (len-entries (pages_of [])) ∙ len-empty nat_cmp (List ℕ))
entries_of (p ∷ ps) = entries-insert nat_cmp_total (pages_of ps) p.0 p.1 ∙ ap (put nat_cmp p.0 p.1) (entries_of ps)

stored_of : (ps : Pages) → stored_pages (memory_with ps) ≡ filter is_stored (in_order ps)
stored_of ps = ap (filter is_stored) (entries_of ps)

-- each page of a memory is a whole one
abbrev pub IsWhole : Pages → Type 0
IsWhole [] = Unit {0}
IsWhole (p ∷ ps) = ((p.0 < 2 ^ 34) × IsBlock 4096 p.1) × IsWhole ps

abbrev IsPage : ℕ → Option (List ℕ) → Type 0
IsPage q o = IfSome o (λ b. (q < 2 ^ 34) × IsBlock 4096 b)

one_page : (p : ℕ × List ℕ) (q : ℕ) (o : Option (List ℕ)) (b : Bool) → eq_by_cmp nat_cmp q p.0 ≡ b → (p.0 < 2 ^ 34) × IsBlock 4096 p.1 → IsPage q o → IsPage q (cond b (Some p.1) o)
one_page p q o false e h rest = rest
one_page p q o true e h rest = let same : q ≡ p.0 = nat_cmp-IsAntisymmetric q p.0 (Equal-from_is_eq (nat_cmp q p.0) e) in (omega (arith, same, h.0), h.1)

each_page : (ps : Pages) → IsWhole ps → (q : ℕ) → IsPage q (get (pages_of ps) q)
each_page [] h q = subst (λ o. IsPage q o) (sym (get-empty nat_cmp q)) tt
each_page (p ∷ ps) h q = subst (λ o. IsPage q o) (sym (get-insert nat_cmp_total (pages_of ps) p.0 p.1 q)) (one_page p q (get (pages_of ps) q) (eq_by_cmp nat_cmp q p.0) refl h.0 (each_page ps h.1 q))

is_memory : (ps : Pages) → IsWhole ps → IsMemory (memory_with ps)
is_memory ps h = record { each = each_page ps h }

pub abc_block : IsBlock 4096 abc_page
unfolding page_of
abc_block = record { long = refl; each = AreBytes-from_test abc_page refl }

pub list_block : IsBlock 4096 list_page
unfolding page_of
list_block = record { long = refl; each = AreBytes-from_test list_page refl }

-- a memory that agrees with another has this file, where these are its pages
pub file_with : (ps : Pages) (N : Mem) → IsWhole ps → Agree (at (memory_with ps)) N → filter is_stored (in_order ps) ≡ ps → length ps ≤ 131072 → IsFileOf N (text_of ps)
file_with ps N whole agree same few = (
  memory_with ps,
  is_memory ps whole,
  agree,
  (let e : length (stored_pages (memory_with ps)) ≡ length ps = ap length (stored_of ps ∙ same) in omega (arith, e, few)),
  ap text_of (sym (stored_of ps ∙ same)),
)

-- a memory has one file
pub one_file : (N : Mem) (a b : List ℕ) → IsFileOf N a → IsFileOf N b → a ≡ b
one_file N a b f g = f.4 ∙ file-agree f.0 g.0 (λ p. f.2 p ∙ sym (g.2 p)) ∙ sym g.4

pub same_page : (p : ℕ × List ℕ) (ps : Pages) → at (memory_with (p ∷ ps)) p.0 ≡ p.1
same_page p ps = frame_at-insert_same (pages_of ps) p.0 p.1

pub other_page : (p : ℕ × List ℕ) (ps : Pages) (q : ℕ) → q ≢ p.0 → at (memory_with (p ∷ ps)) q ≡ at (memory_with ps) q
other_page p ps q apart = frame_at-insert_other (pages_of ps) p.0 p.1 q apart

pub no_page : (q : ℕ) → at (memory_with []) q ≡ zero_page
no_page q = frame_at-none (pages_of []) q (sym (get-empty nat_cmp q))

pub loaded_list : at loaded 0x11 ≡ list_page
loaded_list = same_page (0x11, list_page) ((0x12, abc_page) ∷ [])

pub loaded_source : HasSource loaded (codes "abc")
loaded_source = other_page (0x11, list_page) ((0x12, abc_page) ∷ []) 0x12 (λ e. omega (arith, e)) ∙ same_page (0x12, abc_page) []

pub has_list : HasList loaded
unfolding word page_of
has_list = (
  ap (λ page. little_number 8 (drop 0 page)) loaded_list,
  (ap (λ page. little_number 8 (drop 8 page)) loaded_list, (ap (λ page. little_number 8 (drop 16 page)) loaded_list, tt)),
)

pub loaded_is : IsFileOf (at loaded) loaded_file
unfolding page_of
loaded_is = file_with loaded_pages (at loaded) ((omega arith, list_block), ((omega arith, abc_block), tt)) (λ p. refl) refl (omega arith)

pub wanted : want three_bytes 2 ≡ Some abc_page
unfolding page_of
wanted = refl

-- a plain run changes page 2 alone
abbrev pub IsRun : ℕ → Type 0
IsRun q = at (memory_with run_pages) q ≡ overlay (at loaded) (want three_bytes) q

-- pages that are not wanted are left alone
pub left_alone : (M : Mem) (q : ℕ) → q ≢ 2 → overlay M (want three_bytes) q ≡ M q
left_alone M q apart = go (want three_bytes q) refl
  where
    only_two : (2 ≡ q) ⊎ ⊥ → ⊥
    only_two (inl e) = apart (sym e)
    only_two (inr e) = e

    go : (o : Option (List ℕ)) → want three_bytes q ≡ o → overlay M (want three_bytes) q ≡ M q
    go None e = ap (λ o. unwrap_or o (M q)) e
    go (Some bytes) e = absurd (only_two (listed.whole q bytes e))

pub is_run : (q : ℕ) → IsRun q
is_run q = elim (eqb_tells q 2) [
  | inl t ↦ subst IsRun (sym t.1) (same_page (2, abc_page) loaded_pages ∙ sym (ap (λ o. unwrap_or o (at loaded 2)) wanted))
  | inr t ↦ other_page (2, abc_page) loaded_pages q t.1 ∙ sym (left_alone (at loaded) q t.1)
]

pub run_is : IsFileOf (overlay (at loaded) (want three_bytes)) run_file
unfolding page_of
run_is = file_with run_pages (overlay (at loaded) (want three_bytes)) ((omega arith, abc_block), ((omega arith, list_block), ((omega arith, abc_block), tt))) is_run refl (omega arith)

-- the memory of the run is its own
pub run_pages_are : IsFileOf (at (memory_with run_pages)) run_file
unfolding page_of
run_pages_are = file_with run_pages (at (memory_with run_pages)) ((omega arith, abc_block), ((omega arith, list_block), ((omega arith, abc_block), tt))) (λ q. refl) refl (omega arith)

-- page 2 of the loaded memory is zeros
pub nothing_at_2 : at loaded 2 ≡ zero_page
nothing_at_2 =
    other_page (0x11, list_page) ((0x12, abc_page) ∷ []) 2 (λ e. omega (arith, e))
    ∙ other_page (0x12, abc_page) [] 2 (λ e. omega (arith, e)) ∙ no_page 2

-- the memory without pages has its file
pub no_pages_are : IsFileOf (at no_memory) no_pages_file
unfolding text_of
no_pages_are = file_with [] (at no_memory) tt (λ q. refl) refl (omega arith)

-- memories of the same pages in the order of their numbers are one
pub one_memory_of : (ps qs : Pages) → in_order ps ≡ in_order qs → memory_with ps ≡ memory_with qs
one_memory_of ps qs e = ap (λ pages. record { pages = pages; sets = 0 }) (same_entries_map (pages_of ps) (pages_of qs) (entries_of ps ∙ e ∙ sym (entries_of qs)))
