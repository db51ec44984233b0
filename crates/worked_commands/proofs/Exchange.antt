-- A load with context preserved: its list, and what its runs leave.
use Rattle.std.proofs.Common.{◌≡◌, ◌≢◌, ◌∙◌, ℕ, List, [], ◌∷◌, Some, true, false, cond, refl, sym, ap, arith, drop, inl, inr}
use Rattle.std.specs.Prelude.{◌⊎◌, eqb}
use Rattle.std.proofs.lemmas.Bool.Decides.{eqb_tells}
use Rattle.byteorder.specs.Endian.{little_number}
use Rattle.kx_fields.specs.Fields.{IsBlock}
use Rattle.kx_fields.proofs.Bytes.{AreBytes-from_test}
use Rattle.kx_pages.specs.Bytes.{Mem, page_of}
use Rattle.kx_pages.specs.declared.item.Item.{Item}
use Rattle.page_memory.specs.Contents.{at}
use Rattle.page_memory.specs.Memory.{word}
use Rattle.page_memory.specs.File.{text_of}
use Rattle.load_states.specs.Exchange.{exchange}
use Rattle.list_checker.specs.Walk.{AcceptedKept}
use Rattle.list_checker.proofs.Unique.{walk_same}
use Rattle.command_parts.specs.Outputs.{IsFileOf}
use Rattle.segments.specs.Values.{want}
use Rattle.worked_commands.specs.Inputs.{three_bytes}
use Rattle.worked_commands.specs.Kept.{exchange_memory, exchange_page, old_page, once_pages, one_exchange, twice_pages}
use Rattle.worked_commands.specs.Lists.{HasWords}
use Rattle.worked_commands.specs.Memories.{abc_page, memory_with}
use Rattle.worked_commands.proofs.Lists.{listed}
use Rattle.worked_commands.proofs.Memories.{abc_block, file_with, other_page, same_page}

old_block : IsBlock 4096 old_page
unfolding page_of
old_block = record { long = refl; each = AreBytes-from_test old_page refl }

list_block : IsBlock 4096 exchange_page
unfolding page_of
list_block = record { long = refl; each = AreBytes-from_test exchange_page refl }

-- the pages before the first run
at_2 : at exchange_memory 2 ≡ old_page
at_2 = same_page (2, old_page) ((0x12, exchange_page) ∷ (0x13, abc_page) ∷ [])

at_list : at exchange_memory 0x12 ≡ exchange_page
at_list = other_page (2, old_page) ((0x12, exchange_page) ∷ (0x13, abc_page) ∷ []) 0x12 (λ e. omega (arith, e)) ∙ same_page (0x12, exchange_page) ((0x13, abc_page) ∷ [])

at_source : at exchange_memory 0x13 ≡ abc_page
at_source =
    other_page (2, old_page) ((0x12, exchange_page) ∷ (0x13, abc_page) ∷ []) 0x13 (λ e. omega (arith, e))
    ∙ other_page (0x12, exchange_page) ((0x13, abc_page) ∷ []) 0x13 (λ e. omega (arith, e))
    ∙ same_page (0x13, abc_page) []

words : HasWords (at exchange_memory) 0x12000 (0x2001 ∷ 0x13008 ∷ 4 ∷ [])
unfolding word page_of
words = (
  ap (λ page. little_number 8 (drop 0 page)) at_list,
  (ap (λ page. little_number 8 (drop 8 page)) at_list, (ap (λ page. little_number 8 (drop 16 page)) at_list, tt)),
)

pub accepted : AcceptedKept (at exchange_memory) (want three_bytes) 0x12002 0x10 0x11 one_exchange
unfolding page_of
accepted = record {
  plain = record {
    walk = (refl, omega arith, (words.0, omega arith, omega arith, (words.1.0, omega arith, omega arith, (words.1.1.0, refl))));
    once = (tt, tt);
    destination_first = tt;
    in_order = (tt, tt);
    whole = listed.whole;
    right_bytes = (ap Some (sym at_source), tt);
    links_unwritten = ((omega arith, tt), tt);
    control_apart = ((omega arith, tt), ((omega arith, omega arith), tt));
  };
  apart = (tt, tt);
  links_no_sources = ((omega arith, tt), tt);
  swap_apart = (omega arith, (omega arith, tt), ((omega arith, omega arith), tt));
}

pub only_list : (is : List Item) → AcceptedKept (at exchange_memory) (want three_bytes) 0x12002 0x10 0x11 is → is ≡ one_exchange
only_list is a = walk_same (at exchange_memory) 0x12002 is one_exchange a.plain.walk accepted.plain.walk

abbrev once : Mem
once = exchange (at exchange_memory) ((2, 0x13) ∷ []) 0x11

abbrev twice : Mem
twice = exchange once ((2, 0x13) ∷ []) 0x11

no : (k q : ℕ) → q ≢ k → eqb k q ≡ false
no k q apart = elim (eqb_tells k q) [ inl t ↦ absurd (apart (sym t.1)) | inr t ↦ t.0 ]

no_swap : (q : ℕ) → q ≢ 0x11 → eqb q 0x11 ≡ false
no_swap q apart = elim (eqb_tells q 0x11) [ inl t ↦ absurd (apart t.1) | inr t ↦ t.0 ]

-- another page is as it was
once_other : (q : ℕ) → q ≢ 2 → q ≢ 0x11 → q ≢ 0x13 → once q ≡ at exchange_memory q
once_other q a b c = λ i. at exchange_memory (cond (no_swap q b i) 0x13 (cond (no 2 q a i) 0x13 (cond (no 0x13 q c i) 2 q)))

twice_other : (q : ℕ) → q ≢ 2 → q ≢ 0x11 → q ≢ 0x13 → twice q ≡ at exchange_memory q
twice_other q a b c = (λ i. once (cond (no_swap q b i) 0x13 (cond (no 2 q a i) 0x13 (cond (no 0x13 q c i) 2 q)))) ∙ once_other q a b c

-- a memory that has these pages and the list, and is otherwise zeros
abbrev after : (a b c : List ℕ) → List (ℕ × List ℕ)
after a b c = (2, a) ∷ (0x11, b) ∷ (0x12, exchange_page) ∷ (0x13, c) ∷ []

alike : (a b c : List ℕ) (q : ℕ) → q ≢ 2 → q ≢ 0x11 → q ≢ 0x13 → at (memory_with (after a b c)) q ≡ at exchange_memory q
alike a b c q u v w =
    other_page (2, a) ((0x11, b) ∷ (0x12, exchange_page) ∷ (0x13, c) ∷ []) q u
    ∙ other_page (0x11, b) ((0x12, exchange_page) ∷ (0x13, c) ∷ []) q v
    ∙ by_list (eqb_tells q 0x12)
    ∙ sym (other_page (2, old_page) ((0x12, exchange_page) ∷ (0x13, abc_page) ∷ []) q u)
  where
    by_list : ((eqb q 0x12 ≡ true) × (q ≡ 0x12)) ⊎ ((eqb q 0x12 ≡ false) × (q ≢ 0x12)) → at (memory_with ((0x12, exchange_page) ∷ (0x13, c) ∷ [])) q ≡ at (memory_with ((0x12, exchange_page) ∷ (0x13, abc_page) ∷ [])) q
    by_list (inl t) = ap (at (memory_with ((0x12, exchange_page) ∷ (0x13, c) ∷ []))) t.1 ∙ same_page (0x12, exchange_page) ((0x13, c) ∷ []) ∙ sym (ap (at (memory_with ((0x12, exchange_page) ∷ (0x13, abc_page) ∷ []))) t.1 ∙ same_page (0x12, exchange_page) ((0x13, abc_page) ∷ []))
    by_list (inr t) =
        other_page (0x12, exchange_page) ((0x13, c) ∷ []) q t.1 ∙ other_page (0x13, c) [] q w
        ∙ sym (other_page (0x12, exchange_page) ((0x13, abc_page) ∷ []) q t.1 ∙ other_page (0x13, abc_page) [] q w)

-- the memory of these pages is one that agrees with them at the three pages and is otherwise the same
agree : (a b c : List ℕ) (N : Mem) → N 2 ≡ a → N 0x11 ≡ b → N 0x13 ≡ c → ((q : ℕ) → q ≢ 2 → q ≢ 0x11 → q ≢ 0x13 → N q ≡ at exchange_memory q) → (q : ℕ) → at (memory_with (after a b c)) q ≡ N q
agree a b c N x y z rest q = elim (eqb_tells q 2) [
  | inl t ↦ ap (at (memory_with (after a b c))) t.1 ∙ same_page (2, a) ((0x11, b) ∷ (0x12, exchange_page) ∷ (0x13, c) ∷ []) ∙ sym (ap N t.1 ∙ x)
  | inr t ↦ elim (eqb_tells q 0x11) [
    | inl u ↦ ap (at (memory_with (after a b c))) u.1 ∙ at_swap ∙ sym (ap N u.1 ∙ y)
    | inr u ↦ elim (eqb_tells q 0x13) [
      | inl v ↦ ap (at (memory_with (after a b c))) v.1 ∙ at_last ∙ sym (ap N v.1 ∙ z)
      | inr v ↦ alike a b c q t.1 u.1 v.1 ∙ sym (rest q t.1 u.1 v.1)
    ]
  ]
]
  where
    at_swap : at (memory_with (after a b c)) 0x11 ≡ b
    at_swap = other_page (2, a) ((0x11, b) ∷ (0x12, exchange_page) ∷ (0x13, c) ∷ []) 0x11 (λ e. omega (arith, e)) ∙ same_page (0x11, b) ((0x12, exchange_page) ∷ (0x13, c) ∷ [])

    at_last : at (memory_with (after a b c)) 0x13 ≡ c
    at_last =
        other_page (2, a) ((0x11, b) ∷ (0x12, exchange_page) ∷ (0x13, c) ∷ []) 0x13 (λ e. omega (arith, e))
        ∙ other_page (0x11, b) ((0x12, exchange_page) ∷ (0x13, c) ∷ []) 0x13 (λ e. omega (arith, e))
        ∙ other_page (0x12, exchange_page) ((0x13, c) ∷ []) 0x13 (λ e. omega (arith, e))
        ∙ same_page (0x13, c) []

pub once_is : IsFileOf once (text_of once_pages)
unfolding page_of
once_is =
    file_with once_pages once ((omega arith, abc_block), ((omega arith, abc_block), ((omega arith, list_block), ((omega arith, old_block), tt))))
    (agree abc_page abc_page old_page once at_source at_source at_2 once_other) refl (omega arith)

pub twice_is : IsFileOf twice (text_of twice_pages)
unfolding page_of
twice_is =
    file_with twice_pages twice ((omega arith, old_block), ((omega arith, old_block), ((omega arith, list_block), ((omega arith, abc_block), tt))))
    (agree old_page old_page abc_page twice at_2 at_2 at_source twice_other) refl (omega arith)
