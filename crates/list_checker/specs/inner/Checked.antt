-- What the calls answer, by the memory, the segments and the image handed in (this project's own).
-- No clause of `kexec` reaches what stands here: it serves laws, and contracts inside the crates.
use Rattle.std.specs.Prelude.{◌≡◌, ℕ, ◌%◌, ◌^◌, ◌<◌, ◌&&◌, Bool, false, List, [], ◌∷◌, length, map, Option, Some, None, is_some, Result, Ok, Err}
use Rattle.std.specs.Ordering.{nat_cmp}
use Rattle.std.specs.BTreeSet.{BTreeSet, contains, btree_set_len}
use Rattle.kx_pages.specs.declared.image.Image.{Image}
use Rattle.page_memory.specs.Contents.{Contents, at}
use Rattle.segments.specs.Values.{SegmentValue, want, pages}
use Rattle.kx_pages.specs.declared.item.Item.{Item}
use Rattle.kx_pages.specs.declared.item.Item.TheVariants.{Link, Destination, Source, Done}
use Rattle.list_checker.specs.declared.fault.CheckFault.{CheckFault}
use Rattle.list_checker.specs.declared.earlier.Accept.{Accept}
use Rattle.list_checker.specs.declared.fault.Why.{Why}
use Rattle.list_checker.specs.declared.fault.Why.TheVariants.{HeadKind, RunsOff}
use Rattle.list_checker.specs.declared.earlier.Earlier.{Earlier as Sets}
use Rattle.kx_pages.specs.Items.{decode}
use Rattle.kx_pages.specs.Lists.{destinations, sources, has}
use Rattle.list_checker.specs.Walk.{links, pairs, IsAccepted}
use Rattle.list_checker.specs.Faults.{Earlier, is_head, is_kept, in_last_slot, link_reasons, pair_reasons, done_reasons}
use Rattle.list_checker.specs.inner.Faults.{reason}
use Rattle.list_checker.specs.declared.fault.CheckFault.TheVariants as faults
use Rattle.kx_pages.specs.Modes.{swap_page}
use Rattle.list_checker.specs.Checked.{as_pair, IsFirstFault}

-- the page is in the set, where there is one
abbrev pub is_among : Option (BTreeSet ℕ) → ℕ → Bool
is_among None p = false
is_among (Some t) p = contains nat_cmp t p

-- the sets have what came earlier, and there is one of the sources with context preserved alone
pub record Shows (swap : Option ℕ) (c : Sets) (s : Earlier) : Type 0 where
  pub links : (p : ℕ) → contains nat_cmp c.links p ≡ has p s.links
  pub count : btree_set_len c.links ≡ length s.links
  pub destinations : (p : ℕ) → contains nat_cmp c.destinations p ≡ has p (destinations s.pairs)
  pub kept : is_some c.sources ≡ is_kept swap
  pub sources : (p : ℕ) → is_among c.sources p ≡ (is_kept swap && has p (sources s.pairs))
  pub pairs : map as_pair c.pairs.items ≡ s.pairs
  pub next : c.next ≡ s.next

-- why the item at this place is refused, if it is
abbrev pub why_refused : Contents → List SegmentValue → Image → Option ℕ → Earlier → Option Item
    → Option Why
why_refused m S im place s i =
    reason (at m) (want S) (pages S) im.control (swap_page im.mode) place s i

-- a place is an address of a word
abbrev pub IsPlace : ℕ → Type 0
IsPlace a = (a % 8 ≡ 0) × (a < 2 ^ 46)

-- the reasons of a source word whose pair's destination is page t
abbrev pub reasons_of_pair : Contents → List SegmentValue → Image → Earlier → ℕ → ℕ
    → List (Bool × Why)
reasons_of_pair m S im s t p =
    pair_reasons (at m) (want S) (pages S) im.control (swap_page im.mode) (Some t) s p

-- the reasons of a link to page p that is below the limit
abbrev pub reasons_of_link : Image → Option ℕ → Earlier → ℕ → List (Bool × Why)
reasons_of_link im place s p = link_reasons im.control (swap_page im.mode) place s p

-- the reasons of a destination or source word by its place
abbrev pub reasons_of_place : Option ℕ → List (Bool × Why)
reasons_of_place place = (is_head place, HeadKind) ∷ (in_last_slot place, RunsOff) ∷ []

abbrev pub reasons_of_done : List SegmentValue → Image → Option ℕ → Earlier → List (Bool × Why)
reasons_of_done S im place s = done_reasons (pages S) im.control (swap_page im.mode) place s

abbrev pub reasons_of_source : Contents → List SegmentValue → Image → Earlier → ℕ
    → List (Bool × Why)
reasons_of_source m S im s p =
    pair_reasons (at m) (want S) (pages S) im.control (swap_page im.mode) s.next s p

-- what a word was found to be
abbrev pub IsJudged : Contents → List SegmentValue → Image → Option ℕ → Earlier → ℕ
    → Result Item Why → Type 0
IsJudged m S im place s w (Ok i) =
    (decode w ≡ Some i) × (why_refused m S im place s (Some i) ≡ None)
IsJudged m S im place s w (Err why) = why_refused m S im place s (decode w) ≡ Some why

-- what a word without a reason is to what came before
abbrev pub Fits : Earlier → Item → Type 0
Fits s (Link p) = has p s.links ≡ false
Fits s (Destination p) = Unit {0}
Fits s (Source p) = (d : ℕ) × (s.next ≡ Some d) × (d < 2 ^ 34)
Fits s (Done p) = Unit {0}

-- the word after the item at this place has a place: the next one of the page, where the item is no link
abbrev pub Leads : Option ℕ → Item → Type 0
Leads place i =
    ((p : ℕ) → i ≡ Link p → ⊥) → (a : ℕ) → place ≡ Some a → IsPlace a × (a % 4096 < 4088)

-- the walk is accepted, and this is told of it
abbrev pub IsAccept : Contents → List SegmentValue → Image → Accept → Type 0
IsAccept m S im a =
    (is : List Item) × IsAccepted (at m) (want S) im.head im.control (swap_page im.mode) is
    × (length is ≡ a.words) × (length (links is) ≡ a.links) × (pairs is ≡ map as_pair a.pairs.items)

abbrev pub IsCheckFault : Contents → List SegmentValue → Image → CheckFault → Type 0
IsCheckFault m S im faults.Memory = Unit {0}
IsCheckFault m S im (faults.List f) = IsFirstFault m S im f.word f.why
