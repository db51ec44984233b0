-- The walk of a list of page copies, its pairs, and which lists are accepted (this project's own). A word of a list is
-- a page's address with one flag, as in the kernel's kexec core (kimage_entry_t): destination, link (indirection),
-- done, source. A link page holds 512 words.
use Rattle.std.specs.Prelude.{◌≡◌, ◌≢◌, ℕ, suc, ◌+◌, ◌*◌, ◌%◌, ◌^◌, ◌<◌, List, [], ◌∷◌, Option, Some, None}
use Rattle.std.specs.List.{AllByRecursion}
use Rattle.kx_pages.specs.declared.item.Item.{Item}
use Rattle.kx_pages.specs.declared.item.Item.TheVariants.{Link, Destination, Source, Done}
use Rattle.kx_pages.specs.Items.{code}
use Rattle.kx_pages.specs.Lists.{Has, Distinct, destinations}
use Rattle.kx_pages.specs.Bytes.{Mem, Wants}
use Rattle.page_memory.specs.Memory.{word}

-- M holds the words of these items from address a on, up to the first done word. After a link the words go on in its
-- page; no destination or source word stands in the last slot of a page. All words are read from the one memory M.
abbrev pub Reads : Mem → ℕ → List Item → Type 0
Reads M a [] = ⊥
Reads M a (Done p ∷ is) = (word M a ≡ code (Done p)) × (is ≡ [])
Reads M a (Link p ∷ is) = (word M a ≡ code (Link p)) × (p < 2 ^ 34) × Reads M (4096 * p) is
Reads M a (Destination p ∷ is) =
    (word M a ≡ code (Destination p)) × (p < 2 ^ 34) × (a % 4096 < 4088) × Reads M (a + 8) is
Reads M a (Source p ∷ is) =
    (word M a ≡ code (Source p)) × (p < 2 ^ 34) × (a % 4096 < 4088) × Reads M (a + 8) is

-- the walk of the list with this head is these items: the head is a link or done word and stands nowhere, and the words
-- after it are read from its page on
abbrev pub Walk : Mem → ℕ → List Item → Type 0
Walk M head [] = ⊥
Walk M head (Done p ∷ is) = (head ≡ code (Done p)) × (is ≡ [])
Walk M head (Link p ∷ is) = (head ≡ code (Link p)) × (p < 2 ^ 34) × Reads M (4096 * p) is
Walk M head (Destination p ∷ is) = ⊥
Walk M head (Source p ∷ is) = ⊥

-- the link pages
abbrev pub links : List Item → List ℕ
links [] = []
links (Link p ∷ is) = p ∷ links is
links (Destination p ∷ is) = links is
links (Source p ∷ is) = links is
links (Done p ∷ is) = links is

-- a destination word comes before the first source word
abbrev pub DestinationFirst : List Item → Type 0
DestinationFirst [] = Unit {0}
DestinationFirst (Link p ∷ is) = DestinationFirst is
DestinationFirst (Destination p ∷ is) = Unit {0}
DestinationFirst (Source p ∷ is) = ⊥
DestinationFirst (Done p ∷ is) = DestinationFirst is

-- the pair of destination and source page of each source word, where the next destination is page t: each source word
-- goes to the page of the last destination word, and one page further for each source word since
abbrev pub pairs_from : ℕ → List Item → List (ℕ × ℕ)
pairs_from t [] = []
pairs_from t (Link p ∷ is) = pairs_from t is
pairs_from t (Destination p ∷ is) = pairs_from p is
pairs_from t (Source p ∷ is) = (t, p) ∷ pairs_from (suc t) is
pairs_from t (Done p ∷ is) = pairs_from t is

abbrev pub pairs : List Item → List (ℕ × ℕ)
pairs is = pairs_from 0 is

-- no pair's destination is a later pair's destination or source: each destination is written once, and no source is
-- written before it is copied
abbrev pub InOrder : List (ℕ × ℕ) → Type 0
InOrder [] = Unit {0}
InOrder (q ∷ qs) = AllByRecursion (λ r. (q.0 ≢ r.0) × (q.0 ≢ r.1)) qs × InOrder qs

-- no page stands in two pairs
abbrev pub PairsApart : List (ℕ × ℕ) → Type 0
PairsApart [] = Unit {0}
PairsApart (q ∷ qs) =
    AllByRecursion (λ r. (q.0 ≢ r.0) × (q.0 ≢ r.1) × (q.1 ≢ r.0) × (q.1 ≢ r.1)) qs × PairsApart qs

-- These items are a plain list that is accepted for what W wants: it is a walk, no two link words name one page, each
-- source word has a destination word before it, the destinations are exactly the wanted pages, each source holds what its
-- destination is to have, no link page is a destination, and the control page is no link page, destination or source.
pub record Accepted (M : Mem) (W : Wants) (head control : ℕ) (is : List Item) : Type 0 where
  pub walk : Walk M head is
  pub once : Distinct (links is)
  pub destination_first : DestinationFirst is
  pub in_order : InOrder (pairs is)
  pub whole : (p : ℕ) (bytes : List ℕ) → W p ≡ Some bytes → Has p (destinations (pairs is))
  pub right_bytes : AllByRecursion (λ q. W q.0 ≡ Some (M q.1)) (pairs is)
  pub links_unwritten : AllByRecursion (λ q. AllByRecursion (λ l. q.0 ≢ l) (links is)) (pairs is)
  pub control_apart : AllByRecursion (λ l. l ≢ control) (links is)
      × AllByRecursion (λ q. (q.0 ≢ control) × (q.1 ≢ control)) (pairs is)

-- The same with context preserved. Besides, no page stands in two pairs, no link page is a source, and the swap page is
-- not the control page, a link page, a destination or a source.
pub record AcceptedKept (M : Mem) (W : Wants) (head control swap : ℕ) (is : List Item)
    : Type 0 where
  pub plain : Accepted M W head control is
  pub apart : PairsApart (pairs is)
  pub links_no_sources : AllByRecursion (λ q. AllByRecursion (λ l. q.1 ≢ l) (links is)) (pairs is)
  pub swap_apart : (swap ≢ control) × AllByRecursion (λ l. l ≢ swap) (links is)
      × AllByRecursion (λ q. (q.0 ≢ swap) × (q.1 ≢ swap)) (pairs is)

abbrev pub IsAccepted : Mem → Wants → ℕ → ℕ → Option ℕ → List Item → Type 0
IsAccepted M W head control None is = Accepted M W head control is
IsAccepted M W head control (Some swap) is = AcceptedKept M W head control swap is
