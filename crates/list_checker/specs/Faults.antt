-- The first fault of a list that is not accepted, word by word. These are this project's own reasons, in its own order.
-- Which lists are accepted is defined without them.
use Rattle.std.specs.Prelude.{◌≡◌, ◌≢◌, ℕ, zero, suc, ◌+◌, ◌*◌, ◌%◌, ◌^◌, Bool, true, false, not, ◌||◌, ◌&&◌, leb, List, [], ◌∷◌, ◌++◌, map, Option, Some, None, if◌then◌else◌, ◌==◌}
use Rattle.kx_pages.specs.declared.item.Item.{Item}
use Rattle.kx_pages.specs.declared.item.Item.TheVariants.{Link, Destination, Source, Done}
use Rattle.kx_pages.specs.Items.{decode}
use Rattle.kx_pages.specs.Lists.{has, destinations, sources}
use Rattle.kx_pages.specs.Bytes.{Mem, Wants}
use Rattle.page_memory.specs.Memory.{word}
use Rattle.list_checker.specs.declared.fault.Why.{Why}
use Rattle.list_checker.specs.declared.fault.Why.TheVariants.{Flags, HeadKind, LinkAgain, RunsOff, NoDestination, NotWanted, TwiceWritten, SourceSpoiled, LinkSpoiled, ControlTouched, PairsMeet, SwapTouched, WrongBytes, Missing, PastLimit}

-- a word stands at an address, or is the head, which stands nowhere
abbrev pub is_head : Option ℕ → Bool
is_head None = true
is_head (Some a) = false

-- the last of the 512 slots of a page
abbrev pub in_last_slot : Option ℕ → Bool
in_last_slot None = false
in_last_slot (Some a) = leb 4088 (a % 4096)

-- what the words before a word were: link pages, pairs, and the destination of the next source word, once there was a
-- destination word
pub record Earlier : Type 0 where
  pub links : List ℕ
  pub pairs : List (ℕ × ℕ)
  pub next : Option ℕ

abbrev pub nothing_earlier : Earlier
nothing_earlier = record { links = []; pairs = []; next = None }

abbrev pub with_pair : Option ℕ → Earlier → ℕ → Earlier
with_pair None s p = s
with_pair (Some t) s p =
    record { links = s.links; pairs = s.pairs ++ (t, p) ∷ []; next = Some (suc t) }

abbrev pub with_item : Earlier → Item → Earlier
with_item s (Link p) = record s { links = s.links ++ p ∷ [] }
with_item s (Destination p) = record s { next = Some p }
with_item s (Source p) = with_pair s.next s p
with_item s (Done p) = s

-- where the word after an item stands
abbrev pub following : Option ℕ → Item → ℕ
following place (Link p) = 4096 * p
following None i = 0
following (Some a) i = a + 8

abbrev pub same_bytes : List ℕ → List ℕ → Bool
same_bytes [] [] = true
same_bytes [] (y ∷ ys) = false
same_bytes (x ∷ xs) [] = false
same_bytes (x ∷ xs) (y ∷ ys) = x == y && same_bytes xs ys

-- something is wanted
abbrev pub is_wanted : Option (List ℕ) → Bool
is_wanted None = false
is_wanted (Some b) = true

-- these bytes are what is wanted
abbrev pub are_wanted : Option (List ℕ) → List ℕ → Bool
are_wanted None c = false
are_wanted (Some b) c = same_bytes b c

-- the page is the swap page, where there is one
abbrev pub is_swap : Option ℕ → ℕ → Bool
is_swap None p = false
is_swap (Some s) p = p == s

-- the first reason that holds
abbrev pub first_of : List (Bool × Why) → Option Why
first_of [] = None
first_of (r ∷ rs) = if r.0 then Some r.1 else first_of rs

-- at the head alone: the swap page is the control page
abbrev pub swap_meets_control : ℕ → Option ℕ → Option ℕ → Bool
swap_meets_control control swap None = is_swap swap control
swap_meets_control control swap (Some a) = false

-- there is a swap page: context is preserved
abbrev pub is_kept : Option ℕ → Bool
is_kept None = false
is_kept (Some s) = true

-- the reasons of an item at a place, in their order, after what came earlier
abbrev pub Reasons : Type 0
Reasons = Option ℕ → Earlier → Item → List (Bool × Why)

-- the first reason of a word
abbrev pub why_by : Reasons → Option ℕ → Earlier → Option Item → Option Why
why_by R place s None = Some Flags
why_by R place s (Some i) = first_of (R place s i)

module _ (M : Mem) (R : Reasons) where
  -- from this place on, where word w stands, the first word with a reason is n places on, and this is the reason
  abbrev pub FaultyBy : Option ℕ → Earlier → ℕ → ℕ → Why → Type 0
  FaultyBy place s w zero why = why_by R place s (decode w) ≡ Some why
  FaultyBy place s w (suc n) why =
      (i : Item) × (decode w ≡ Some i) × (why_by R place s (Some i) ≡ None) × ((p : ℕ) → i ≢ Done p)
      × FaultyBy (Some (following place i)) (with_item s i) (word M (following place i)) n why

-- why a word cannot be followed, whatever the list is for
abbrev pub walk_reasons : Reasons
walk_reasons place s (Link p) = (leb (2 ^ 34) p, PastLimit) ∷ (has p s.links, LinkAgain) ∷ []
walk_reasons place s (Destination p) =
    (leb (2 ^ 34) p, PastLimit) ∷ (is_head place, HeadKind) ∷ (in_last_slot place, RunsOff) ∷ []
walk_reasons place s (Source p) =
    (leb (2 ^ 34) p, PastLimit) ∷ (is_head place, HeadKind) ∷ (in_last_slot place, RunsOff) ∷ []
walk_reasons place s (Done p) = []

-- the reasons of a link to page p, once it is below the limit
abbrev pub link_reasons : ℕ → Option ℕ → Option ℕ → Earlier → ℕ → List (Bool × Why)
link_reasons control swap place s p =
    (has p s.links, LinkAgain)
    ∷ (has p (destinations s.pairs) || (is_kept swap && has p (sources s.pairs)), LinkSpoiled)
    ∷ (p == control, ControlTouched)
    ∷ (is_swap swap p || swap_meets_control control swap place, SwapTouched) ∷ []

-- the reasons of the done word, where all is the list of the wanted pages in their order
abbrev pub done_reasons : List ℕ → ℕ → Option ℕ → Option ℕ → Earlier → List (Bool × Why)
done_reasons all control swap place s =
    (swap_meets_control control swap place, SwapTouched)
    ∷ map (λ d. (not (has d (destinations s.pairs)), Missing d)) all

module _ (M : Mem) (W : Wants) (all : List ℕ) (control : ℕ) (swap : Option ℕ) where
  -- the reasons of a source word with page p whose pair's destination is page t
  abbrev pub pair_reasons : Option ℕ → Earlier → ℕ → List (Bool × Why)
  pair_reasons None s p = (true, NoDestination) ∷ []
  pair_reasons (Some t) s p =
      (not (is_wanted (W t)), NotWanted)
      ∷ (has t (destinations s.pairs), TwiceWritten)
      ∷ (has p (destinations s.pairs), SourceSpoiled)
      ∷ (has t s.links || (is_kept swap && has p s.links), LinkSpoiled)
      ∷ (t == control || p == control, ControlTouched)
      ∷ (is_kept swap && (has t (sources s.pairs) || has p (sources s.pairs)), PairsMeet)
      ∷ (is_swap swap t || is_swap swap p, SwapTouched)
      ∷ (not (are_wanted (W t) (M p)), WrongBytes) ∷ []

  -- the reasons that an item may have, in their order
  abbrev pub reasons : Option ℕ → Earlier → Item → List (Bool × Why)
  reasons place s (Link p) = (leb (2 ^ 34) p, PastLimit) ∷ link_reasons control swap place s p
  reasons place s (Destination p) =
      (leb (2 ^ 34) p, PastLimit) ∷ (is_head place, HeadKind) ∷ (in_last_slot place, RunsOff) ∷ []
  reasons place s (Source p) =
      (leb (2 ^ 34) p, PastLimit) ∷ (is_head place, HeadKind) ∷ (in_last_slot place, RunsOff)
      ∷ pair_reasons s.next s p
  reasons place s (Done p) = done_reasons all control swap place s

  abbrev pub Faulty : Option ℕ → Earlier → ℕ → ℕ → Why → Type 0
  Faulty place s w n why = FaultyBy M reasons place s w n why
