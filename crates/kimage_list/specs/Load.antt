-- Which pages a load takes: its entries, the requests for pages that they make, and how the pool serves them. The rules
-- and their order are this project's own; they follow the kernel's kexec core, which keeps a drawn destination page for
-- its own request (kimage_alloc_page).
use Rattle.std.specs.Prelude.{ℕ, zero, suc, ◌%◌, Bool, true, false, not, ◌||◌, List, [], ◌∷◌, ◌++◌, replicate, Option, Some, None, if◌then◌else◌, ◌==◌}
use Rattle.kx_pages.specs.Lists.{has}
use Rattle.kx_pages.specs.Needs.{first_count, link_page_entries}
use Rattle.kx_pages.specs.declared.image.Wish.{Wish}

-- the entries of a list: the destination entry of a segment that starts at this page, and the source entry of this
-- destination page
pub data Entry : Type 0 where
  Start : (page : ℕ) → Entry
  Move : (page : ℕ) → Entry

-- the source entries of n pages, from page p on
abbrev pub page_entries : ℕ → ℕ → List Entry
page_entries p zero = []
page_entries p (suc n) = Move p ∷ page_entries (suc p) n

-- a request is for this destination page, or for none: then it is for the control page, the swap page or a link page
abbrev pub Request : Type 0
Request = Option ℕ

abbrev pub is_for : Request → ℕ → Bool
is_for None q = false
is_for (Some d) q = d == q

abbrev pub own_request : Entry → List Request
own_request (Start p) = []
own_request (Move p) = Some p ∷ []

-- the requests of these entries, of which the first is number n: a link page before the first of each page of entries,
-- and the pages
abbrev pub requests_from : ℕ → List Entry → List Request
requests_from n [] = []
requests_from n (e ∷ es) =
    (if n % link_page_entries == 0 then None ∷ [] else [])
    ++ (own_request e ++ requests_from (suc n) es)

-- the requests of a load, in order
abbrev pub requests : Wish → List Entry → List Request
requests wish es = replicate (first_count wish) None ++ requests_from 0 es

-- where a load stands
pub record Loading : Type 0 where
  pub left : List ℕ  -- usable pool pages not yet drawn
  pub filed : List ℕ  -- drawn destination pages, kept for their own requests
  pub pairs : List (ℕ × ℕ)  -- (destination, source) so far
  pub spare : List ℕ  -- pages taken for no destination so far

abbrev pub begun : List ℕ → Loading
begun pool = record { left = pool; filed = []; pairs = []; spare = [] }

-- the first p taken out
abbrev pub without : ℕ → List ℕ → List ℕ
without p [] = []
without p (x ∷ xs) = if x == p then xs else x ∷ without p xs

-- the source from which page p is loaded
abbrev pub source_of : ℕ → List (ℕ × ℕ) → Option ℕ
source_of p [] = None
source_of p (q ∷ qs) = if q.0 == p then Some q.1 else source_of p qs

-- the pair of destination p becomes (p, p)
abbrev pub at_home : ℕ → List (ℕ × ℕ) → List (ℕ × ℕ)
at_home p [] = []
at_home p (q ∷ qs) = if q.0 == p then (p, p) ∷ qs else q ∷ at_home p qs

-- Draws pages until one serves. D tells the destination pages. A page that was asked for, or that is no destination,
-- is given. Where a destination page is loaded already, its source is given, and it becomes its own source. Any other
-- destination page is filed.
abbrev pub draw : (ℕ → Bool) → Request → List (ℕ × ℕ) → List ℕ → List ℕ → List ℕ
    → Option (ℕ × Loading)
draw D r pairs spare filed [] = None
draw D r pairs spare filed (q ∷ left) =
    elim (is_for r q || not (D q)) [
      | true ↦ Some (q, record { left = left; filed = filed; pairs = pairs; spare = spare })
      | false ↦ elim (source_of q pairs) [
        | Some s ↦
            Some (s, record { left = left; filed = filed; pairs = at_home q pairs; spare = spare })
        | None ↦ draw D r pairs spare (q ∷ filed) left
      ]
    ]

-- the page that a request takes, and where the load stands then: a filed page serves its own request
abbrev pub take_page : (ℕ → Bool) → Request → Loading → Option (ℕ × Loading)
take_page D None l = draw D None l.pairs l.spare l.filed l.left
take_page D (Some d) l =
    elim (has d l.filed) [
      | true ↦ Some (d, record l { filed = without d l.filed })
      | false ↦ draw D (Some d) l.pairs l.spare l.filed l.left
    ]

-- the page that was taken is put to its use
abbrev pub give_page : Request → ℕ × Loading → Loading
give_page None t = record t.1 { spare = t.1.spare ++ t.0 ∷ [] }
give_page (Some d) t = record t.1 { pairs = t.1.pairs ++ (d, t.0) ∷ [] }

-- where these requests, one after another, lead: None where the pool runs out
abbrev pub serve : (ℕ → Bool) → List Request → Loading → Option Loading
serve D [] l = Some l
serve D (r ∷ rs) l = elim (take_page D r l) [ None ↦ None | Some t ↦ serve D rs (give_page r t) ]

-- where a load of these entries stands that began with a pool of these usable pages
abbrev pub loading_after : (ℕ → Bool) → Wish → List Entry → List ℕ → Option Loading
loading_after D wish es pool = serve D (requests wish es) (begun pool)
