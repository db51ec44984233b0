-- What is promised of a load, field by field, and loads of the kernel `abc` of which all is so but one (this project's own).
-- Their lists and sources stood in memory before, so that nothing was written.
use Rattle.std.specs.Prelude.{◌≡◌, ℕ, zero, suc, ◌≤◌, List, [], ◌∷◌, length, Ok, Some, replicate}
use Rattle.std.specs.List.{AllByRecursion}
use Rattle.kx_pages.specs.Lists.{Has, count}
use Rattle.kx_pages.specs.Modes.{swap_page}
use Rattle.kx_pages.specs.declared.image.ImageType.TheVariants.{Auto}
use Rattle.kx_pages.specs.declared.image.Wish.{Wish}
use Rattle.kx_pages.specs.Bytes.{page_of}
use Rattle.kx_pages.specs.declared.item.Item.{Item}
use Rattle.kx_pages.specs.declared.item.Item.TheVariants.{Destination, Done, Link, Source}
use Rattle.page_memory.specs.Contents.{Contents, at}
use Rattle.segments.specs.Values.{SegmentValue, need}
use Rattle.kimage_list.specs.Laying.{in_bytes, mode_with}
use Rattle.list_checker.specs.Walk.{links}
use Rattle.load_states.specs.Ready.{Told}
use Rattle.load_states.specs.Runs.{EndsAfter}
use Rattle.load_states.specs.States.{Checked, no_pages, swap_of}
use Rattle.kexec_plan.specs.Plan.{plan}
use Rattle.kexec_plan.specs.Requests.{Asked, Plan}
use Rattle.load_commands.specs.Inputs.{LoadInputs}
use Rattle.load_commands.specs.NormalLoad.{NormalLoad, drawn_pages}
use Rattle.worked_commands.specs.Inputs.{few_asked, few_read, three_bytes}
use Rattle.worked_commands.specs.Kept.{exchange_memory}
use Rattle.worked_commands.specs.Loads.{few_plan}
use Rattle.worked_commands.specs.Memories.{abc_page, loaded, memory_with}
use Rattle.worked_commands.specs.Texts.{kept_image, plain_image}

-- the fields of a NormalLoad whose list is these items, in their order
abbrev pub fields_of : Wish → LoadInputs → Plan → Checked → List Item → List (Type 0)
fields_of wish i p c items =
    (plan i.request i.map ≡ Ok p)
    ∷ (need wish p.segments ≤ length i.usable)
    ∷ (c.load.segments ≡ p.segments)
    ∷ (c.load.image.mode ≡ mode_with wish (swap_of c.load))
    ∷ ((q : ℕ) → count q (drawn_pages wish i p) ≡ 0 → at c.load.memory q ≡ at i.memory q)
    ∷ Told c.load c.words c.links c.pairs
    ∷ EndsAfter c.load c.words
    ∷ Has c.load.image.control (drawn_pages wish i p)
    ∷ ((swap : ℕ) → swap_page c.load.image.mode ≡ Some swap → Has swap (drawn_pages wish i p))
    ∷ AllByRecursion (λ l. Has l (drawn_pages wish i p)) (links items)
    ∷ AllByRecursion (λ q. Has q.1 (drawn_pages wish i p)) c.pairs ∷ []

-- all of these hold; all but number n
abbrev pub Each : List (Type 0) → Type 0
Each [] = Unit {0}
Each (x ∷ xs) = x × Each xs

abbrev pub EachBut : ℕ → List (Type 0) → Type 0
EachBut n [] = Unit {0}
EachBut zero (x ∷ xs) = Each xs
EachBut (suc n) (x ∷ xs) = x × EachBut n xs

-- All fields but number n hold of this load, and it is none. So that field is needed.
abbrev pub IsNeeded : ℕ → Wish → LoadInputs → Checked → List Item → Type 0
IsNeeded n wish i c items =
    EachBut n (fields_of wish i few_plan c items) × (NormalLoad wish i few_plan c → ⊥)

-- the list that moves page 12 to page 2, and the memory that has it, before and after
abbrev pub found : Checked
found = record {
  load = record { memory = loaded; pool = no_pages; image = plain_image; segments = three_bytes };
  words = 4;
  links = 1;
  pairs = (2, 0x12) ∷ [];
}

abbrev pub found_with : List ℕ → LoadInputs
found_with usable = record few_read { memory = loaded; usable = usable }

-- the same with context preserved, by way of the swap page 11
abbrev pub found_kept : Checked
found_kept = record {
  load = record {
    memory = exchange_memory;
    pool = no_pages;
    image = kept_image;
    segments = three_bytes;
  };
  words = 4;
  links = 1;
  pairs = (2, 0x13) ∷ [];
}

abbrev pub kept_with : List ℕ → LoadInputs
kept_with usable = record few_read { memory = exchange_memory; usable = usable }

-- the request leaves the kernel's type to its file, which does not tell it
abbrev pub found_without_plan : LoadInputs
found_without_plan =
    record (found_with (0x10 ∷ 0x11 ∷ 0x12 ∷ [])) { request = record few_asked { image = Auto } }

-- a memory with another page, which is lost
abbrev pub with_a_page : Contents
with_a_page = memory_with ((0x40, abc_page) ∷ [])

-- two link pages are told in place of one
abbrev pub told_wrongly : Checked
told_wrongly = record found { links = 2 }

-- a kernel of two pages of zeros, and its plan
abbrev pub zeros_asked : Asked
zeros_asked = record few_asked { kernel = replicate 8192 0 }

abbrev pub zeros_parts : List SegmentValue
zeros_parts = record { bytes = replicate 8192 0; mem = 0x2000; memsz = 0x2000 } ∷ []

abbrev pub zeros_plan : Plan
zeros_plan = record few_plan { segments = zeros_parts }

-- a list that takes both from one page, and the memory that has it
abbrev pub zeros_move : List Item
zeros_move = Link 0x11 ∷ Destination 2 ∷ Source 0x12 ∷ Source 0x12 ∷ Done 0 ∷ []

abbrev pub zeros_list : List ℕ
zeros_list = page_of (in_bytes (0x2001 ∷ 0x12008 ∷ 0x12008 ∷ 4 ∷ []))

abbrev pub zeros_memory : Contents
zeros_memory = memory_with ((0x11, zeros_list) ∷ [])

abbrev pub zeros_found : Checked
zeros_found = record {
  load = record {
    memory = zeros_memory;
    pool = no_pages;
    image = plain_image;
    segments = zeros_parts;
  };
  words = 5;
  links = 1;
  pairs = (2, 0x12) ∷ (3, 0x12) ∷ [];
}

-- a pool of three pages, of which the load would take four
abbrev pub zeros_with : LoadInputs
zeros_with = record few_read { memory = zeros_memory; request = zeros_asked }

-- the same of a load by this plan
abbrev pub IsNeededBy : Plan → ℕ → Wish → LoadInputs → Checked → List Item → Type 0
IsNeededBy p n wish i c items =
    EachBut n (fields_of wish i p c items) × (NormalLoad wish i p c → ⊥)
