-- Loads for which the pool has too few pages, and how many they use (this project's own).
-- No clause of `kexec` reaches what stands here: it serves laws, and contracts inside the crates.
use Rattle.std.specs.Prelude.{◌≡◌, ℕ, ◌<◌, List, [], ◌∷◌, ◌++◌, length, Option, Some, None, Ok, ◌↔◌}
use Rattle.std.specs.List.{AllByRecursion}
use Rattle.kx_pages.specs.Lists.{Distinct, Has, sources}
use Rattle.kx_pages.specs.Modes.{swap_page}
use Rattle.kx_pages.specs.declared.image.Image.{Image}
use Rattle.kx_pages.specs.declared.image.Wish.{Wish}
use Rattle.kx_pages.specs.declared.item.Item.{Item}
use Rattle.page_memory.specs.Contents.{at}
use Rattle.segments.specs.Values.{need}
use Rattle.list_checker.specs.Walk.{links}
use Rattle.load_states.specs.Fillings.{IsSealed}
use Rattle.load_states.specs.Ready.{Told}
use Rattle.load_states.specs.States.{Checked, Load}
use Rattle.kexec_plan.specs.Requests.{Plan}
use Rattle.kexec_plan.specs.Plan.{plan}
use Rattle.load_commands.specs.Inputs.{LoadInputs, load_inputs}
use Rattle.kx_edge.specs.Edge.{Files}
use Rattle.file_commands.specs.Taking.{by, reads}
use Rattle.kexec_words.specs.Values.{BootValue, CommandValue, LoadValue}
use Rattle.command_parts.specs.declared.reason.Reason.TheVariants.{NoPages}
use Rattle.kexec_main.specs.Call.{HasRefusal}
use Rattle.load_commands.specs.Load.{load_wish}
use Rattle.load_commands.specs.Loading.{IsLoaded}
use Rattle.command_parts.specs.Runs.{wish_of}
use Rattle.kexec_words.specs.Values as words

-- The request has a plan, whose load takes more pages than the pool has usable: so many, and so many.
abbrev pub LacksPages : Wish → LoadInputs → (pool need : ℕ) → Type 0
LacksPages wish i pool n =
    (p : Plan) × (plan i.request i.map ≡ Ok p) × (pool ≡ length i.usable)
    × (n ≡ need wish p.segments) × (pool < n)

-- a command is refused for pages, with both numbers
abbrev pub IsRefusedForPages : CommandValue → Files → (pool need : ℕ) → Type 0
IsRefusedForPages c held pool n = HasRefusal c held (by (NoPages pool n))

-- the files are read, and the load of what they are takes more pages than the pool has usable: so many, and so many
abbrev pub BootLacksPages : BootValue → Files → (pool need : ℕ) → Type 0
BootLacksPages b held pool n =
    (i : LoadInputs) × (reads (load_inputs b.image b.inputs) held ≡ Ok i)
    × LacksPages (wish_of b.kept) i pool n

abbrev pub LoadLacksPages : LoadValue → Files → (pool need : ℕ) → Type 0
LoadLacksPages l held pool n =
    (i : LoadInputs) × (reads (load_inputs l.image l.inputs) held ≡ Ok i)
    × LacksPages (load_wish l) i pool n

-- `boot` and `load` are refused for pages exactly where the pool has too few
abbrev pub BootRefusesForPages : Type 0
BootRefusesForPages =
    (b : BootValue) (held : Files) (pool need : ℕ)
    → IsRefusedForPages (words.boot b) held pool need ↔ BootLacksPages b held pool need

abbrev pub LoadRefusesForPages : Type 0
LoadRefusesForPages =
    (l : LoadValue) (held : Files) (pool need : ℕ)
    → IsRefusedForPages (words.load l) held pool need ↔ LoadLacksPages l held pool need

-- the pages that a load uses: its control page, with context preserved its swap page, the pages of its list, and those from
-- which the segments' bytes are copied
abbrev pub swap_pages : Option ℕ → List ℕ
swap_pages None = []
swap_pages (Some swap) = swap ∷ []

abbrev pub pages_used : Image → List Item → List (ℕ × ℕ) → List ℕ
pages_used image items qs =
    image.control ∷ (swap_pages (swap_page image.mode) ++ (links items ++ sources qs))

-- By the rules of taking pages each of these is a usable page of its own, and they are as many as the load takes.
abbrev pub UsesEachPageOnce : Type 0
UsesEachPageOnce =
    (wish : Wish) (i : LoadInputs) (p : Plan) (c : Checked) → IsLoaded wish i p c.load
    → (t : Told c.load c.words c.links c.pairs)
    → Distinct (pages_used c.load.image t.items c.pairs)
    × (length (pages_used c.load.image t.items c.pairs) ≡ need wish p.segments)
    × AllByRecursion (λ q. Has q i.usable) (pages_used c.load.image t.items c.pairs)

-- So no load by these rules comes to its end over fewer.
abbrev pub NoLoadOverFewer : Type 0
NoLoadOverFewer =
    (wish : Wish) (i : LoadInputs) (p : Plan) (load : Load) → plan i.request i.map ≡ Ok p
    → length i.usable < need wish p.segments
    → IsSealed (at i.memory) i.usable wish p.segments load → ⊥
