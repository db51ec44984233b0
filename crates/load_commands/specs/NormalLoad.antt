-- What is promised of the load of a kernel, and when it is refused (this project's own).
use Rattle.std.specs.Prelude.{◌≡◌, ◌⊎◌, ℕ, ◌≤◌, List, length, take, Ok, Some}
use Rattle.std.specs.List.{AllByRecursion}
use Rattle.kx_pages.specs.Bytes.{Mem}
use Rattle.kx_pages.specs.Lists.{Has, count}
use Rattle.kx_pages.specs.Modes.{swap_page}
use Rattle.kx_pages.specs.declared.image.Wish.{Wish}
use Rattle.page_memory.specs.Contents.{at}
use Rattle.segments.specs.Values.{need}
use Rattle.kimage_list.specs.Laying.{mode_with}
use Rattle.list_checker.specs.Walk.{links}
use Rattle.load_states.specs.States.{Checked, swap_of}
use Rattle.load_states.specs.Ready.{Told}
use Rattle.load_states.specs.Fillings.{IsSealed}
use Rattle.load_states.specs.Runs.{EndsAfter}
use Rattle.kexec_plan.specs.Requests.{Plan}
use Rattle.kexec_plan.specs.Plan.{plan}
use Rattle.load_commands.specs.Inputs.{LoadInputs}
use Rattle.load_commands.specs.Loading.{IsLoaded, RefusesLoad}
use Rattle.command_parts.specs.declared.reason.Reason.{Reason}
use Rattle.command_parts.specs.Outputs.{HasNoFile, IsTooHeavy}

-- the pages that a load of the plan draws: the first usable ones of the pool, as many as it takes
abbrev pub drawn_pages : Wish → LoadInputs → Plan → List ℕ
drawn_pages wish i p = take (need wish p.segments) i.usable

-- A kernel was loaded, whatever memory held.
pub record NormalLoad (wish : Wish) (i : LoadInputs) (p : Plan) (c : Checked) : Type 0 where
  -- the request has this plan
  pub planned : plan i.request i.map ≡ Ok p
  -- the pool has as many usable pages as the load takes
  pub enough : need wish p.segments ≤ length i.usable
  -- what is loaded are the plan's segments, in the mode that is asked for
  pub segments : c.load.segments ≡ p.segments
  pub mode : c.load.image.mode ≡ mode_with wish (swap_of c.load)
  -- memory is as it was at every page but those that were drawn
  pub only_pool_pages : (q : ℕ) → count q (drawn_pages wish i p) ≡ 0
      → at c.load.memory q ≡ at i.memory q
  -- the list is accepted for the segments, by a walk of so many words with so many link pages and these pairs
  pub accepted : Told c.load c.words c.links c.pairs
  -- and its run ends within its entries: the machine is done after as many steps as the walk has words
  pub ends : EndsAfter c.load c.words
  -- All that the run needs or writes besides the segments' own pages was drawn: the control page, with context preserved
  -- the swap page, the pages of the list, and those from which the segments' bytes are copied.
  pub control_is_drawn : Has c.load.image.control (drawn_pages wish i p)
  pub swap_is_drawn : (swap : ℕ) → swap_page c.load.image.mode ≡ Some swap
      → Has swap (drawn_pages wish i p)
  pub list_is_drawn : AllByRecursion (λ l. Has l (drawn_pages wish i p)) (links accepted.items)
  pub sources_are_drawn : AllByRecursion (λ q. Has q.1 (drawn_pages wish i p)) c.pairs

-- its list, control page and sources are those that the rules of taking pages and laying a list give
abbrev pub IsLaid : Wish → LoadInputs → Plan → Checked → Type 0
IsLaid wish i p c = IsSealed (at i.memory) i.usable wish p.segments c.load

-- the kernel is loaded by this plan, and so much is told of its accepted list
abbrev pub IsToldLoad : Wish → LoadInputs → Plan → Checked → Type 0
IsToldLoad wish i p c = IsLoaded wish i p c.load × Told c.load c.words c.links c.pairs

-- the plan or the load refuses, or the memory that it leaves has no file
abbrev pub CannotLoad : Wish → LoadInputs → (leaves : Checked → Mem) → Reason → Type 0
CannotLoad wish i leaves why =
    RefusesLoad wish i why
    ⊎ ((p : Plan) × (c : Checked) × IsToldLoad wish i p c × HasNoFile (leaves c) why)

-- Nothing refuses the load of what was taken: the request has a plan, the pool has as many usable pages as the load
-- takes, and each memory that it may leave, by what is told of its accepted list, has a file.
pub record CanLoad (wish : Wish) (i : LoadInputs) (leaves : Checked → Mem) : Type 0 where
  pub p : Plan
  pub planned : plan i.request i.map ≡ Ok p
  pub enough : need wish p.segments ≤ length i.usable
  pub light : (c : Checked) (n : ℕ) → IsLoaded wish i p c.load
      → Told c.load c.words c.links c.pairs → IsTooHeavy (leaves c) n → ⊥
