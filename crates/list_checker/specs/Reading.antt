-- What walk answers (this project's own).
use Rattle.std.specs.Prelude.{◌≡◌, ℕ, zero, suc, List, [], ◌∷◌, map, Option, Some, None}
use Rattle.kx_pages.specs.declared.item.Item.{Item}
use Rattle.list_checker.specs.declared.fault.ListFault.{ListFault}
use Rattle.kx_pages.specs.Bytes.{Mem}
use Rattle.page_memory.specs.Memory.{word}
use Rattle.kx_pages.specs.Items.{code, decode}
use Rattle.list_checker.specs.Walk.{Walk, links}
use Rattle.kx_pages.specs.Lists.{Distinct}
use Rattle.list_checker.specs.Faults.{nothing_earlier, following, walk_reasons, FaultyBy}

-- the word here and the n words after it
abbrev pub words_from : Mem → Option ℕ → ℕ → ℕ → List ℕ
words_from M place w zero = w ∷ []
words_from M place w (suc n) =
    w ∷ elim (decode w) [
      | None ↦ []
      | Some i ↦ words_from M (Some (following place i)) (word M (following place i)) n
    ]

-- these words are the walk, or they end with the first that cannot be followed
abbrev pub IsWalk : Mem → ℕ → List ℕ → Option ListFault → Type 0
IsWalk M head ws None = (is : List Item) × Walk M head is × Distinct (links is) × (map code is ≡ ws)
IsWalk M head ws (Some f) =
    FaultyBy M walk_reasons None nothing_earlier head f.word f.why
    × (ws ≡ words_from M None head f.word)
    × ((is : List Item) → Walk M head is → Distinct (links is) → ⊥)
