-- Lists without a fault, word by word, and the first reason of a word (this project's own).
-- No clause of `kexec` reaches what stands here: it serves laws, and contracts inside the crates.
use Rattle.std.specs.Prelude.{◌≡◌, ◌≢◌, ℕ, zero, suc, List, Option, Some, None}
use Rattle.kx_pages.specs.declared.item.Item.{Item}
use Rattle.kx_pages.specs.declared.item.Item.TheVariants.{Done}
use Rattle.kx_pages.specs.Items.{decode}
use Rattle.kx_pages.specs.Bytes.{Mem, Wants}
use Rattle.page_memory.specs.Memory.{word}
use Rattle.list_checker.specs.declared.fault.Why.{Why}
use Rattle.list_checker.specs.Faults.{Reasons, Earlier, with_item, following, why_by, reasons}

module _ (M : Mem) (R : Reasons) where
  -- no word has a reason, and before the done word, n places on, this came
  abbrev pub FaultlessBy : Option ℕ → Earlier → ℕ → ℕ → Earlier → Type 0
  FaultlessBy place s w zero last =
      (p : ℕ) × (decode w ≡ Some (Done p)) × (why_by R place s (Some (Done p)) ≡ None) × (s ≡ last)
  FaultlessBy place s w (suc n) last =
      (i : Item) × (decode w ≡ Some i) × (why_by R place s (Some i) ≡ None) × ((p : ℕ) → i ≢ Done p)
      × FaultlessBy (Some (following place i)) (with_item s i) (word M (following place i)) n last

module _ (M : Mem) (W : Wants) (all : List ℕ) (control : ℕ) (swap : Option ℕ) where
  -- the first reason of a word of a list for these wants
  abbrev pub reason : Option ℕ → Earlier → Option Item → Option Why
  reason place s i = why_by (reasons M W all control swap) place s i

  -- no word of the list has a reason
  abbrev pub Faultless : Option ℕ → Earlier → ℕ → ℕ → Earlier → Type 0
  Faultless place s w n last = FaultlessBy M (reasons M W all control swap) place s w n last
