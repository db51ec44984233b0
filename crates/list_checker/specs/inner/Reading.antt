-- What walk answers (this project's own).
-- No clause of `kexec` reaches what stands here: it serves laws, and contracts inside the crates.
use Rattle.std.specs.Prelude.{◌≡◌, ℕ, length, Option, Some, None, Result, Ok, Err, false}
use Rattle.std.specs.Ordering.{nat_cmp}
use Rattle.std.specs.BTreeSet.{BTreeSet, contains, btree_set_len}
use Rattle.kx_pages.specs.declared.item.Item.{Item}
use Rattle.kx_pages.specs.declared.item.Item.TheVariants.{Link, Destination, Source, Done}
use Rattle.list_checker.specs.declared.fault.Why.{Why}
use Rattle.kx_pages.specs.Items.{decode}
use Rattle.kx_pages.specs.Lists.{has}
use Rattle.list_checker.specs.Faults.{Earlier, why_by, walk_reasons}

-- the set has the links that came earlier
pub record ShowsLinks (c : BTreeSet ℕ) (s : Earlier) : Type 0 where
  pub links : (p : ℕ) → contains nat_cmp c p ≡ has p s.links
  pub count : btree_set_len c ≡ length s.links

abbrev pub IsFollowed : Option ℕ → Earlier → ℕ → Result Item Why → Type 0
IsFollowed place s w (Ok i) = (decode w ≡ Some i) × (why_by walk_reasons place s (Some i) ≡ None)
IsFollowed place s w (Err why) = why_by walk_reasons place s (decode w) ≡ Some why

abbrev pub FitsLinks : Earlier → Item → Type 0
FitsLinks s (Link p) = has p s.links ≡ false
FitsLinks s (Destination p) = Unit {0}
FitsLinks s (Source p) = Unit {0}
FitsLinks s (Done p) = Unit {0}
