-- The pool file (this project's own): each line a page number, or the first and the last page of a range, in
-- hexadecimal.
-- No clause of `kexec` reaches what stands here: it serves laws, and contracts inside the crates.
use Rattle.std.specs.Prelude.{ℕ, ◌≡◌, Bool, List, [], Some, None, Result, Ok, Err}
use Rattle.std.specs.BTreeMap as tree
use Rattle.page_pool.specs.Repeats.{first_repeat}
use Rattle.page_pool.specs.inner.Repeats.{IsFirstRepeat}
use Rattle.page_pool.specs.inner.Marks.{AreMarks}
use Rattle.page_pool.specs.declared.fault.PoolFault.{PoolFault}
use Rattle.page_pool.specs.declared.fault.PoolFault.TheVariants as faults

-- a mark for each page, or the first page that stands earlier too, unless memory ran out
abbrev pub MarksOrRepeat : Result (tree.BTreeMap ℕ Bool) PoolFault → List ℕ → Type 0
MarksOrRepeat (Ok m) pages = AreMarks pages m × (first_repeat [] pages ≡ None)
MarksOrRepeat (Err faults.Memory) pages = Unit {0}
MarksOrRepeat (Err (faults.Repeats p)) pages =
    (first_repeat [] pages ≡ Some p) × IsFirstRepeat pages p
MarksOrRepeat (Err e) pages = ⊥

-- where a page is named as one that repeats, it is the first that stands earlier too
abbrev pub RepeatIsFirst : List ℕ → PoolFault → Type 0
RepeatIsFirst pages (faults.Repeats p) = IsFirstRepeat pages p
RepeatIsFirst pages e = Unit {0}
