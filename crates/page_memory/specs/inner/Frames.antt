-- A buffer with frames in it, and a table from pages to the places of their frames. This project's own: it is how a
-- memory is kept, and no public clause speaks of it.
-- No clause of `kexec` reaches what stands here: it serves laws, and contracts inside the crates.
use Rattle.std.specs.Prelude.{◌≡◌, ℕ, ◌+◌, ◌-◌, ◌*◌, ◌%◌, ◌<◌, ◌≤◌, ◌^◌, ◌++◌, List, length, take, drop, map, filter, IfSome, Some, if◌then◌else◌}
use Rattle.std.specs.Ordering.{nat_cmp}
use Rattle.std.specs.BTreeMap as tree
use Rattle.std.specs.BTreeMap.{is_at}
use Rattle.std.specs.FinMap as finite
use Rattle.kx_fields.specs.Fields.{AreBytes}
use Rattle.page_memory.specs.Contents.{frame_at}
use Rattle.page_memory.specs.inner.Contents.{page_with_word}
use Rattle.page_memory.specs.File.{is_stored}
use Rattle.page_memory.specs.inner.View.{pages_by}

-- the frame of a buffer that begins at place i
unfoldable pub frame_in : List ℕ → ℕ → List ℕ
frame_in xs i = take 4096 (drop i xs)

-- the buffer with these bytes as the frame at place i
unfoldable pub put_frame : List ℕ → ℕ → List ℕ → List ℕ
put_frame xs i ys = take i xs ++ (ys ++ drop 4096 (drop i xs))

-- the buffer with the number v at a place of the frame at place i
abbrev pub put_word_in : List ℕ → ℕ → ℕ → ℕ → List ℕ
put_word_in xs i place v = put_frame xs i (page_with_word (frame_in xs i) place v)

-- the buffer after two of its frames changed places
abbrev pub trade_frames : List ℕ → ℕ → ℕ → List ℕ
trade_frames xs low high = put_frame (put_frame xs high (frame_in xs low)) low (frame_in xs high)

-- the pages of a table over a buffer
abbrev pub pages_in : List ℕ → tree.BTreeMap ℕ ℕ → finite.FinMap nat_cmp (List ℕ)
pages_in frames table = pages_by (frame_in frames) table.entries

-- behind a head of 16 bytes the buffer is a row of slots, one for each page of the table. A slot is 4,104 bytes: 8, in which
-- a memory file has the page's number, and the page's frame. So the frames of two pages have no byte in common.
pub record IsTable (frames : List ℕ) (table : tree.BTreeMap ℕ ℕ) : Type 0 where
  pub inside : (q : ℕ)
      → IfSome (tree.get nat_cmp table q) (λ i. (q < 2 ^ 34) × (i + 4096 ≤ length frames))
  pub apart : (p q i : ℕ) → tree.get nat_cmp table p ≡ Some i
      → tree.get nat_cmp table q ≡ Some i → p ≡ q
  pub slots : (q i : ℕ) → tree.get nat_cmp table q ≡ Some i → i % 4104 ≡ 24
  pub full : length frames - 16 ≡ 4104 * length table.entries
  pub bytes : AreBytes frames

-- page p became these bytes, where the table is the same before and after
abbrev pub IsSet : List ℕ → List ℕ → tree.BTreeMap ℕ ℕ → ℕ → List ℕ → Type 0
IsSet old new table p bytes = pages_in new table ≡ finite.insert (pages_in old table) p bytes

-- the number v was written at a place of page p
abbrev pub IsWordSet : List ℕ → List ℕ → tree.BTreeMap ℕ ℕ → ℕ → ℕ → ℕ → Type 0
IsWordSet old new table p place v =
    IsSet old new table p (page_with_word (frame_at (pages_in old table) p) place v)

-- page d became what page s reads as
abbrev pub IsCopied : List ℕ → List ℕ → tree.BTreeMap ℕ ℕ → ℕ → ℕ → Type 0
IsCopied old new table d s = IsSet old new table d (frame_at (pages_in old table) s)

-- page p came in, with these bytes
abbrev pub IsAdded : List ℕ → tree.BTreeMap ℕ ℕ → List ℕ → tree.BTreeMap ℕ ℕ → ℕ → List ℕ → Type 0
IsAdded old old_table new new_table p bytes =
    pages_in new new_table ≡ finite.insert (pages_in old old_table) p bytes

abbrev pub HaveSamePages : List ℕ → tree.BTreeMap ℕ ℕ → List ℕ → tree.BTreeMap ℕ ℕ → Type 0
HaveSamePages old old_table new new_table = pages_in new new_table ≡ pages_in old old_table

-- over each buffer, the frames of two pages changed places
abbrev pub AreExchanged : tree.BTreeMap ℕ ℕ → tree.BTreeMap ℕ ℕ → ℕ → ℕ → Type 0
AreExchanged old new d s =
    (xs : List ℕ)
    → pages_in xs new
    ≡ finite.insert (finite.insert (pages_in xs old) s (frame_at (pages_in xs old) d)) d
    (frame_at (pages_in xs old) s)

-- n has v at k, and at each other key what m has
abbrev pub Differs : {X : Type 0} → tree.BTreeMap ℕ X → tree.BTreeMap ℕ X → ℕ → X → Type 0
Differs m n k v =
    (q : ℕ) → tree.get nat_cmp n q ≡ (if is_at (nat_cmp k) q then Some v else tree.get nat_cmp m q)

-- the entries with the bytes of their frames
abbrev pub frame_entries : List ℕ → List (ℕ × ℕ) → List (ℕ × List ℕ)
frame_entries frames es = map {B = ℕ × List ℕ} (λ (e : ℕ × ℕ). (e.0, frame_in frames e.1)) es

-- those that a file has
abbrev pub stored_in : List ℕ → tree.BTreeMap ℕ ℕ → List (ℕ × List ℕ)
stored_in frames m = filter is_stored (frame_entries frames m.entries)

-- these are the entries that a file has
abbrev pub AreStored : List ℕ → tree.BTreeMap ℕ ℕ → List (ℕ × ℕ) → Type 0
AreStored frames table es = frame_entries frames es ≡ stored_in frames table
