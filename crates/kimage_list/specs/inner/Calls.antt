-- What the writer's calls begin with, and what they leave (this project's own).
-- No clause of `kexec` reaches what stands here: it serves laws, and contracts inside the crates.
use Rattle.std.specs.Prelude.{◌≡◌, ℕ, ◌+◌, ◌≤◌, ◌<◌, ◌^◌, List, [], take, drop, false, None, Some}
use Rattle.page_memory.specs.Contents.{at}
use Rattle.kx_pages.specs.Bytes.{Mem}
use Rattle.page_pool.specs.Pages.{is_filed, usable_of}
use Rattle.kx_pages.specs.Lists.{count, sources}
use Rattle.kx_pages.specs.Spans.{Run, AreApart}
use Rattle.kx_pages.specs.declared.image.Wish.{Wish}
use Rattle.kimage_list.specs.declared.written.Written.{Written}
use Rattle.kimage_list.specs.declared.written.BeginFault.{BeginFault}
use Rattle.kimage_list.specs.declared.written.BeginFault.TheVariants.{NoPages, Memory}
use Rattle.kimage_list.specs.declared.open_list.OpenList.{OpenList}
use Rattle.kimage_list.specs.declared.writer.ListWriter.TheInside.{Inside}
use Rattle.kimage_list.specs.Load.{Loading, begun, loading_after}
use Rattle.kimage_list.specs.Laying.{image_of, lay}
use Rattle.kimage_list.specs.inner.Drafts.{Renders}
use Rattle.kimage_list.specs.inner.Counted.{UnderWay}
use Rattle.kimage_list.specs.inner.Writers.{History, Writer, is_wanted, need, pages_in, draft_of}

-- a load that is asked for these pages over a pool of these usable pages, and has no entry yet
abbrev pub load_begun : Mem → List ℕ → List Run → ℕ → Wish → History
load_begun M pool wanted segments wish =
    record {
      before = M;
      pool = pool;
      wanted = wanted;
      segments = segments;
      wish = wish;
      entries = [];
      bytes = λ p. None;
    }

-- why a list is not begun: too few pages exactly where the pool has fewer usable ones than the load takes
abbrev pub Refuses : BeginFault → ℕ → ℕ → Type 0
Refuses (NoPages pool n) left need = (left < need) × (pool ≡ left) × (n ≡ need)
Refuses Memory left need = need ≤ left

-- a writer's fields as its value
abbrev pub writer_of : Inside → Writer
writer_of s =
    record {
      memory = s.list.memory;
      pool = s.list.pool;
      table = s.list.table;
      next = s.list.next;
      entries = s.list.entries;
      head = s.list.head;
      mode = s.mode;
      control = s.control;
      segments_left = s.segments_left;
      destination = s.destination;
    }

-- a load for which all memory is taken, and no page
pub record IsPrepared (h : History) (list : OpenList) (n : ℕ) (asked : Wish) : Type 0 where
  pub nothing : h.entries ≡ []
  pub segments : n ≡ h.segments
  pub wish : asked ≡ h.wish
  pub writes : Renders (draft_of h (begun h.pool) [] []) [] list.memory list.pool list.table
      list.next list.entries
  pub under_way : UnderWay h.pool (pages_in h.wanted) (need h) (draft_of h (begun h.pool) [] [])
  pub apart : AreApart 0 h.wanted
  pub some : 1 ≤ h.segments

-- What a load leaves that was asked for all its pages.
pub record IsWritten (h : History) (w : Written) : Type 0 where
  pub loading : Loading
  pub requests : loading_after (is_wanted h) h.wish h.entries h.pool ≡ Some loading
  -- the head word, the mode and the control page
  pub image : w.image ≡ image_of h.wish loading
  -- the list over the link pages, the bytes given at the sources, and every other page as before
  pub memory : (p : ℕ) → at w.memory p ≡ lay h.before h.bytes h.wish h.entries loading p
  -- of the usable pages those are left that follow the first, as many as the load takes, and these are the pages in use
  pub usable : usable_of w.pool ≡ drop (need h) h.pool
  pub in_use : (x : ℕ)
      → count x loading.spare + count x (sources loading.pairs) ≡ count x (take (need h) h.pool)
  pub unfiled : (p : ℕ) → is_filed w.pool p ≡ false
  -- the usable pages differ, and those in use have numbers below 2 ^ 34
  pub once : (x : ℕ) → count x h.pool ≤ 1
  pub below : (x : ℕ) → 1 ≤ count x (take (need h) h.pool) → x < 2 ^ 34
  -- memory agrees with what it was at every other page
  pub others : (p : ℕ) → count p (take (need h) h.pool) ≡ 0 → at w.memory p ≡ h.before p
