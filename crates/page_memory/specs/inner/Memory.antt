-- Memory as a function, and how it changes. The definitions of lists, loads and runs speak of memory so. This project's
-- own.
-- No clause of `kexec` reaches what stands here: it serves laws, and contracts inside the crates.
use Rattle.std.specs.Prelude.{ℕ, ◌/◌, ◌%◌}
use Rattle.kx_pages.specs.Bytes.{Mem}
use Rattle.page_memory.specs.inner.Contents.{page_with_word}
use Rattle.page_memory.specs.Memory.{put}

-- the memory with this number as the word at this address
abbrev pub set_word : Mem → ℕ → ℕ → Mem
set_word M a v = put M (a / 4096) (page_with_word (M (a / 4096)) (a % 4096) v)

-- the memory after one page was copied to another
abbrev pub copied_page : Mem → ℕ → ℕ → Mem
copied_page M source destination = put M destination (M source)
