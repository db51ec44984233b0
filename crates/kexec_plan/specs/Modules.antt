-- What belongs to a Multiboot kernel, as contracts see it.
use Rattle.std.specs.Prelude.{ℕ, List}

-- a module of a Multiboot kernel: its bytes, and the text that the kernel gets with it
pub record AskedModule : Type 0 where
  pub bytes : List ℕ
  pub text : List ℕ
