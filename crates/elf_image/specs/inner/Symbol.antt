-- Symbols whose names stay in their string table (ELF gABI, "Symbol Table", "String Table").
-- No clause of `kexec` reaches what stands here: it serves laws, and contracts inside the crates.
use Rattle.std.specs.Prelude.{◌≡◌, ℕ, ◌-◌, ◌==◌, ◌<◌, ◌≤◌, List, length, drop, get_or}
use Rattle.std.specs.List.{before_first}
use Rattle.elf_image.specs.declared.symbol.Symbol.{Symbol}
use Rattle.elf_image.specs.Sym.{Sym}

-- the bytes up to the first NUL, or all where there is none
abbrev pub up_to_nul : List ℕ → List ℕ
up_to_nul bytes = before_first (λ b. b == 0) bytes

-- the text that starts at this place of a string table
unfoldable pub text_at : List ℕ → ℕ → List ℕ
text_at strings start = up_to_nul (drop start strings)

-- n bytes of a string table end with its last NUL: there are none where it has no NUL
pub record IsToLastNul (strings : List ℕ) (n : ℕ) : Type 0 where
  pub within : n ≤ length strings
  pub last : 0 < n → get_or strings (n - 1) 1 ≡ 0
  pub behind : (k : ℕ) → n ≤ k → k < length strings → get_or strings k 0 ≡ 0 → ⊥

-- a symbol with this name
abbrev pub called : List ℕ → Symbol → Sym
called name s = record { name = name; section = s.section; value = s.value; size = s.size }

-- a symbol with the name that the string table has
abbrev pub named : List ℕ → Symbol → Sym
named strings s = called (text_at strings s.name) s
