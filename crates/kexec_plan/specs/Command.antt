-- The command of a kernel, and what it tells a crash kernel (Linux, Documentation/admin-guide/kdump).
use Rattle.std.specs.Prelude.{ℕ, ◌/◌, ◌++◌, codes, decimal, List, [], ◌∷◌, Option, unwrap_or}

-- without a command the empty one is used
abbrev pub command_of : Option (List ℕ) → List ℕ
command_of command = unwrap_or command []

-- a command before another word: a space behind it, where it is not empty
abbrev pub with_space : List ℕ → List ℕ
with_space [] = []
with_space (c ∷ cs) = (c ∷ cs) ++ 32 ∷ []

-- the word that tells a crash kernel where its headers lie, in KiB
abbrev pub headers_word : ℕ → List ℕ
headers_word at = codes "elfcorehdr=" ++ (decimal (at / 1024) ++ codes "K")

-- the command, which tells where the crash headers lie
abbrev pub told_command : List ℕ → ℕ → List ℕ
told_command command at = with_space command ++ headers_word at
