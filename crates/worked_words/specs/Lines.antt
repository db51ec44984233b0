-- Command lines as the examples write them (this project's own).
use Rattle.std.specs.Prelude.{ℕ, List, ◌==◌, Result}
use Rattle.std.specs.List.{slice_split}
use Rattle.clap.specs.Words.{Text}
use Rattle.kexec_words.specs.Meaning.{command_of}
use Rattle.kexec_words.specs.Values.{CommandValue}
use Rattle.command_table.specs.declared.faults.UsageWhy.{UsageWhy}

-- the words of a line: what stands between its spaces
abbrev pub words : List ℕ → List Text
words = slice_split (λ c. c == 32)

-- what the words of a line mean
abbrev pub meaning : List ℕ → Result CommandValue UsageWhy
meaning line = command_of (words line)
