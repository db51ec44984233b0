-- What the words after the program's name say, and the first reason to refuse them (this project's own).
-- No clause of `kexec` reaches what stands here: it serves laws, and contracts inside the crates.
use Rattle.std.specs.Prelude.{◌≡◌, Result, Ok, Err}
use Rattle.command_table.specs.declared.faults.UsageWhy.{UsageWhy}
use Rattle.kexec_words.specs.declared.faults.WordsFault.{WordsFault}
use Rattle.kexec_words.specs.declared.faults.WordsFault.TheVariants as fault

-- an answer to words that say this: its value, its reason, or want of memory
abbrev pub Answers : {A B : Type 0} → (B → A) → Result A UsageWhy → Result B WordsFault → Type 0
Answers value said (Ok b) = said ≡ Ok (value b)
Answers value said (Err (fault.Usage w)) = said ≡ Err w
Answers value said (Err fault.Memory) = Unit {0}
