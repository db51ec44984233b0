-- One step of the machine that runs a list: the words and the order of their flags are those of `relocate_kernel` of the
-- Linux kernel (arch/x86/kernel/relocate_kernel_64.S); the moves and the limit of addresses are this project's own.
use Rattle.std.specs.Prelude.{ℕ, ◌+◌, ◌-◌, ◌/◌, ◌%◌, ◌^◌, Bool, true, false, Option, Some, None, Result, Ok, Err, nat_le, ◌==◌, if◌then◌else◌, bit_and}
use Rattle.kx_pages.specs.declared.image.Mode.{Mode}
use Rattle.kx_pages.specs.declared.image.Mode.TheVariants.{Plain, Kept}
use Rattle.page_memory.specs.Contents.{Contents, at, copy_page, swap_pages}
use Rattle.page_memory.specs.Memory.{word}
use Rattle.relocate_machine.specs.declared.word.WordKind.{WordKind}
use Rattle.relocate_machine.specs.declared.word.WordKind.TheVariants as kinds
use Rattle.relocate_machine.specs.declared.step.Step.{Step}
use Rattle.relocate_machine.specs.declared.step.Step.TheVariants as steps

-- What the machine keeps: the head word while it is still to be handled, the cursor, the destination, whether the run
-- has ended, and the mode.
pub record Registers : Type 0 where
  pub first : Option ℕ
  pub cursor : ℕ
  pub destination : ℕ
  pub ended : Bool
  pub mode : Mode

-- the machine and the memory that it acts on
pub record State : Type 0 where
  pub machine : Registers
  pub memory : Contents

-- the word's address: its low twelve bits cleared
abbrev pub word_address : ℕ → ℕ
word_address w = w - w % 4096

-- the first flag found, in this order
unfoldable pub kind_of : ℕ → WordKind
kind_of w =
    if bit_and w 1 == 1 then kinds.Destination
    else if bit_and w 2 == 2 then kinds.Link
    else if bit_and w 4 == 4 then kinds.Done
    else if bit_and w 8 == 8 then kinds.Source
    else kinds.Nothing

-- the word to handle, or the address at which there is none
abbrev pub next_word : Option ℕ → ℕ → Contents → Result ℕ ℕ
next_word (Some w) cursor m = Ok w
next_word None cursor m = if nat_le (2 ^ 46) cursor then Err cursor else Ok (word (at m) cursor)

-- the registers once this word was fetched
abbrev pub past_word : Option ℕ → Registers → Registers
past_word (Some w) r = record r { first = None }
past_word None r = record r { cursor = r.cursor + 8 }

-- a move of page s to page d: plain a copy, kept three copies by way of the swap page w
abbrev pub after_move : Mode → Contents → ℕ → ℕ → Contents
after_move Plain m d s = copy_page m d s
after_move (Kept w) m d s = swap_pages m d s w

-- handling a word: s is the state, r the registers once the word was fetched, a the word's address
abbrev pub after_word : State → Registers → WordKind → ℕ → State × Step
after_word s r kinds.Destination a =
    (record { machine = record r { destination = a }; memory = s.memory }, steps.Went)
after_word s r kinds.Link a =
    (record { machine = record r { cursor = a }; memory = s.memory }, steps.Went)
after_word s r kinds.Done a =
    (record { machine = record r { ended = true }; memory = s.memory }, steps.Ended)
after_word s r kinds.Source a =
    if nat_le (2 ^ 46) a then (s, steps.Off a)
    else if nat_le (2 ^ 46) s.machine.destination then (s, steps.Off s.machine.destination)
    else (
      record {
        machine = record r { destination = s.machine.destination + 4096 };
        memory = after_move s.machine.mode s.memory (s.machine.destination / 4096) (a / 4096);
      },
      steps.Went,
    )
after_word s r kinds.Nothing a = (record { machine = r; memory = s.memory }, steps.Went)

abbrev pub step_by : State → Result ℕ ℕ → State × Step
step_by s (Err a) = (s, steps.Off a)
step_by s (Ok w) = after_word s (past_word s.machine.first s.machine) (kind_of w) (word_address w)

-- one step of the machine
unfoldable pub step_of : State → State × Step
step_of s = step_by s (next_word s.machine.first s.machine.cursor s.memory)

-- the registers before the first step
abbrev pub start_of : ℕ → Mode → Registers
start_of head mode =
    record { first = Some head; cursor = 0; destination = 0; ended = false; mode = mode }

-- the machine before its first step, over this memory
abbrev pub start_at : Contents → ℕ → Mode → State
start_at memory head mode = record { machine = start_of head mode; memory = memory }
