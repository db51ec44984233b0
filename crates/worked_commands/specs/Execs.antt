-- What `exec` makes of the list that moves page 12 to page 2 (this project's own).
use Rattle.std.specs.Prelude.{ℕ, ◌++◌, Bool, List, [], ◌∷◌, None, Result, codes}
use Rattle.file_commands.specs.Taking.{Refusal}
use Rattle.list_commands.specs.Exec.{exec_entry}
use Rattle.list_commands.specs.declared.records.TakenLoad.{TakenLoad}
use Rattle.command_parts.specs.Outputs.{Made}
use Rattle.command_parts.specs.declared.reason.Reason.{Reason}
use Rattle.worked_commands.specs.Memories.{run_file}
use Rattle.worked_commands.specs.Names.{exec_record}

-- what exec m r x makes of a load, with or without --twice
abbrev pub exec_makes : Bool → TakenLoad → Result Made (Refusal Reason) → Type 0
exec_makes twice = (exec_entry (exec_record twice)).command.makes

-- what is said of the list and of its run
abbrev pub ran_text : List ℕ
ran_text =
    codes "accepted words 4 links 1 pairs 1\nhead 11002 control 10000\n"
    ++ codes "start entry 2a00 rax 2badb002 rbx 9500 rsi 90000\nran 4\n"

-- the memory after the run and this text
abbrev pub run_goods : Made
run_goods = record { outputs = (codes "x", run_file) ∷ []; text = ran_text; fault = None }

-- what is said of a crash kernel of one page and of its run
abbrev pub crash_text : List ℕ
crash_text =
    codes "accepted crash pages 1\n"
    ++ codes "start entry 2a00 rax 2badb002 rbx 9500 rsi 90000\nran 1\n"
