-- What `dump` took, as a value of the program, seen as the definitions speak of it (this project's own).
-- No clause of `kexec` reaches what stands here: it serves laws, and contracts inside the crates.
use Rattle.list_commands.specs.declared.dump.DumpInputs.{DumpInputs}
use Rattle.list_commands.specs.declared.records.TakenLoad.{TakenLoad}
use Rattle.list_commands.specs.Records.{load_by}

-- the load that `dump` took
abbrev pub dump_inputs : DumpInputs → TakenLoad
dump_inputs d = load_by d.memory d.load_record
