use Rattle.memory_map.proofs.Sets.{holds_bytes, meets_bytes, rows_meet_bytes}
use Rattle.memory_map.proofs.tests_speak_of_bytes.Goals as goal

pub returns-clause-holds : goal.returns-clause-holds
returns-clause-holds c = holds_bytes

pub returns-clause-meets : goal.returns-clause-meets
returns-clause-meets c = meets_bytes

pub returns-clause-rows : goal.returns-clause-rows
returns-clause-rows c = rows_meet_bytes
