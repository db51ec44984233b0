-- Planning the request of a crash kernel, and putting its segments in their place (this project's
-- own).
use Rattle.std.specs.Prelude.{◌≡◌, ℕ, Some, Ok}
use Rattle.page_memory.specs.Contents.{at}
use Rattle.segments.specs.Values.{overlay, want}
use Rattle.list_checker.specs.Crash.{AcceptedCrash}
use Rattle.load_states.specs.States.{CrashLoad}
use Rattle.kexec_plan.specs.Requests.{Plan}
use Rattle.kexec_plan.specs.Plan.{plan}
use Rattle.load_commands.specs.CrashInputs.{CrashInputs}

-- The request has this plan, and each page of its segments is put in its place: memory is as it was
-- at every other page, the head is a done word, and the load is accepted.
pub record IsCrashLoaded (i : CrashInputs) (p : Plan) (load : CrashLoad) : Type 0 where
  pub planned : plan i.request (Some i.map) ≡ Ok p
  pub segments : load.segments ≡ p.segments
  pub memory : (q : ℕ) → at load.memory q ≡ overlay (at i.memory) (want p.segments) q
  pub head : load.head ≡ 4
  pub accepted : AcceptedCrash (at load.memory) (want load.segments) load.head
