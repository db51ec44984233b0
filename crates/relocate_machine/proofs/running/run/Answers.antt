use Rattle.std.proofs.Common.{◌≡◌, ◌-◌, ◌+◌, suc, ap, sym, ◌∙◌, subst, arith, refl}
use Rattle.relocate_machine.specs.declared.step.Outcome.TheVariants.{Running}
use Rattle.relocate_machine.specs.Machine.{State, start_at}
use Rattle.relocate_machine.specs.inner.Writes.{AreHeld, IsHeldFor, IsWritten, writes_of}
use Rattle.relocate_machine.specs.Run.{run_from}
use Rattle.relocate_machine.proofs.Held.{writes_of-word}
use Rattle.relocate_machine.proofs.More.{ends_after, goes_after}
use Rattle.relocate_machine.proofs.Pages.{holds_written}
use Rattle.relocate_machine.proofs.ReadSteps.{goes-runs, if_some-more, runs_on}
use Rattle.relocate_machine.proofs.Runs.{step_of-runs}
use Rattle.relocate_machine.proofs.Same.{next_word-same, step_of-same, writes_of-same}
use Rattle.relocate_machine.proofs.Stays.{run_from-stays, stays_as, stays_step, stays_then}
use Rattle.relocate_machine.proofs.running.run.Goals as goal
use Rattle.kx_laws.proofs.Results.{on_err}

pub loop-k-init : goal.loop-k-init
unfolding run_from
loop-k-init c = rw c.start-machine.ensures (record { within = omega arith; held_swap = tt; running = refl; so_far = refl })

pub take-requires-clause-running : goal.take-requires-clause-running
take-requires-clause-running c = goes-runs c.read_words-steps.result.steps _ _ c.read_words-steps.ensures.run ∙ c.loop-k.invariant.running

pub take-requires-clause-word : goal.take-requires-clause-word
take-requires-clause-word c =
    c.read_words-steps.ensures.word
    ∙ sym (next_word-same c.read_words-steps.new.self.first c.read_words-steps.new.self.cursor c.loop-k.memory c.hold_all.new.memory c.hold_all.ensures.same.reads)

pub take-requires-clause-held : goal.take-requires-clause-held
take-requires-clause-held c =
    let t : State = record { machine = c.read_words-steps.new.self; memory = c.loop-k.memory } in
    let written = c.writes_by-writes.ensures ∙ writes_of-word t c.read_words-steps.result.word c.read_words-steps.ensures.word in
    subst (AreHeld c.hold_all.new.memory)
    (written ∙ sym (writes_of-same c.read_words-steps.new.self c.loop-k.memory c.hold_all.new.memory c.hold_all.ensures.same.reads))
    c.in_ok-hold_all.ensures.held

pub loop-k-preserved : goal.loop-k-preserved
loop-k-preserved c =
    let s0 : State = start_at c.args.memory.now c.args.head c.args.mode in
    let s : State = record { machine = c.loop-k.machine; memory = c.loop-k.memory } in
    let t : State = record { machine = c.read_words-steps.new.self; memory = c.loop-k.memory } in
    let n = c.read_words-steps.result.steps in
    let so_far : run_from (c.loop-k.k + n) 0 s0 ≡ (t, Running (c.loop-k.k + n)) = runs_on c.loop-k.k n s0 s t c.loop-k.invariant.so_far c.read_words-steps.ensures.run in
    let written = c.writes_by-writes.ensures ∙ writes_of-word t c.read_words-steps.result.word c.read_words-steps.ensures.word in
    let held : IsHeldFor (IsWritten (writes_of t)) c.loop-k.memory c.hold_all.new.memory = subst (λ w. IsHeldFor (IsWritten w) c.loop-k.memory c.hold_all.new.memory) written c.hold_all.ensures.same in
    let is = c.in-Went.ensures.exact ∙ step_of-same c.read_words-steps.new.self c.loop-k.memory c.hold_all.new.memory held in
    let runs = goes-runs n s t c.read_words-steps.ensures.run ∙ c.loop-k.invariant.running in
    let still_held = if_some-more c.writes_by-writes.result.swap c.in_ok-hold_all.ensures.held.2 (λ p is h. (stays_step _ _ _ c.in-Went.ensures.exact).held p h) in
    record { within = omega arith; held_swap = still_held; running = step_of-runs _ _ is ∙ runs; so_far = goes_after (c.loop-k.k + n) s0 t _ so_far is }

pub returns-in-Ended-clause-memory : goal.returns-in-Ended-clause-memory
returns-in-Ended-clause-memory c =
    let s0 : State = start_at c.args.memory.now c.args.head c.args.mode in
    let s : State = record { machine = c.loop-k.machine; memory = c.loop-k.memory } in
    let t : State = record { machine = c.read_words-steps.new.self; memory = c.loop-k.memory } in
    let n = c.read_words-steps.result.steps in
    let so_far : run_from (c.loop-k.k + n) 0 s0 ≡ (t, Running (c.loop-k.k + n)) = runs_on c.loop-k.k n s0 s t c.loop-k.invariant.so_far c.read_words-steps.ensures.run in
    let written = c.writes_by-writes.ensures ∙ writes_of-word t c.read_words-steps.result.word c.read_words-steps.ensures.word in
    let held : IsHeldFor (IsWritten (writes_of t)) c.loop-k.memory c.hold_all.new.memory = subst (λ w. IsHeldFor (IsWritten w) c.loop-k.memory c.hold_all.new.memory) written c.hold_all.ensures.same in
    let is = c.in-Ended.ensures.exact ∙ step_of-same c.read_words-steps.new.self c.loop-k.memory c.hold_all.new.memory held in
    let more : c.args.limit ≡ c.loop-k.k + n + suc (c.args.limit - (c.loop-k.k + n + 1)) = omega arith in
    sym (ap (λ r. r.0.memory) (ends_after c.args.limit (c.loop-k.k + n) _ 0 s0 t more so_far _ is))

pub returns-in-Ended-clause-outcome : goal.returns-in-Ended-clause-outcome
returns-in-Ended-clause-outcome c =
    let s0 : State = start_at c.args.memory.now c.args.head c.args.mode in
    let s : State = record { machine = c.loop-k.machine; memory = c.loop-k.memory } in
    let t : State = record { machine = c.read_words-steps.new.self; memory = c.loop-k.memory } in
    let n = c.read_words-steps.result.steps in
    let so_far : run_from (c.loop-k.k + n) 0 s0 ≡ (t, Running (c.loop-k.k + n)) = runs_on c.loop-k.k n s0 s t c.loop-k.invariant.so_far c.read_words-steps.ensures.run in
    let written = c.writes_by-writes.ensures ∙ writes_of-word t c.read_words-steps.result.word c.read_words-steps.ensures.word in
    let held : IsHeldFor (IsWritten (writes_of t)) c.loop-k.memory c.hold_all.new.memory = subst (λ w. IsHeldFor (IsWritten w) c.loop-k.memory c.hold_all.new.memory) written c.hold_all.ensures.same in
    let is = c.in-Ended.ensures.exact ∙ step_of-same c.read_words-steps.new.self c.loop-k.memory c.hold_all.new.memory held in
    let more : c.args.limit ≡ c.loop-k.k + n + suc (c.args.limit - (c.loop-k.k + n + 1)) = omega arith in
    sym (ap (λ r. r.1) (ends_after c.args.limit (c.loop-k.k + n) _ 0 s0 t more so_far _ is))

pub returns-in-Ended-clause-held : goal.returns-in-Ended-clause-held
returns-in-Ended-clause-held c = holds_written c.args.limit (start_at c.args.memory.now c.args.head c.args.mode) _ (returns-in-Ended-clause-memory c)

pub returns-in-Ended-clause-stays : goal.returns-in-Ended-clause-stays
returns-in-Ended-clause-stays c = stays_as _ _ _ (returns-in-Ended-clause-memory c) (run_from-stays c.args.limit 0 (start_at c.args.memory.now c.args.head c.args.mode))

pub returns-in-Off-clause-memory : goal.returns-in-Off-clause-memory
returns-in-Off-clause-memory c =
    let s0 : State = start_at c.args.memory.now c.args.head c.args.mode in
    let s : State = record { machine = c.loop-k.machine; memory = c.loop-k.memory } in
    let t : State = record { machine = c.read_words-steps.new.self; memory = c.loop-k.memory } in
    let n = c.read_words-steps.result.steps in
    let so_far : run_from (c.loop-k.k + n) 0 s0 ≡ (t, Running (c.loop-k.k + n)) = runs_on c.loop-k.k n s0 s t c.loop-k.invariant.so_far c.read_words-steps.ensures.run in
    let written = c.writes_by-writes.ensures ∙ writes_of-word t c.read_words-steps.result.word c.read_words-steps.ensures.word in
    let held : IsHeldFor (IsWritten (writes_of t)) c.loop-k.memory c.hold_all.new.memory = subst (λ w. IsHeldFor (IsWritten w) c.loop-k.memory c.hold_all.new.memory) written c.hold_all.ensures.same in
    let is = c.in-Off.ensures.exact ∙ step_of-same c.read_words-steps.new.self c.loop-k.memory c.hold_all.new.memory held in
    let more : c.args.limit ≡ c.loop-k.k + n + suc (c.args.limit - (c.loop-k.k + n + 1)) = omega arith in
    sym (ap (λ r. r.0.memory) (ends_after c.args.limit (c.loop-k.k + n) _ 0 s0 t more so_far _ is))

pub returns-in-Off-clause-outcome : goal.returns-in-Off-clause-outcome
returns-in-Off-clause-outcome c =
    let s0 : State = start_at c.args.memory.now c.args.head c.args.mode in
    let s : State = record { machine = c.loop-k.machine; memory = c.loop-k.memory } in
    let t : State = record { machine = c.read_words-steps.new.self; memory = c.loop-k.memory } in
    let n = c.read_words-steps.result.steps in
    let so_far : run_from (c.loop-k.k + n) 0 s0 ≡ (t, Running (c.loop-k.k + n)) = runs_on c.loop-k.k n s0 s t c.loop-k.invariant.so_far c.read_words-steps.ensures.run in
    let written = c.writes_by-writes.ensures ∙ writes_of-word t c.read_words-steps.result.word c.read_words-steps.ensures.word in
    let held : IsHeldFor (IsWritten (writes_of t)) c.loop-k.memory c.hold_all.new.memory = subst (λ w. IsHeldFor (IsWritten w) c.loop-k.memory c.hold_all.new.memory) written c.hold_all.ensures.same in
    let is = c.in-Off.ensures.exact ∙ step_of-same c.read_words-steps.new.self c.loop-k.memory c.hold_all.new.memory held in
    let more : c.args.limit ≡ c.loop-k.k + n + suc (c.args.limit - (c.loop-k.k + n + 1)) = omega arith in
    sym (ap (λ r. r.1) (ends_after c.args.limit (c.loop-k.k + n) _ 0 s0 t more so_far _ is))

pub returns-in-Off-clause-held : goal.returns-in-Off-clause-held
returns-in-Off-clause-held c = holds_written c.args.limit (start_at c.args.memory.now c.args.head c.args.mode) _ (returns-in-Off-clause-memory c)

pub returns-in-Off-clause-stays : goal.returns-in-Off-clause-stays
returns-in-Off-clause-stays c = stays_as _ _ _ (returns-in-Off-clause-memory c) (run_from-stays c.args.limit 0 (start_at c.args.memory.now c.args.head c.args.mode))

pub returns-clause-memory : goal.returns-clause-memory
returns-clause-memory c =
    let within = c.loop-k.invariant.within in
    let all : c.args.limit ≡ c.loop-k.k = omega arith in
    sym (ap (λ n. (run_from n 0 (start_at c.args.memory.now c.args.head c.args.mode)).0.memory) all ∙ ap (λ r. r.0.memory) c.loop-k.invariant.so_far)

pub returns-clause-outcome : goal.returns-clause-outcome
returns-clause-outcome c =
    let within = c.loop-k.invariant.within in
    let all : c.args.limit ≡ c.loop-k.k = omega arith in
    sym (ap (λ n. (run_from n 0 (start_at c.args.memory.now c.args.head c.args.mode)).1) all ∙ ap (λ r. r.1) c.loop-k.invariant.so_far ∙ ap Running (sym all))

pub returns-clause-held : goal.returns-clause-held
returns-clause-held c = holds_written c.args.limit (start_at c.args.memory.now c.args.head c.args.mode) _ (returns-clause-memory c)

pub returns-clause-stays : goal.returns-clause-stays
returns-clause-stays c = stays_as _ _ _ (returns-clause-memory c) (run_from-stays c.args.limit 0 (start_at c.args.memory.now c.args.head c.args.mode))

pub returns-in_err-hold_all-clause-failed : goal.returns-in_err-hold_all-clause-failed
returns-in_err-hold_all-clause-failed c =
    let s0 : State = start_at c.args.memory.now c.args.head c.args.mode in
    let s : State = record { machine = c.loop-k.machine; memory = c.loop-k.memory } in
    let t : State = record { machine = c.read_words-steps.new.self; memory = c.loop-k.memory } in
    let n = c.read_words-steps.result.steps in
    let so_far : run_from (c.loop-k.k + n) 0 s0 ≡ (t, Running (c.loop-k.k + n)) = runs_on c.loop-k.k n s0 s t c.loop-k.invariant.so_far c.read_words-steps.ensures.run in
    let written = c.writes_by-writes.ensures ∙ writes_of-word t c.read_words-steps.result.word c.read_words-steps.ensures.word in
    let held : IsHeldFor (IsWritten (writes_of t)) c.loop-k.memory c.hold_all.new.memory = subst (λ w. IsHeldFor (IsWritten w) c.loop-k.memory c.hold_all.new.memory) written c.hold_all.ensures.same in
    on_err c.from_residual.result _ (c.loop-k.k + n, t, omega arith, so_far, held)

pub returns-in_err-hold_all-clause-stays : goal.returns-in_err-hold_all-clause-stays
returns-in_err-hold_all-clause-stays c =
    let so_far = stays_as _ _ _ (sym (ap (λ r. r.0.memory) c.loop-k.invariant.so_far)) (run_from-stays c.loop-k.k 0 (start_at c.args.memory.now c.args.head c.args.mode)) in
    stays_then _ _ _ so_far c.hold_all.ensures.same.stays
