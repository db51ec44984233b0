use Rattle.std.proofs.Common.{◌≡◌, ◌-◌, ◌+◌, suc, ap, sym, ◌∙◌, subst, arith, refl}
use Rattle.relocate_machine.specs.declared.step.Outcome.TheVariants.{Running}
use Rattle.relocate_machine.specs.Machine.{State, start_at}
use Rattle.relocate_machine.specs.Run.{run_from}
use Rattle.relocate_machine.specs.inner.Run.{HeldFrom}
use Rattle.relocate_machine.proofs.More.{ends_after, goes_after}
use Rattle.relocate_machine.proofs.ReadSteps.{HeldFrom-goes, goes-runs, runs_on}
use Rattle.relocate_machine.proofs.Runs.{HeldFrom-now, HeldFrom-went, step_of-runs}
use Rattle.relocate_machine.proofs.Stays.{run_from-stays, stays_as}
use Rattle.relocate_machine.proofs.running.run_held.Goals as goal

pub loop-k-init : goal.loop-k-init
unfolding run_from
loop-k-init c =
    let all : c.args.limit ≡ c.args.limit - 0 = omega arith in
    rw c.start-machine.ensures (record { within = omega arith; running = refl; held = subst (λ n. HeldFrom n (start_at c.args.memory.now c.args.head c.args.mode)) all c.requires; so_far = refl })

pub take-requires-clause-running : goal.take-requires-clause-running
take-requires-clause-running c = goes-runs c.read_words-steps.result.steps _ _ c.read_words-steps.ensures.run ∙ c.loop-k.invariant.running

pub take-requires-clause-held : goal.take-requires-clause-held
take-requires-clause-held c =
    let s : State = record { machine = c.loop-k.machine; memory = c.loop-k.memory } in
    let t : State = record { machine = c.read_words-steps.new.self; memory = c.loop-k.memory } in
    let n = c.read_words-steps.result.steps in
    let rest = c.args.limit - (c.loop-k.k + n + 1) in
    let split : c.args.limit - c.loop-k.k ≡ n + suc rest = omega arith in
    let held : HeldFrom (suc rest) t = HeldFrom-goes n (suc rest) s t c.read_words-steps.ensures.run (subst (λ m. HeldFrom m s) split c.loop-k.invariant.held) in
    HeldFrom-now (suc rest) rest t refl held

pub loop-k-preserved : goal.loop-k-preserved
loop-k-preserved c =
    let s0 : State = start_at c.args.memory.now c.args.head c.args.mode in
    let s : State = record { machine = c.loop-k.machine; memory = c.loop-k.memory } in
    let t : State = record { machine = c.read_words-steps.new.self; memory = c.loop-k.memory } in
    let n = c.read_words-steps.result.steps in
    let so_far : run_from (c.loop-k.k + n) 0 s0 ≡ (t, Running (c.loop-k.k + n)) = runs_on c.loop-k.k n s0 s t c.loop-k.invariant.so_far c.read_words-steps.ensures.run in
    let rest = c.args.limit - (c.loop-k.k + n + 1) in
    let split : c.args.limit - c.loop-k.k ≡ n + suc rest = omega arith in
    let held : HeldFrom (suc rest) t = HeldFrom-goes n (suc rest) s t c.read_words-steps.ensures.run (subst (λ m. HeldFrom m s) split c.loop-k.invariant.held) in
    let is = c.in-Went.ensures.exact in
    let runs = goes-runs n s t c.read_words-steps.ensures.run ∙ c.loop-k.invariant.running in
    record {
      within = omega arith;
      running = step_of-runs _ _ is ∙ runs;
      held = HeldFrom-went (suc rest) rest t _ refl is held;
      so_far = goes_after (c.loop-k.k + n) s0 t _ so_far is;
    }

pub returns-in-Ended-clause-memory : goal.returns-in-Ended-clause-memory
returns-in-Ended-clause-memory c =
    let s0 : State = start_at c.args.memory.now c.args.head c.args.mode in
    let s : State = record { machine = c.loop-k.machine; memory = c.loop-k.memory } in
    let t : State = record { machine = c.read_words-steps.new.self; memory = c.loop-k.memory } in
    let n = c.read_words-steps.result.steps in
    let so_far : run_from (c.loop-k.k + n) 0 s0 ≡ (t, Running (c.loop-k.k + n)) = runs_on c.loop-k.k n s0 s t c.loop-k.invariant.so_far c.read_words-steps.ensures.run in
    let more : c.args.limit ≡ c.loop-k.k + n + suc (c.args.limit - (c.loop-k.k + n + 1)) = omega arith in
    sym (ap (λ r. r.0.memory) (ends_after c.args.limit (c.loop-k.k + n) _ 0 s0 t more so_far _ c.in-Ended.ensures.exact))

pub returns-in-Ended-clause-outcome : goal.returns-in-Ended-clause-outcome
returns-in-Ended-clause-outcome c =
    let s0 : State = start_at c.args.memory.now c.args.head c.args.mode in
    let s : State = record { machine = c.loop-k.machine; memory = c.loop-k.memory } in
    let t : State = record { machine = c.read_words-steps.new.self; memory = c.loop-k.memory } in
    let n = c.read_words-steps.result.steps in
    let so_far : run_from (c.loop-k.k + n) 0 s0 ≡ (t, Running (c.loop-k.k + n)) = runs_on c.loop-k.k n s0 s t c.loop-k.invariant.so_far c.read_words-steps.ensures.run in
    let more : c.args.limit ≡ c.loop-k.k + n + suc (c.args.limit - (c.loop-k.k + n + 1)) = omega arith in
    sym (ap (λ r. r.1) (ends_after c.args.limit (c.loop-k.k + n) _ 0 s0 t more so_far _ c.in-Ended.ensures.exact))

pub returns-in-Ended-clause-stays : goal.returns-in-Ended-clause-stays
returns-in-Ended-clause-stays c = stays_as _ _ _ (returns-in-Ended-clause-memory c) (run_from-stays c.args.limit 0 _)

pub returns-in-Off-clause-memory : goal.returns-in-Off-clause-memory
returns-in-Off-clause-memory c =
    let s0 : State = start_at c.args.memory.now c.args.head c.args.mode in
    let s : State = record { machine = c.loop-k.machine; memory = c.loop-k.memory } in
    let t : State = record { machine = c.read_words-steps.new.self; memory = c.loop-k.memory } in
    let n = c.read_words-steps.result.steps in
    let so_far : run_from (c.loop-k.k + n) 0 s0 ≡ (t, Running (c.loop-k.k + n)) = runs_on c.loop-k.k n s0 s t c.loop-k.invariant.so_far c.read_words-steps.ensures.run in
    let more : c.args.limit ≡ c.loop-k.k + n + suc (c.args.limit - (c.loop-k.k + n + 1)) = omega arith in
    sym (ap (λ r. r.0.memory) (ends_after c.args.limit (c.loop-k.k + n) _ 0 s0 t more so_far _ c.in-Off.ensures.exact))

pub returns-in-Off-clause-outcome : goal.returns-in-Off-clause-outcome
returns-in-Off-clause-outcome c =
    let s0 : State = start_at c.args.memory.now c.args.head c.args.mode in
    let s : State = record { machine = c.loop-k.machine; memory = c.loop-k.memory } in
    let t : State = record { machine = c.read_words-steps.new.self; memory = c.loop-k.memory } in
    let n = c.read_words-steps.result.steps in
    let so_far : run_from (c.loop-k.k + n) 0 s0 ≡ (t, Running (c.loop-k.k + n)) = runs_on c.loop-k.k n s0 s t c.loop-k.invariant.so_far c.read_words-steps.ensures.run in
    let more : c.args.limit ≡ c.loop-k.k + n + suc (c.args.limit - (c.loop-k.k + n + 1)) = omega arith in
    sym (ap (λ r. r.1) (ends_after c.args.limit (c.loop-k.k + n) _ 0 s0 t more so_far _ c.in-Off.ensures.exact))

pub returns-in-Off-clause-stays : goal.returns-in-Off-clause-stays
returns-in-Off-clause-stays c = stays_as _ _ _ (returns-in-Off-clause-memory c) (run_from-stays c.args.limit 0 _)

pub returns-clause-memory : goal.returns-clause-memory
returns-clause-memory c =
    let within = c.loop-k.invariant.within in
    let all : c.args.limit ≡ c.loop-k.k = omega arith in
    sym (ap (λ n. (run_from n 0 (start_at c.args.memory.now c.args.head c.args.mode)).0.memory) all ∙ ap (λ r. r.0.memory) c.loop-k.invariant.so_far)

pub returns-clause-outcome : goal.returns-clause-outcome
returns-clause-outcome c =
    let within = c.loop-k.invariant.within in
    let all : c.args.limit ≡ c.loop-k.k = omega arith in
    sym (ap (λ n. (run_from n 0 (start_at c.args.memory.now c.args.head c.args.mode)).1) all ∙ ap (λ r. r.1) c.loop-k.invariant.so_far ∙ ap Running (sym all))

pub returns-clause-stays : goal.returns-clause-stays
returns-clause-stays c = stays_as _ _ _ (returns-clause-memory c) (run_from-stays c.args.limit 0 _)
