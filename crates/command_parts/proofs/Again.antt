-- A second run exchanges the pairs again.
use Rattle.std.proofs.Common.{◌≡◌, ◌∙◌, ℕ, Some, ap, cond}
use Rattle.std.specs.Prelude.{eqb}
use Rattle.page_memory.specs.Contents.{at}
use Rattle.kx_pages.specs.Bytes.{Mem}
use Rattle.page_memory.specs.Memory.{Agree}
use Rattle.kexec_words.specs.declared.commands.Runs.TheVariants.{Twice}
use Rattle.load_states.specs.Exchange.{exchange, last_source, partner}
use Rattle.load_states.specs.States.{Checked, swap_of}
use Rattle.command_parts.specs.Runs.{after_runs}

pub exchanged_again : (a ran : Checked) (N : Mem) → ((q : ℕ) → at ran.load.memory q ≡ exchange (at a.load.memory) a.pairs (swap_of a.load) q)
    → ran.pairs ≡ a.pairs → swap_of ran.load ≡ swap_of a.load → Agree N (exchange (at ran.load.memory) ran.pairs (swap_of ran.load)) → Agree N (after_runs (Some Twice) a)
exchanged_again a ran N first pairs swap h = λ p.
    h p
    ∙ ap (λ qs. exchange (at ran.load.memory) qs (swap_of ran.load) p) pairs
    ∙ ap (λ w. exchange (at ran.load.memory) a.pairs w p) swap
    ∙ first (cond (eqb p (swap_of a.load)) (last_source a.pairs (swap_of a.load)) (partner a.pairs p))
