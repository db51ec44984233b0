-- What stands after two runs with context preserved.
use Rattle.std.proofs.Common.{◌≡◌, ◌∙◌, ℕ, List, [], ◌∷◌, Option, Some, None, sym, ap, subst, inl, inr}
use Rattle.std.specs.Prelude.{◌≢◌}
use Rattle.std.specs.List.{AllByRecursion}
use Rattle.kx_edge.specs.declared.edge.Shelf.{Ghosts as Shelf}
use Rattle.kx_edge.specs.declared.edge.Sink.{Ghosts as Sink}
use Rattle.kx_pages.specs.Bytes.{Mem}
use Rattle.kx_pages.specs.Lists.{Has}
use Rattle.kx_pages.specs.Modes.{swap_page}
use Rattle.kx_pages.specs.declared.image.Wish.TheVariants.{Kept}
use Rattle.kx_pages.proofs.Counting.{no_count-from_Each}
use Rattle.page_memory.specs.Contents.{at}
use Rattle.load_states.specs.States.{Checked, swap_of}
use Rattle.load_states.proofs.Ready.{once_arrives}
use Rattle.kexec_words.specs.declared.commands.Runs.{Runs}
use Rattle.kexec_words.specs.declared.commands.Runs.TheVariants.{Once, Twice}
use Rattle.kexec_plan.specs.Requests.{Plan}
use Rattle.load_commands.specs.Inputs.{LoadInputs}
use Rattle.load_commands.specs.NormalLoad.{NormalLoad, drawn_pages}
use Rattle.command_parts.specs.Runs.{Leaves, after_runs, wish_of}
use Rattle.plan_laws.specs.Memory.{HasArrived}
use Rattle.boot_laws.specs.Returned.{BootedMemoryReturns, ReadsBesides}
use Rattle.boot_laws.proofs.Booting.{inputs_read, starts}

-- no page of the list is one that does not stand in it
others : (q : ℕ) (xs : List ℕ) → (Has q xs → ⊥) → AllByRecursion (λ x. x ≢ q) xs
others q [] n = tt
others q (x ∷ xs) n = ((λ e. n (inl e)), others q xs (λ h. n (inr h)))

module _ (i : LoadInputs) (p : Plan) (c : Checked) (l : NormalLoad Kept i p c) where
  between : HasArrived (after_runs (Some Once) c) p.segments
  between = subst (HasArrived (after_runs (Some Once) c)) l.segments (once_arrives c (swap_of c.load) l.mode l.accepted)

  behind : (N : Mem) → Leaves (Some Twice) c N → ReadsBesides (drawn_pages Kept i p) N (at i.memory)
  behind N left q n =
      left q (λ same. n (subst (λ q. Has q (drawn_pages Kept i p)) (sym same) (l.swap_is_drawn (swap_of c.load) (ap swap_page l.mode))))
      ∙ l.only_pool_pages q (no_count-from_Each q (drawn_pages Kept i p) (others q (drawn_pages Kept i p) n))

-- the same, of runs that are two
record Returns (i : LoadInputs) (p : Plan) (c : Checked) (N : Mem) : Type 0 where
  between_runs : HasArrived (after_runs (Some Once) c) p.segments
  behind_them : ReadsBesides (drawn_pages Kept i p) N (at i.memory)

returns : (runs : Option Runs) (i : LoadInputs) (p : Plan) (c : Checked) (N : Mem) → runs ≡ Some Twice → NormalLoad (wish_of runs) i p c → Leaves runs c N → Returns i p c N
returns None i p c N e l left = cc
returns (Some Once) i p c N e l left = cc
returns (Some Twice) i p c N e l left = record { between_runs = between i p c l; behind_them = behind i p c l N left }

module _ {S O : Type 0} (D : Shelf S) (E : Sink O) where
  pub booted_memory_returns : BootedMemoryReturns D E
  booted_memory_returns held s o s' o' b (x, e, h) twice =
      let r = returns b.kept x h.planned h.checked (after_runs b.kept h.checked) twice h.load h.leaves in (
        x,
        e,
        h,
        starts (after_runs (Some Once) h.checked) x.request x.map h.planned h.load.planned r.between_runs (inputs_read b.image b.inputs held x e),
        h.is_memory,
        r.behind_them,
      )
