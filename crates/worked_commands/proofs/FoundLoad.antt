-- The list that moves page 12 to page 2, found in memory: what is so of its run.
use Rattle.std.proofs.Common.{[], ◌∷◌, None, refl, arith, inl, inr}
use Rattle.kx_pages.specs.declared.image.Mode.TheVariants as modes
use Rattle.kx_pages.specs.declared.image.Wish.TheVariants.{Plain}
use Rattle.kx_laws.proofs.Options.{none_some}
use Rattle.page_memory.specs.Contents.{at}
use Rattle.segments.specs.Rules.{bare_refusal, shape_refusal}
use Rattle.segments.specs.inner.Rules.{IsBare}
use Rattle.load_states.specs.Ready.{Told}
use Rattle.load_states.specs.Runs.{EndsAfter}
use Rattle.load_states.proofs.Ready.{list_ends}
use Rattle.load_commands.specs.NormalLoad.{NormalLoad}
use Rattle.command_parts.specs.Outputs.{IsFileOf}
use Rattle.command_parts.specs.Runs.{Leaves, MachineLeaves, after_runs}
use Rattle.command_parts.proofs.Ending.{machine_leaves}
use Rattle.command_parts.proofs.Leaving.{leaves_by}
use Rattle.worked_commands.specs.Drawn.{found}
use Rattle.worked_commands.specs.Inputs.{few_read, three_bytes}
use Rattle.worked_commands.specs.Lists.{one_move}
use Rattle.worked_commands.specs.Loads.{few_plan}
use Rattle.worked_commands.specs.Memories.{loaded, run_file}
use Rattle.worked_commands.proofs.Lists.{accepted}
use Rattle.worked_commands.proofs.Loads.{plan_is}
use Rattle.worked_commands.proofs.LoadWitness.{other}
use Rattle.worked_commands.proofs.Memories.{has_list, loaded_source, run_is}

pub bare : IsBare three_bytes
unfolding bare_refusal shape_refusal
bare = refl

abbrev pub told : Told found.load 4 1 ((2, 0x12) ∷ [])
told = record {
  items = one_move;
  accepted = accepted (at loaded) has_list loaded_source;
  count = refl;
  link_pages = refl;
  same_pairs = refl;
}

pub ends : EndsAfter found.load 4
ends = list_ends found.load 4 1 ((2, 0x12) ∷ []) bare told

pub runs : MachineLeaves None found
runs = machine_leaves None found modes.Plain refl tt bare told

pub leaves : Leaves None found (after_runs None found)
leaves = leaves_by None found modes.Plain refl tt told

pub is_memory : IsFileOf (after_runs None found) run_file
is_memory = run_is

-- it is a load of the kernel over the memory without pages
pub few_load : NormalLoad Plain few_read few_plan found
few_load = record {
  planned = plan_is;
  enough = omega arith;
  segments = refl;
  mode = refl;
  only_pool_pages = other;
  accepted = told;
  ends = ends;
  control_is_drawn = inl refl;
  swap_is_drawn = λ swap e. absurd (none_some None swap refl e);
  list_is_drawn = (inr (inl refl), tt);
  sources_are_drawn = (inr (inr (inl refl)), tt);
}
