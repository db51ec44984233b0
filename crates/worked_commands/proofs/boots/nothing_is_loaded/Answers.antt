-- The done word alone leaves no segment out where there is none.
use Rattle.std.proofs.Common.{◌≡◌, ℕ, List, [], ◌∷◌, Option, Some, None, refl}
use Rattle.kx_pages.specs.declared.item.Item.TheVariants.{Done}
use Rattle.segments.specs.Values.{SegmentValue, want}
use Rattle.relocate_machine.specs.Machine.{kind_of, step_of}
use Rattle.relocate_machine.specs.Run.{run_from}
use Rattle.worked_commands.specs.Inputs.{three_bytes}
use Rattle.worked_commands.proofs.boots.nothing_is_loaded.Goals as goal

nothing_wanted : (p : ℕ) (bytes : List ℕ) → want [] p ≡ Some bytes → ⊥
nothing_wanted p bytes e = let f : ◌≡◌ {A = Option (List ℕ)} None (Some bytes) = e in cc

pub returns-clause-accepted : goal.returns-clause-accepted
returns-clause-accepted c = record {
  items = Done 0 ∷ [];
  accepted = record {
    walk = (refl, refl);
    once = tt;
    destination_first = tt;
    in_order = tt;
    whole = λ p bytes e. absurd (nothing_wanted p bytes e);
    right_bytes = tt;
    links_unwritten = tt;
    control_apart = (tt, tt);
  };
  count = refl;
  link_pages = refl;
  same_pairs = refl;
}

pub returns-clause-ends : goal.returns-clause-ends
unfolding run_from step_of kind_of
returns-clause-ends c = refl

no_segments : ◌≡◌ {A = List SegmentValue} [] three_bytes → ⊥
no_segments e = cc

pub returns-clause-not_the_plan : goal.returns-clause-not_the_plan
returns-clause-not_the_plan c = λ load. no_segments load.segments
