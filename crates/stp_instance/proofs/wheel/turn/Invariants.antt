-- The wheels from a place on have begun anew. What comes after the first binding is carried to those before it.
use Rattle.std.proofs.Common.{◌≡◌, true, ◌∷◌, map, take, drop, length, ◌≤◌}
use Rattle.std.specs.List.{list_all}
use Rattle.stp_instance.specs.Expanded.{bindings_of}
use Rattle.stp_instance.specs.Turning.{has_choice, choices_of, left, shown}
use Rattle.stp_instance.proofs.Wheels.{carried}
use Rattle.stp_instance.proofs.wheel.turn.Given as goal

abbrev pub invariant-loop-at : goal.invariant-loop-at
invariant-loop-at l = record {
  within : l.at ≤ length l.wheels;
  choices : list_all has_choice l.wheels ≡ true;
  begun : left (drop l.at l.wheels) ≡ bindings_of choices_of (drop l.at l.wheels);
  left : left l.fn.wheels ≡ map shown l.fn.wheels ∷ carried (take l.at l.wheels) (drop l.at l.wheels);
}

abbrev pub decreases-loop-at : goal.decreases-loop-at
decreases-loop-at l = l.at
