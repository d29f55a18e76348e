-- Each variable so far has the objects of its type, and shows the first of them.
use Rattle.std.proofs.Common.{◌≡◌, map, take, not}
use Rattle.std.specs.List.{list_all}
use Rattle.stp_instance.specs.Typing.{objects_in}
use Rattle.stp_instance.specs.Turning.{choices_of, rest_of, has_choice}
use Rattle.stp_instance.proofs.odometer.Odometer.new.Given as goal

abbrev pub invariant-loop-kind : goal.invariant-loop-kind
invariant-loop-kind l = record {
  same : l.members ≡ l.fn.members;
  choices : map choices_of l.wheels.items ≡ map (objects_in l.fn.members) (take l.kind-index l.kinds);
  first : map rest_of l.wheels.items ≡ map choices_of l.wheels.items;
  over : not l.over ≡ list_all has_choice l.wheels.items;
}
