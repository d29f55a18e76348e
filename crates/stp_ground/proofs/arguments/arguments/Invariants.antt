-- The objects so far, and then those of the names that are left, are all.
use Rattle.std.proofs.Common.{◌≡◌, drop}
use Rattle.stp_schema.specs.Views.{problem_of}
use Rattle.stp_instance.specs.Bindings.{numbers_of}
use Rattle.stp_ground.specs.Chosen.{arguments}
use Rattle.stp_ground.proofs.Bound.{joined}
use Rattle.stp_ground.proofs.arguments.arguments.Given as goal

abbrev pub invariant-loop-place : goal.invariant-loop-place
invariant-loop-place l = joined (numbers_of l.objects.items) (arguments (problem_of l.problem) (drop l.place l.kinds) (drop l.place l.names)) ≡ arguments (problem_of l.problem) l.kinds l.names
