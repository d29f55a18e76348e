-- The bounds so far, and those of what is left, are those of all.
use Rattle.std.proofs.Common.{◌≡◌, ◌++◌, map, drop}
use Rattle.stp_frac.specs.Fractions.{value_of}
use Rattle.stp_kept.specs.KeptTasks.{bounds_of_instances}
use Rattle.stp_kept.specs.Views.{instance_views}
use Rattle.stp_kept.proofs.timing.put_all_bounds.Given as goal

abbrev pub invariant-loop-instance : goal.invariant-loop-instance
invariant-loop-instance l = map value_of l.times.items ++ bounds_of_instances (instance_views (drop l.instance-index l.instances)) ≡ map value_of l.fn.times.items ++ bounds_of_instances (instance_views l.instances)
