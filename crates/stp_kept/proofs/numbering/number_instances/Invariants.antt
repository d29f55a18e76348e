-- The table so far, once it has the atoms of the instances that are left, is the table in the end; what is chosen so far, and
-- what is left, is all.
use Rattle.std.proofs.Common.{◌≡◌, ◌++◌, map, drop}
use Rattle.stp_instance.specs.Numbered.{with_atoms}
use Rattle.stp_ground.specs.Views.{chosen_view}
use Rattle.stp_ground.specs.Worlds.{problem_in}
use Rattle.stp_kept.specs.Instances.{chosen_of}
use Rattle.stp_kept.specs.KeptTasks.{atoms_of_instances}
use Rattle.stp_kept.specs.Views.{instance_views}
use Rattle.stp_kept.proofs.numbering.number_instances.Given as goal

abbrev pub invariant-loop-instance : goal.invariant-loop-instance
invariant-loop-instance l = record {
  atoms : with_atoms l.table (atoms_of_instances (problem_in l.fn.world) (instance_views (drop l.instance-index l.instances))) ≡ with_atoms l.fn.table (atoms_of_instances (problem_in l.fn.world) (instance_views l.instances));
  chosen : map chosen_view l.out ++ map (chosen_of (problem_in l.fn.world)) (instance_views (drop l.instance-index l.instances)) ≡ map (chosen_of (problem_in l.fn.world)) (instance_views l.instances);
  same : problem_in l.world ≡ problem_in l.fn.world;
}
