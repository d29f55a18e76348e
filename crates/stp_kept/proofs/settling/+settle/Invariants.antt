-- The value so far, and that of what is left, is that of all; the binding is as it was.
use Rattle.std.proofs.Common.{◌≡◌, ◌++◌, map, drop, length}
use Rattle.stp_instance.specs.Bindings.{numbers_of}
use Rattle.stp_instance.specs.Numbered.{is_fluent, is_in}
use Rattle.stp_instance.specs.Typing.{objects_in}
use Rattle.stp_kept.specs.Settled.{joint, joint_of}
use Rattle.stp_kept.proofs.SettledValues.{value_under}
use Rattle.stp_kept.proofs.settling.+settle.Given as goal

abbrev pub invariant-settle_all-loop-cond : goal.invariant-settle_all-loop-cond
invariant-settle_all-loop-cond l = record {
  value : joint l.all l.so_far (joint_of l.all (map (value_under (is_fluent l.statics.fluent.now) (is_in l.statics.facts.now) (objects_in l.fn.members) (numbers_of l.fn.binding.items)) (drop l.cond-index l.conds))) ≡ joint_of l.all (map (value_under (is_fluent l.statics.fluent.now) (is_in l.statics.facts.now) (objects_in l.fn.members) (numbers_of l.fn.binding.items)) l.conds);
  binding : numbers_of l.binding.items ≡ numbers_of l.fn.binding.items;
  members : l.members ≡ l.fn.members;
}

abbrev pub invariant-settle_under-turns : goal.invariant-settle_under-turns
invariant-settle_under-turns l = record {
  value : joint l.all l.so_far (joint_of l.all (map (λ objects. value_under (is_fluent l.statics.fluent.now) (is_in l.statics.facts.now) (objects_in l.fn.members) (numbers_of l.fn.binding.items ++ objects) l.body) l.left)) ≡ joint_of l.all (map (λ objects. value_under (is_fluent l.statics.fluent.now) (is_in l.statics.facts.now) (objects_in l.fn.members) (numbers_of l.fn.binding.items ++ objects) l.body) l.fn.left);
  binding : numbers_of l.binding.items ≡ numbers_of l.fn.binding.items;
  members : l.members ≡ l.fn.members;
  mark : l.mark ≡ length l.fn.binding.items;
}

abbrev pub decreases-settle_under-turns : goal.decreases-settle_under-turns
decreases-settle_under-turns l = length l.left
