-- What is expanded so far, and what is left, is all; the binding is as it was.
use Rattle.std.proofs.Common.{◌≡◌, ◌++◌, map, drop, length}
use Rattle.stp_schema.specs.Formula.{formula}
use Rattle.stp_instance.specs.Bindings.{numbers_of}
use Rattle.stp_instance.specs.Expanded.{bindings_of, expanded}
use Rattle.stp_instance.specs.Typing.{objects_in}
use Rattle.stp_instance.specs.Views.{claim}
use Rattle.stp_instance.proofs.expanding.+expand.Given as goal

abbrev pub invariant-expand_all-loop-cond : goal.invariant-expand_all-loop-cond
invariant-expand_all-loop-cond l = record {
  ground : map claim l.out.items ++ map (λ c. expanded (objects_in l.fn.members) (numbers_of l.fn.binding.items) (formula c)) (drop l.cond-index l.conds) ≡ map (λ c. expanded (objects_in l.fn.members) (numbers_of l.fn.binding.items) (formula c)) l.conds;
  binding : numbers_of l.binding.items ≡ numbers_of l.fn.binding.items;
  members : l.members ≡ l.fn.members;
}

abbrev pub invariant-instances-loop-out : goal.invariant-instances-loop-out
invariant-instances-loop-out l = record {
  ground : map claim l.out.items ++ map (λ objects. expanded (objects_in l.fn.members) (numbers_of l.fn.binding.items ++ objects) (formula l.body)) l.left ≡ map (λ objects. expanded (objects_in l.fn.members) (numbers_of l.fn.binding.items ++ objects) (formula l.body)) (bindings_of (objects_in l.fn.members) l.kinds);
  binding : numbers_of l.binding.items ≡ numbers_of l.fn.binding.items;
  members : l.members ≡ l.fn.members;
  mark : l.mark ≡ length l.fn.binding.items;
}

abbrev pub decreases-instances-loop-out : goal.decreases-instances-loop-out
decreases-instances-loop-out l = length l.left
