use Rattle.std.proofs.Common.{◌≡◌, drop}
use Rattle.stp_text.specs.Tree.{views}
use Rattle.stp_schema.specs.Known.{known}
use Rattle.stp_refusal.specs.Gathering.{Gathers}
use Rattle.stp_condition.specs.TimedConditions.{and_then, all_parts}
use Rattle.stp_condition.specs.Views.{gathered_of}
use Rattle.stp_condition.proofs.gather.+timed_conditions.Given as goal

abbrev pub invariant-gather_all-loop-item : goal.invariant-gather_all-loop-item
invariant-gather_all-loop-item l = record {
  value : Gathers and_then l.fn.first l.first (gathered_of l.fn.out) (gathered_of l.out) (all_parts (known l.declared l.objects.rows.now) l.scope (views (drop l.item-index l.items))) (all_parts (known l.declared l.objects.rows.now) l.fn.scope (views l.items));
  kept : l.scope ≡ l.fn.scope;
}
