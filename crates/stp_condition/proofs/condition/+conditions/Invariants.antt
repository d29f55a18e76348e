use Rattle.std.proofs.Common.{◌≡◌, map, drop}
use Rattle.stp_text.specs.Tree.{views}
use Rattle.stp_refusal.specs.Read.{Continues}
use Rattle.stp_schema.specs.Formula.{formula}
use Rattle.stp_schema.specs.Known.{known}
use Rattle.stp_condition.specs.Conditions.{all_read, items_read}
use Rattle.stp_condition.proofs.condition.+conditions.Given as goal

abbrev pub invariant-read_all-loop-item : goal.invariant-read_all-loop-item
invariant-read_all-loop-item l = record {
  value : Continues l.fn.first l.first (map formula l.out.items) (all_read (items_read (known l.declared l.objects.rows.now) (views (drop l.item-index l.items))) l.scope) (all_read (items_read (known l.declared l.objects.rows.now) (views l.items)) l.fn.scope);
  kept : l.scope ≡ l.fn.scope;
}
