use Rattle.std.proofs.Common.{◌≡◌, drop}
use Rattle.stp_text.specs.Tree.{views}
use Rattle.stp_text.specs.Items.{has_list}
use Rattle.stp_text.proofs.sexpr.has_list.Given as goal

abbrev pub invariant-loop-item : goal.invariant-loop-item
invariant-loop-item l = has_list (views (drop l.item-index l.items)) ≡ has_list (views l.items)
