use Rattle.std.proofs.Common.{drop}
use Rattle.stp_text.specs.Tree.{views}
use Rattle.stp_domain_parts.specs.Then.{Goes}
use Rattle.stp_domain_tables.specs.Functions.{no_groups, groups_read}
use Rattle.stp_domain_tables.specs.FunctionViews.{groups_of}
use Rattle.stp_domain_tables.proofs.functions.read_groups.Given as goal

abbrev pub invariant-loop-item : goal.invariant-loop-item
invariant-loop-item l = Goes l.fn.first l.first (groups_read (groups_of l.found) (views (drop l.item-index l.items))) (groups_read no_groups (views l.items))
