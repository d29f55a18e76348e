use Rattle.std.proofs.Common.{◌≡◌, ◌-◌, ◌<◌, ◌≤◌, length}
use Rattle.std.specs.Prelude.{min}
use Rattle.stp_types.specs.Forest.{above}
use Rattle.stp_types.specs.Rows.{depth_of, parents_of}
use Rattle.stp_types.proofs.query.is_below.Given as goal

abbrev pub invariant-loop-at : goal.invariant-loop-at
invariant-loop-at l = record {
  within : l.at < length l.rows;
  shallow : depth_of l.rows l.at ≤ depth_of l.rows l.kind;
  below : min (depth_of l.rows l.kind) l.depth ≤ depth_of l.rows l.at;
  here : above (parents_of l.rows) (depth_of l.rows l.kind - depth_of l.rows l.at) l.kind ≡ l.at;
}

abbrev pub decreases-loop-at : goal.decreases-loop-at
decreases-loop-at l = depth_of l.rows l.at
