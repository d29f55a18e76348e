use Rattle.std.proofs.Common.{arith}
use Rattle.stp_kept.proofs.TaskTimes.{grid_more, grid_low, grid_high, grid_beyond}
use Rattle.stp_kept.proofs.timing.grid_of.Goals as goal

pub returns-in_default : goal.returns-in_default
returns-in_default c =
    let i = c.joins.invariant in
    record { value = grid_beyond c.args.times.now c.joins.at c.index-times-at.result c.joins.grid (omega arith) (omega arith) c.index-times-at.is i.same c.in_default.ensures }

pub joins-preserved : goal.joins-preserved
joins-preserved c =
    let i = c.joins.invariant in
    record {
      same = grid_more c.args.times.now c.joins.at c.index-times-at.result c.joins.grid c.in-Some.joint (omega arith) (omega arith) c.index-times-at.is i.same c.in-Some.ensures;
      low = grid_low c.args.times.now c.joins.at c.index-times-at.result c.joins.grid c.in-Some.joint (omega arith) (omega arith) c.index-times-at.is i.same c.in-Some.ensures;
      high = grid_high c.args.times.now c.joins.at c.index-times-at.result c.joins.grid c.in-Some.joint c.in-Some.ensures;
      within = omega arith;
    }
