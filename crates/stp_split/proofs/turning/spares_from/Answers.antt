use Rattle.std.proofs.Common.{length}
use Rattle.stp_split.proofs.Loops.{cond_below}
use Rattle.stp_split.proofs.turning.spares_from.Goals as goal

pub spares-requires : goal.spares-requires
spares-requires c = cond_below (length c.args.row.now) c.args.conds.now c.loop-place.place c.index-conds-place.result c.loop-place-test.true c.index-conds-place.is c.requires
