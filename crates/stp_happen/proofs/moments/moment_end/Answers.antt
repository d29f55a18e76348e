use Rattle.stp_happen.proofs.MomentEnds.{later_from}
use Rattle.stp_happen.proofs.moments.moment_end.Goals as goal

pub returns-else-entries-end-clause-later : goal.returns-else-entries-end-clause-later
returns-else-entries-end-clause-later c = λ k d from inside. later_from c.args.entries.now c.args.start c.loop-end.end k d c.index-entries-end.result c.index-entries-start.result c.requires.ordered c.loop-end.invariant.after from inside c.if-entries-end.false
