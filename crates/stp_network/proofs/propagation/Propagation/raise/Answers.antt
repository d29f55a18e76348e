-- A point that is behind moves, unless it is the new constraint's second point: then no times meet all.
use Rattle.std.proofs.Common.{arith}
use Rattle.stp_network.proofs.Raising.{came_back, moved_on}
use Rattle.stp_network.proofs.propagation.Propagation.raise.Goals as goal

pub returns-then-other-self-clause-cycle : goal.returns-then-other-self-clause-cycle
returns-then-other-self-clause-cycle c = λ same.
    came_back c.args.self.now.edges.now c.args.self.now.times.now c.args.self.now.fresh.now c.args.work.now c.args.marks.now
    c.args.point c.args.other c.args.lag c.args.lead c.requires.way c.requires.forced c.requires.asks (omega arith) c.if-other-self.true

pub returns-clause-way : goal.returns-clause-way
returns-clause-way c =
    moved_on c.args.self.now.edges.now c.args.self.now.times.now c.args.self.now.fresh.now c.args.work.now c.args.marks.now
    c.args.point c.args.other c.args.lag c.args.lead c.requires.way c.requires.forced c.requires.asks (omega arith) (omega arith) (omega arith)
    c.if-other-self.false
