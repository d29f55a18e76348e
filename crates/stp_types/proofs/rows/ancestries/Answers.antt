use Rattle.std.proofs.Common.{arith}
use Rattle.stp_types.proofs.Made.{all_made, same_parents}
use Rattle.stp_types.proofs.rows.ancestries.Goals as goal

pub returns-clause-rows : goal.returns-clause-rows
returns-clause-rows c = all_made c.args.parents.now c.requires.table c.requires.forest c.loop-start.rows.items c.loop-start.invariant.right
    (λ k there. c.loop-start.invariant.done k (omega (arith, there, c.loop-start-test.false)))

pub returns-clause-parents : goal.returns-clause-parents
returns-clause-parents c = same_parents c.args.parents.now c.requires.table c.requires.forest c.loop-start.rows.items c.loop-start.invariant.right
    (λ k there. c.loop-start.invariant.done k (omega (arith, there, c.loop-start-test.false)))
