use Rattle.std.proofs.Common.{refl, arith}
use Rattle.stp_problem.proofs.Left.{written_none, written_more}
use Rattle.stp_problem.proofs.rung.unsorted.Goals as goal

pub loop-kind-init : goal.loop-kind-init
loop-kind-init c = written_none c.args.ancestries.now c.new-rungs.result.items c.new-rungs.ensures.items

pub loop-kind-preserved : goal.loop-kind-preserved
loop-kind-preserved c = written_more c.args.ancestries.now c.loop-kind.rungs.items c.push.new.self.items _ c.in_ok-push.ensures.items (omega arith) c.loop-kind-test.true refl c.loop-kind.invariant
