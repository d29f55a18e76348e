use Rattle.std.proofs.Common.{sym, arith}
use Rattle.stp_ground.specs.Worlds.{problem_in}
use Rattle.stp_exec.proofs.Boxing.{numbered_more, numbered_all}
use Rattle.stp_exec.proofs.numbering.number_steps.Goals as goal

pub loop-step-preserved : goal.loop-step-preserved
loop-step-preserved c =
    numbered_more (problem_in c.args.world.now) c.args.table.now c.loop-step.table c.number_chosen.new.table c.loop-step.step-index c.args.placed.now c.step-item.result (omega arith) (sym c.step-item.is) c.in_ok-number_chosen.ensures.atoms c.loop-step.invariant

pub returns : goal.returns
returns c = numbered_all (problem_in c.args.world.now) c.args.table.now c.loop-step.table c.loop-step.step-index c.args.placed.now (omega arith) c.loop-step.invariant
