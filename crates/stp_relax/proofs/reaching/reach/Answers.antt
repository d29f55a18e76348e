use Rattle.stp_task.specs.Tasks.{plain_task}
use Rattle.stp_relax.proofs.Closing.{least_from}
use Rattle.stp_relax.proofs.reaching.reach.Goals as goal

pub returns : goal.returns
returns c = least_from (plain_task c.args.task.now) c.in_ok-progress.progress _ c.in_ok-progress.ensures c.in_ok-may.ensures.those c.in_ok-always.ensures.those
