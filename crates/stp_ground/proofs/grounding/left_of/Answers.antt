use Rattle.stp_instance.specs.Numbered.{is_fluent, is_in}
use Rattle.stp_instance.specs.Views.{claim}
use Rattle.stp_ground.proofs.Reached.{left_below}
use Rattle.stp_ground.proofs.grounding.left_of.Goals as goal

pub returns-clause-in_range : goal.returns-clause-in_range
returns-clause-in_range c = left_below c.args.table.now (is_fluent c.deref.result.now) (is_in c.args.world.now.facts) (claim c.args.ground.now) c.in_ok-cond.cond c.in_ok-cond.ensures
