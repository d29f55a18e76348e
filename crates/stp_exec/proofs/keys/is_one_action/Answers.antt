use Rattle.std.proofs.Common.{◌∙◌}
use Rattle.stp_exec.proofs.Stepping.{one_action_is}
use Rattle.stp_exec.proofs.keys.is_one_action.Goals as goal

pub returns-then-one-other : goal.returns-then-one-other
returns-then-one-other c = c.eq.ensures ∙ one_action_is c.args.one.now.chosen.schema c.args.other.now.chosen.schema c.args.one.now.chosen.args.now c.args.other.now.chosen.args.now c.if-one-other.true
