use Rattle.std.proofs.Common.{◌+◌, true, false, ◌∙◌, sym}
use Rattle.stp_happen.specs.OwnerViews.{plain_owner}
use Rattle.stp_window.specs.OwnerWindows.{end_point}
use Rattle.stp_check.proofs.Timing.{at_near}
use Rattle.stp_check.proofs.choices.end_after.Goals as goal

pub returns-then-is_among-clause-moment : goal.returns-then-is_among-clause-moment
returns-then-is_among-clause-moment c = c.after.ensures ∙ at_near c.args.steps.now (c.args.time + 1) (end_point (plain_owner c.args.owner.now)) true (sym c.if-is_among.true ∙ c.is_among.ensures)

pub returns-else-is_among-clause-moment : goal.returns-else-is_among-clause-moment
returns-else-is_among-clause-moment c = at_near c.args.steps.now (c.args.time + 1) (end_point (plain_owner c.args.owner.now)) false (sym c.if-is_among.false ∙ c.is_among.ensures)
