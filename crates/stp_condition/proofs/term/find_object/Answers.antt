use Rattle.std.proofs.Common.{◌∙◌}
use Rattle.stp_condition.proofs.Found.{object_missing, object_found}
use Rattle.stp_condition.proofs.term.find_object.Goals as goal

pub returns-in_err-number : goal.returns-in_err-number
returns-in_err-number c = c.from_residual.ensures ∙ object_missing c.args.objects.now.rows.now c.args.name.now c.in_err-number.ensures.number

pub returns : goal.returns
returns c = object_found c.args.objects.now.rows.now c.args.name.now _ _ c.in_ok-number.ensures.number c.in_ok-row.ensures
