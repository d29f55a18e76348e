use Rattle.std.proofs.Common.{sym, ◌∙◌}
use Rattle.stp_problem.proofs.Named.{kept_new, kept_old}
use Rattle.stp_problem.proofs.objects.add_object.Goals as goal

pub returns-in_ok-push-clause-rows : goal.returns-in_ok-push-clause-rows
returns-in_ok-push-clause-rows c = kept_new c.args.rows.now c.args.names.now c.args.row c.requires c.push.new.self (sym c.if-branch.true ∙ c.in_ok-add.ensures.added) c.in_ok-push.ensures.ok

pub returns-else-branch-clause-rows : goal.returns-else-branch-clause-rows
returns-else-branch-clause-rows c = kept_old c.args.rows.now c.args.names.now c.args.row c.requires (sym c.if-branch.false ∙ c.in_ok-add.ensures.added)
