use Rattle.std.proofs.Common.{[], ◌∷◌, Some, sym, ap, ◌∙◌}
use Rattle.stp_tests_tree.specs.Tables.{step}
use Rattle.stp_tests_tree.specs.Laws.{walk_on}
use Rattle.stp_tests_tree.proofs.table.walk_on.Goals as goal

pub returns : goal.returns
returns c = c.step.ensures ∙ (ap (λ at. step c.args.rows.now at c.args.right) c.walk.ensures ∙ sym (walk_on c.args.rows.now (Some 0) c.args.moves.now (c.args.right ∷ [])))
