use Rattle.std.specs.Prelude.{codes}
use Rattle.std.proofs.lemmas.Result.{on_ok_weaker}
use Rattle.stp_demo.specs.Pieces.{each, line}
use Rattle.stp_demo.specs.Problem.{goal_line}
use Rattle.stp_demo.proofs.JoinedTexts.{three}
use Rattle.stp_demo.proofs.problem.push_goals.Goals as goal

pub returns : goal.returns
returns c =
    on_ok_weaker c.push_line-2.result
    (λ e. three (line (codes "(:goal (and")) (each goal_line c.args.n) (line (codes ")))"))
    c.push_line.new.out c.push_goal_lines.new.out c.push_line-2.new.out c.args.out.now
    c.in_ok-push_line.ensures c.in_ok-push_goal_lines.ensures e)
    c.push_line-2.ensures
