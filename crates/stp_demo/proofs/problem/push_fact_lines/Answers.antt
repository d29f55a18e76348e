use Rattle.std.proofs.Common.{ap, sym, ◌∙◌, append_assoc}
use Rattle.std.specs.Prelude.{◌++◌, ◌+◌}
use Rattle.stp_demo.specs.Pieces.{each}
use Rattle.stp_demo.specs.Problem.{fact_line}
use Rattle.stp_demo.proofs.Lines.{one_more}
use Rattle.stp_demo.proofs.problem.push_fact_lines.Goals as goal

pub loop-before-preserved : goal.loop-before-preserved
loop-before-preserved c =
    let before = c.loop-before.before in
    c.in_ok-push_fact.ensures
    ∙ ap (λ t. t ++ fact_line (before + 1)) c.loop-before.invariant
    ∙ append_assoc c.args.out.now (each fact_line before) (fact_line (before + 1))
    ∙ ap (λ t. c.args.out.now ++ t) (sym (one_more fact_line before))
