use Rattle.std.proofs.Common.{ℕ, ◌≤◌, true, false, List, length, sym, subst, ◌∙◌}
use Rattle.std.proofs.lemmas.Result.{IfOk-weaker}
use Rattle.stp_cli.specs.Refusals.{IsOrRefused}
use Rattle.stp_cli.specs.Demo.{IsShown}
use Rattle.stp_cli.proofs.ShownDemos.{short_problem, short_plan, are_of_the_demo}
use Rattle.stp_cli.proofs.demo.demo.Goals as goal

-- the texts are short enough to be files
pub demo_on_texts-requires-clause-problem : goal.demo_on_texts-requires-clause-problem
demo_on_texts-requires-clause-problem c = subst (λ (t : List ℕ). length t ≤ 1048576) (sym (c.as_slice-2.ensures ∙ c.in_ok-problem.ensures)) (short_problem c.args.number c.requires.most)

pub demo_on_texts-requires-clause-plan : goal.demo_on_texts-requires-clause-plan
demo_on_texts-requires-clause-plan c = subst (λ (t : List ℕ). length t ≤ 1048576) (sym (c.as_slice-3.ensures ∙ c.in_ok-plan.ensures)) (short_plan c.args.number c.requires.most false)

pub demo_on_texts-requires-clause-spoiled : goal.demo_on_texts-requires-clause-spoiled
demo_on_texts-requires-clause-spoiled c = subst (λ (t : List ℕ). length t ≤ 1048576) (sym (c.as_slice-4.ensures ∙ c.in_ok-spoiled.ensures)) (short_plan c.args.number c.requires.most true)

-- they are the texts of the demo
pub returns : goal.returns
returns c =
    let same = are_of_the_demo c.args.number c.as_slice.result.now c.as_slice-2.result.now c.as_slice-3.result.now c.as_slice-4.result.now
    (c.as_slice.ensures ∙ c.in_ok-domain.ensures) (c.as_slice-2.ensures ∙ c.in_ok-problem.ensures) (c.as_slice-3.ensures ∙ c.in_ok-plan.ensures) (c.as_slice-4.ensures ∙ c.in_ok-spoiled.ensures) in
    IfOk-weaker c.demo_on_texts.result _ _
    (λ r (answer, right, status, text). (answer, subst (λ read. IsOrRefused (IsShown c.args.number) read answer) same right, status, text))
    c.demo_on_texts.ensures
