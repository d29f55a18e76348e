use Rattle.std.proofs.Common.{◌≡◌, [], ap, subst, sym, ◌∙◌}
use Rattle.stp_schema.specs.Views.{problem_of}
use Rattle.stp_happen.specs.Boxes.{IsStrong}
use Rattle.stp_happen.specs.BoxViews.{plain_box}
use Rattle.stp_exec.specs.Plans.{box_of_plan}
use Rattle.stp_cli.proofs.plan.is_empty_plan_strong.Goals as goal

pub returns-in-Strong-clause-strong : goal.returns-in-Strong-clause-strong
returns-in-Strong-clause-strong c =
    let same : plain_box c.in-Ok.made.boxed ≡ box_of_plan (problem_of c.args.problem.now) [] = c.in-Ok.ensures.stands ∙ ap (λ p. box_of_plan p []) c.in_ok-world.ensures in
    λ _. subst IsStrong same (c.in_ok-strong.ensures.exactly.0 c.in-Strong.is)

pub returns-clause-weak : goal.returns-clause-weak
returns-clause-weak c =
    let same : plain_box c.in-Ok.made.boxed ≡ box_of_plan (problem_of c.args.problem.now) [] = c.in-Ok.ensures.stands ∙ ap (λ p. box_of_plan p []) c.in_ok-world.ensures in
    λ _ strong. let is = c.in_ok-strong.ensures.exactly.1 (subst IsStrong (sym same) strong) in cc
