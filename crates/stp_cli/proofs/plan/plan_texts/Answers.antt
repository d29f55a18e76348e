use Rattle.stp_schema.specs.Views.{problem_of}
use Rattle.stp_cli.proofs.ReadProblems.{simple_actions_are_plain}
use Rattle.stp_cli.proofs.plan.plan_texts.Goals as goal

pub plan-requires : goal.plan-requires
plan-requires c = simple_actions_are_plain c.as_slice.result.now c.as_slice-2.result.now (problem_of c.in-Ok.problem) c.in-Ok.ensures.ok
