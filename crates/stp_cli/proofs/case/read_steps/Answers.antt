use Rattle.std.proofs.Common.{◌≡◌, Ok, Err, map, sym, ap, ap₂, subst, ◌∙◌}
use Rattle.stp_schema.specs.Views.{PlainProblem, problem_of}
use Rattle.stp_plan.specs.Views.{plain_plan}
use Rattle.stp_ground.specs.Worlds.{problem_in}
use Rattle.stp_exec.specs.Placed.{placed_from, times_of}
use Rattle.stp_exec.specs.Plans.{IsPlan, grid_of_plan, box_of_plan}
use Rattle.stp_exec.specs.Boxed.{beyond_limits}
use Rattle.stp_exec.specs.Views.{plain_placed}
use Rattle.stp_cli.specs.Refusals.{exec_fault}
use Rattle.stp_exec.proofs.PlacedSteps.{lawful_starts}
use Rattle.stp_cli.proofs.Casing.{refused_lines, refused_step, refused_limit, are_steps}
use Rattle.stp_cli.proofs.case.read_steps.Goals as goal

pub place-requires-clause-starts : goal.place-requires-clause-starts
place-requires-clause-starts c = lawful_starts (plain_plan c.in-Ok.lines) c.in-Ok.ensures.lawful

pub returns-in-Err-clause-refused : goal.returns-in-Err-clause-refused
returns-in-Err-clause-refused c = λ other. refused_lines (problem_of c.args.problem.now) c.args.plan.now c.in-Err.fault (c.in-Err.ensures.refused other)

pub returns-in-Err-place-clause-refused : goal.returns-in-Err-place-clause-refused
returns-in-Err-place-clause-refused c = λ other.
    let told = c.in-Err-place.ensures.placed (λ e. other (c.exec_refused.ensures ∙ ap exec_fault e)) in
    refused_step (problem_of c.args.problem.now) c.args.plan.now (plain_plan c.in-Ok.lines) c.in-Ok.ensures.ok c.in-Err-place.fault
    (subst (λ p. placed_from 1 p (plain_plan c.in-Ok.lines) ≡ Err c.in-Err-place.fault) c.in_ok-world.ensures told)
    ∙ ap Err (sym c.exec_refused.ensures)

pub returns-clause-refused : goal.returns-clause-refused
returns-clause-refused c = λ other.
    let told = c.in-Err-box_placed.ensures.limits (λ e. other (c.exec_refused-in-Err-box_placed.ensures ∙ ap exec_fault e)) in
    let same : problem_in c.place.new.world ≡ problem_of c.args.problem.now = c.in-Ok-place.ensures.same ∙ c.in_ok-world.ensures in
    refused_limit (problem_of c.args.problem.now) c.args.plan.now (plain_plan c.in-Ok.lines) c.in-Ok.ensures.ok (map plain_placed c.in-Ok-place.placed)
    (subst (λ p. placed_from 1 p (plain_plan c.in-Ok.lines) ≡ Ok (map plain_placed c.in-Ok-place.placed)) c.in_ok-world.ensures c.in-Ok-place.ensures.placed)
    c.in-Err-box_placed.fault
    (ap₂ (λ (p : PlainProblem) l. beyond_limits p (map plain_placed l)) (sym same) (sym c.as_slice.ensures) ∙ told)
    ∙ ap Err (sym c.exec_refused-in-Err-box_placed.ensures)

pub returns-in-Ok-box_placed-clause-ok : goal.returns-in-Ok-box_placed-clause-ok
returns-in-Ok-box_placed-clause-ok c =
    let read = problem_of c.args.problem.now in
    let steps = map plain_placed c.in-Ok-place.placed in
    let there : placed_from 1 read (plain_plan c.in-Ok.lines) ≡ Ok steps = subst (λ p. placed_from 1 p (plain_plan c.in-Ok.lines) ≡ Ok steps) c.in_ok-world.ensures c.in-Ok-place.ensures.placed in
    let same : problem_in c.place.new.world ≡ read = c.in-Ok-place.ensures.same ∙ c.in_ok-world.ensures in
    let slice = c.as_slice.ensures in (
      steps,
      are_steps read c.args.plan.now (plain_plan c.in-Ok.lines) c.in-Ok.ensures.ok steps there (ap₂ (λ (p : PlainProblem) l. beyond_limits p (map plain_placed l)) (sym same) (sym slice) ∙ c.in-Ok-box_placed.ensures.limits),
      record {
        box = c.in-Ok-box_placed.ensures.stands ∙ ap₂ (λ (p : PlainProblem) l. box_of_plan p (map plain_placed l)) same slice;
        grid = c.in-Ok-box_placed.ensures.grid ∙ ap₂ (λ (p : PlainProblem) l. grid_of_plan p (map plain_placed l)) same slice;
        times = c.in-Ok-box_placed.ensures.times ∙ ap₂ (λ (p : PlainProblem) l. times_of p (map plain_placed l)) same slice;
        plan = subst (λ p. IsPlan p steps) c.in_ok-world.ensures c.in-Ok-place.ensures.plan;
      },
    )
