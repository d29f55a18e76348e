use Rattle.std.proofs.Common.{◌≡◌, List, map, sym, ap, ◌∙◌}
use Rattle.std.proofs.lemmas.Result.{err_from_is_err_and}
use Rattle.stp_schema.specs.Views.{PlainProblem, problem_of}
use Rattle.stp_plan.specs.Views.{plain_plan}
use Rattle.stp_ground.specs.Worlds.{problem_in}
use Rattle.stp_happen.specs.BoxViews.{plain_box}
use Rattle.stp_exec.specs.declared.placed.Placed.{Placed}
use Rattle.stp_exec.specs.Placed.{placed_from}
use Rattle.stp_exec.specs.Views.{plain_placed}
use Rattle.stp_exec.specs.Plans.{grid_of_plan, box_of_plan}
use Rattle.stp_exec.specs.Boxed.{beyond_limits}
use Rattle.stp_exec.proofs.Boxing.{step_is_refused, limit_is_refused, box_is_found}
use Rattle.stp_exec.proofs.boxes.box_of.Goals as goal

pub returns-in_err-placed : goal.returns-in_err-placed
returns-in_err-placed c =
    let plan = plain_plan c.args.plan.now in
    let is = err_from_is_err_and c.from_residual-in_err-placed.result c.from_residual-in_err-placed.ensures.1 in
    rw (is.1, is.2)
    (λ other.
    step_is_refused (problem_of c.args.problem.now) plan c.in_err-placed.field-0.0
    (ap (λ (r : PlainProblem). placed_from 1 r plan) (sym c.in_ok-world.ensures) ∙ c.in_err-placed.ensures.placed other))

pub returns-in_err-made : goal.returns-in_err-made
returns-in_err-made c =
    let plan = plain_plan c.args.plan.now in
    let is = err_from_is_err_and c.from_residual-in_err-made.result c.from_residual-in_err-made.ensures.1 in
    rw (is.1, is.2)
    (λ other.
    limit_is_refused (problem_of c.args.problem.now) plan (map plain_placed c.in_ok-placed.placed) c.in_err-made.field-0.0
    (ap (λ (r : PlainProblem). placed_from 1 r plan) (sym c.in_ok-world.ensures) ∙ c.in_ok-placed.ensures.placed)
    (ap (λ (l : List Placed). beyond_limits (problem_of c.args.problem.now) (map plain_placed l)) (sym c.as_slice.ensures) ∙ ap (λ (r : PlainProblem). beyond_limits r (map plain_placed c.as_slice.result.now)) (sym (c.in_ok-placed.ensures.same ∙ c.in_ok-world.ensures)) ∙ c.in_err-made.ensures.limits other))

pub returns : goal.returns
returns c =
    let p = problem_of c.args.problem.now in
    let plan = plain_plan c.args.plan.now in
    let given = c.as_slice.result.now in
    let same : problem_in c.place.new.world ≡ p = c.in_ok-placed.ensures.same ∙ c.in_ok-world.ensures in
    box_is_found p plan (map plain_placed c.in_ok-placed.placed) c.in_ok-made.made.boxed.grid (plain_box c.in_ok-made.made.boxed)
    (ap (λ (r : PlainProblem). placed_from 1 r plan) (sym c.in_ok-world.ensures) ∙ c.in_ok-placed.ensures.placed)
    (ap (λ (l : List Placed). beyond_limits p (map plain_placed l)) (sym c.as_slice.ensures) ∙ ap (λ (r : PlainProblem). beyond_limits r (map plain_placed given)) (sym same) ∙ c.in_ok-made.ensures.limits)
    (c.in_ok-made.ensures.grid ∙ ap (λ (r : PlainProblem). grid_of_plan r (map plain_placed given)) same ∙ ap (λ (l : List Placed). grid_of_plan p (map plain_placed l)) c.as_slice.ensures)
    (c.in_ok-made.ensures.stands ∙ ap (λ (r : PlainProblem). box_of_plan r (map plain_placed given)) same ∙ ap (λ (l : List Placed). box_of_plan p (map plain_placed l)) c.as_slice.ensures)
