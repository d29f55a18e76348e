use Rattle.std.proofs.Common.{map, sym, ap, ◌∙◌, Err}
use Rattle.stp_schema.specs.Rows.{thing_of, parents_of}
use Rattle.stp_schema.specs.Formula.{formula}
use Rattle.stp_schema.specs.Schemas.{schema_of}
use Rattle.stp_problem.specs.Sizes.{size_of}
use Rattle.stp_problem.proofs.TooLarge.{sizes_are, goal_refused, action_refused, none_refused}
use Rattle.stp_problem.proofs.sizing.judge_sizes.Goals as goal

pub returns-in_err-end_phase-clause-refused : goal.returns-in_err-end_phase-clause-refused
returns-in_err-end_phase-clause-refused c = λ code place e.
    let rows = c.args.objects.now.rows.now in
    let whole = size_of (parents_of c.args.domain.now.types.now) (map thing_of rows) in
    goal_refused whole c.args.at (formula c.args.goal.now) (map schema_of c.args.domain.now.schemas.now)
    _ (sizes_are c.args.domain.now rows _ _ c.in_ok-sizes.ensures c.as_slice.ensures.value) _ c.judge_goal.ensures
    code place (sym c.end_phase.ensures ∙ c.in_err-end_phase.was ∙ ap Err (sym (rw e at c.from_residual-in_err-end_phase.ensures).1))

pub returns-in_err-end_phase-2-clause-refused : goal.returns-in_err-end_phase-2-clause-refused
returns-in_err-end_phase-2-clause-refused c = λ code place e.
    let rows = c.args.objects.now.rows.now in
    let whole = size_of (parents_of c.args.domain.now.types.now) (map thing_of rows) in
    action_refused whole c.args.at (formula c.args.goal.now) (map schema_of c.args.domain.now.schemas.now)
    _ (sizes_are c.args.domain.now rows _ _ c.in_ok-sizes.ensures c.as_slice.ensures.value) _ c.judge_goal.ensures
    (sym c.end_phase.ensures ∙ c.in_ok-end_phase.was)
    _ (sizes_are c.args.domain.now rows _ _ c.in_ok-sizes.ensures c.as_slice-2.ensures.value) _ c.judge_actions.ensures
    code place (sym c.end_phase-2.ensures ∙ c.in_err-end_phase-2.was ∙ ap Err (sym (rw e at c.from_residual-in_err-end_phase-2.ensures).1))

pub returns-clause-ok : goal.returns-clause-ok
returns-clause-ok c =
    let rows = c.args.objects.now.rows.now in
    let whole = size_of (parents_of c.args.domain.now.types.now) (map thing_of rows) in
    none_refused whole c.args.at (formula c.args.goal.now) (map schema_of c.args.domain.now.schemas.now)
    _ (sizes_are c.args.domain.now rows _ _ c.in_ok-sizes.ensures c.as_slice.ensures.value) _ c.judge_goal.ensures
    (sym c.end_phase.ensures ∙ c.in_ok-end_phase.was)
    _ (sizes_are c.args.domain.now rows _ _ c.in_ok-sizes.ensures c.as_slice-2.ensures.value) _ c.judge_actions.ensures
    (sym c.end_phase-2.ensures ∙ c.in_ok-end_phase-2.was)
