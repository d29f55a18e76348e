use Rattle.std.proofs.Common.{sym, ap, ◌∙◌, refl, Err}
use Rattle.stp_text.specs.Tree.{view}
use Rattle.stp_refusal.proofs.Reading.{paired}
use Rattle.stp_problem.proofs.Phases.{refused_init, refused_goal, refused_sizes, refused_events, accepted}
use Rattle.stp_problem.proofs.TypedObjects.{rows_fit}
use Rattle.stp_problem.proofs.problem.read_problem.Goals as goal

pub judge_sizes-requires : goal.judge_sizes-requires
judge_sizes-requires c = rows_fit c.args.domain _ c.in_ok-objects.objects.rows.now _ c.in_ok-objects.ensures

pub returns-in_err-end_phase-3-clause-refused : goal.returns-in_err-end_phase-3-clause-refused
returns-in_err-end_phase-3-clause-refused c = λ code at e.
    refused_init c.args.domain (view c.args.tree.now) _ _ c.problem_parts-parts.ensures (sym c.end_phase.ensures ∙ c.in_ok-end_phase.was)
    _ c.in_ok-objects.objects.rows.now c.in_ok-objects.ensures (sym c.end_phase-2.ensures ∙ c.in_ok-end_phase-2.was)
    _ _ (paired (λ facts timed. (facts, timed)) _ _ _ _ _ _ _ _ refl c.in_ok-facts.ensures c.in_ok-items.ensures)
    code at (sym c.end_phase-3.ensures ∙ c.in_err-end_phase-3.was ∙ ap Err (sym (rw e at c.from_residual-in_err-end_phase-3.ensures).1))

pub returns-in_err-end_phase-4-clause-refused : goal.returns-in_err-end_phase-4-clause-refused
returns-in_err-end_phase-4-clause-refused c = λ code at e.
    refused_goal c.args.domain (view c.args.tree.now) _ _ c.problem_parts-parts.ensures (sym c.end_phase.ensures ∙ c.in_ok-end_phase.was)
    _ c.in_ok-objects.objects.rows.now c.in_ok-objects.ensures (sym c.end_phase-2.ensures ∙ c.in_ok-end_phase-2.was)
    _ _ (paired (λ facts timed. (facts, timed)) _ _ _ _ _ _ _ _ refl c.in_ok-facts.ensures c.in_ok-items.ensures) (sym c.end_phase-3.ensures ∙ c.in_ok-end_phase-3.was)
    _ _ c.in_ok-goal.ensures
    code at (sym c.end_phase-4.ensures ∙ c.in_err-end_phase-4.was ∙ ap Err (sym (rw e at c.from_residual-in_err-end_phase-4.ensures).1))

pub returns-in_err-judge_sizes-clause-refused : goal.returns-in_err-judge_sizes-clause-refused
returns-in_err-judge_sizes-clause-refused c = λ code at e.
    refused_sizes c.args.domain (view c.args.tree.now) _ _ c.problem_parts-parts.ensures (sym c.end_phase.ensures ∙ c.in_ok-end_phase.was)
    _ c.in_ok-objects.objects.rows.now c.in_ok-objects.ensures (sym c.end_phase-2.ensures ∙ c.in_ok-end_phase-2.was)
    _ _ (paired (λ facts timed. (facts, timed)) _ _ _ _ _ _ _ _ refl c.in_ok-facts.ensures c.in_ok-items.ensures) (sym c.end_phase-3.ensures ∙ c.in_ok-end_phase-3.was)
    _ _ c.in_ok-goal.ensures (sym c.end_phase-4.ensures ∙ c.in_ok-end_phase-4.was)
    (record { at = at; code = code }) (c.judge_sizes.ensures.refused code at (c.in_err-judge_sizes.was ∙ ap Err (sym (rw e at c.from_residual-in_err-judge_sizes.ensures).1)))

pub returns-in_err-timed-clause-refused : goal.returns-in_err-timed-clause-refused
returns-in_err-timed-clause-refused c = λ code at e.
    refused_events c.args.domain (view c.args.tree.now) _ _ c.problem_parts-parts.ensures (sym c.end_phase.ensures ∙ c.in_ok-end_phase.was)
    _ c.in_ok-objects.objects.rows.now c.in_ok-objects.ensures (sym c.end_phase-2.ensures ∙ c.in_ok-end_phase-2.was)
    _ _ (paired (λ facts timed. (facts, timed)) _ _ _ _ _ _ _ _ refl c.in_ok-facts.ensures c.in_ok-items.ensures) (sym c.end_phase-3.ensures ∙ c.in_ok-end_phase-3.was)
    _ _ c.in_ok-goal.ensures (sym c.end_phase-4.ensures ∙ c.in_ok-end_phase-4.was)
    c.in_ok-judge_sizes.ensures.ok
    (record { at = at; code = code }) (rw c.as_slice.ensures at (c.read_events.ensures.refused code at (c.in_err-timed.was ∙ ap Err (sym (rw e at c.from_residual-in_err-timed.ensures).1))))

pub returns-clause-ok : goal.returns-clause-ok
returns-clause-ok c =
    accepted c.args.domain (view c.args.tree.now) _ _ c.problem_parts-parts.ensures (sym c.end_phase.ensures ∙ c.in_ok-end_phase.was)
    _ c.in_ok-objects.objects.rows.now c.in_ok-objects.ensures (sym c.end_phase-2.ensures ∙ c.in_ok-end_phase-2.was)
    _ _ (paired (λ facts timed. (facts, timed)) _ _ _ _ _ _ _ _ refl c.in_ok-facts.ensures c.in_ok-items.ensures) (sym c.end_phase-3.ensures ∙ c.in_ok-end_phase-3.was)
    _ _ c.in_ok-goal.ensures (sym c.end_phase-4.ensures ∙ c.in_ok-end_phase-4.was)
    c.in_ok-judge_sizes.ensures.ok
    _ (rw c.as_slice.ensures at c.in_ok-timed.ensures.events) (rw c.as_slice.ensures at c.in_ok-timed.ensures.ok)
