use Rattle.std.proofs.Common.{All, ap, subst, sym, ◌∙◌, map}
use Rattle.std.proofs.Math.Logic.{∥∥₁_map}
use Rattle.stp_cond.specs.Truth.{meaning_of, state_of_row}
use Rattle.stp_happen.specs.SoundBox.{IsBoxStep, IsBoxTimed}
use Rattle.stp_happen.specs.Owners.{finer_step, finer_timed}
use Rattle.stp_happen.specs.StepViews.{step_of, steps_of, plain_timed, timed_of}
use Rattle.stp_happen.proofs.Refining.{IsRefined, refined_box, refined_is_finer, small_events}
use Rattle.stp_happen.proofs.refine.refine.Goals as goal

-- a moment of an event is at most 999,999,999 units on the grid
pub refined_events-requires-clause-small : goal.refined_events-requires-clause-small
refined_events-requires-clause-small c = small_events c.args.boxed.now c.as_slice-2.result.now c.as_slice-2.ensures

-- both lists are refined, so the box keeps what boxes keep
pub invariant_of-result : goal.invariant_of-result
invariant_of-result c =
    let box = c.args.boxed.now in
    let k = c.args.factor in
    let news = c.in_ok-steps.steps in
    let events = c.in_ok-timed.timed in
    let steps : IsRefined step_of (finer_step k) IsBoxStep box.grid k box.steps news = record {
      same = c.in_ok-steps.ensures.same ∙ ap (λ l. map (finer_step k) (steps_of l)) c.as_slice.ensures;
      keeps = λ n h. c.in_ok-steps.ensures.in_range box.grid n (subst (All (IsBoxStep box.grid n)) (sym c.as_slice.ensures) h);
    } in
    let timed : IsRefined plain_timed (finer_timed k) IsBoxTimed box.grid k box.timed events = record {
      same = c.in_ok-timed.ensures.same ∙ ap (λ l. map (finer_timed k) (timed_of l)) c.as_slice-2.ensures;
      keeps = λ n h. c.in_ok-timed.ensures.in_range box.grid n (subst (All (IsBoxTimed box.grid n)) (sym c.as_slice-2.ensures) h);
    } in
    record { sound = ∥∥₁_map box.sound (λ b. refined_box box.grid k box.steps news box.timed events box.initial c.in_ok-initial.initial box.goal.now c.requires.factor c.requires.grid b steps timed c.in_ok-initial.ensures) }

-- the owners of finer steps and events are the finer owners
pub returns-clause-same : goal.returns-clause-same
returns-clause-same c =
    let box = c.args.boxed.now in
    let k = c.args.factor in
    refined_is_finer k (steps_of box.steps) (steps_of c.in_ok-steps.steps) (timed_of box.timed) (timed_of c.in_ok-timed.timed) (state_of_row box.initial) (state_of_row c.in_ok-initial.initial) (meaning_of box.goal.now)
    (c.in_ok-steps.ensures.same ∙ ap (λ l. map (finer_step k) (steps_of l)) c.as_slice.ensures)
    (c.in_ok-timed.ensures.same ∙ ap (λ l. map (finer_timed k) (timed_of l)) c.as_slice-2.ensures)
    (ap state_of_row c.in_ok-initial.ensures)
