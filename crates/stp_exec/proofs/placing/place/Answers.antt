use Rattle.std.proofs.Common.{◌≡◌, ◌+◌, ◌<◌, ◌≤◌, List, length, map, get_or, Ok, refl, sym, ap, subst, ◌∙◌, arith}
use Rattle.std.proofs.lemmas.List.{length-map, length_push}
use Rattle.std.proofs.lemmas.Result.{err_from_is_err_and}
use Rattle.stp_plan.specs.Views.{plain_step, plain_plan}
use Rattle.stp_schema.specs.Views.{PlainProblem}
use Rattle.stp_ground.specs.Worlds.{problem_in}
use Rattle.stp_exec.specs.declared.placed.Placed.{Placed}
use Rattle.stp_exec.specs.Placed.{placed_step, placed_from}
use Rattle.stp_exec.specs.Views.{plain_placed}
use Rattle.stp_exec.proofs.PlacedSteps.{IsPlacedSoFar, placed_none, placed_next, placed_fault, placed_done, placed_is_plan, start_above}
use Rattle.stp_exec.proofs.placing.place.Goals as goal

pub loop-index-init : goal.loop-index-init
loop-index-init c = record {
  placed = subst (λ (l : List Placed). IsPlacedSoFar (problem_in c.args.world.now) c.args.plan.now.steps 0 l) (sym c.new-placed.ensures) (placed_none (problem_in c.args.world.now) c.args.plan.now.steps);
  count = ap length c.new-placed.ensures;
  same = refl;
}

pub place_step-requires : goal.place_step-requires
place_step-requires c =
    let i = c.loop-index.index in
    let step = c.step-item.result in
    let h : i < length c.args.plan.now.steps = omega (arith, c.loop-index-test.true, ap length c.as_slice-step-items.ensures) in
    start_above c.args.plan.now.steps i step c.requires.starts h (sym (c.step-item.is ∙ ap (λ l. get_or l i step) c.as_slice-step-items.ensures))

pub returns-in_err-place_step-clause-placed : goal.returns-in_err-place_step-clause-placed
returns-in_err-place_step-clause-placed c =
    let p = problem_in c.args.world.now in
    let i = c.loop-index.index in
    let step = c.step-item.result in
    let h : i < length c.args.plan.now.steps = omega (arith, c.loop-index-test.true, ap length c.as_slice-step-items.ensures) in
    let is = err_from_is_err_and c.from_residual.result c.from_residual.ensures.1 in
    rw (is.1, is.2)
    (λ other.
    placed_fault p c.args.plan.now.steps i step h (sym (c.step-item.is ∙ ap (λ l. get_or l i step) c.as_slice-step-items.ensures)) c.loop-index.placed c.in_err-place_step.field-0.0
    (ap (λ (r : PlainProblem). placed_step (i + 1) r (plain_step step)) (sym c.loop-index.invariant.same) ∙ c.in_err-place_step.ensures.placed other)
    c.loop-index.invariant.placed)

pub loop-index-preserved : goal.loop-index-preserved
loop-index-preserved c =
    let p = problem_in c.args.world.now in
    let steps = c.args.plan.now.steps in
    let i = c.loop-index.index in
    let step = c.step-item.result in
    let h : i < length steps = omega (arith, c.loop-index-test.true, ap length c.as_slice-step-items.ensures) in
    record {
      placed = subst (λ (l : List Placed). IsPlacedSoFar p steps (i + 1) l) (sym c.in_ok-push.ensures.ok)
          (placed_next p steps i step h (sym (c.step-item.is ∙ ap (λ l. get_or l i step) c.as_slice-step-items.ensures)) c.loop-index.placed c.in_ok-place_step.field-0
          (ap (λ (r : PlainProblem). placed_step (i + 1) r (plain_step step)) (sym c.loop-index.invariant.same) ∙ c.in_ok-place_step.ensures.placed)
          c.loop-index.invariant.placed);
      count = ap length c.in_ok-push.ensures.ok ∙ length_push c.loop-index.placed c.in_ok-place_step.field-0 ∙ ap (λ n. n + 1) c.loop-index.invariant.count;
      same = c.in_ok-place_step.ensures.same ∙ c.loop-index.invariant.same;
    }

pub returns : goal.returns
returns c =
    let p = problem_in c.args.world.now in
    let steps = c.args.plan.now.steps in
    let h : length steps ≤ c.loop-index.index = omega (arith, c.loop-index-test.false, ap length c.as_slice-step-items.ensures) in
    let done : placed_from 1 p (plain_plan c.args.plan.now) ≡ Ok (map plain_placed c.loop-index.placed) = placed_done p steps c.loop-index.index c.loop-index.placed h c.loop-index.invariant.placed in
    record {
      placed = done;
      plan = placed_is_plan p (plain_plan c.args.plan.now) c.loop-index.placed done c.requires.starts;
      few = omega (arith, c.loop-index.invariant.count, c.loop-index.auto.index-end, ap length c.as_slice-step-items.ensures, length-map steps plain_step, c.requires.few);
      same = c.loop-index.invariant.same;
    }
