use Rattle.std.proofs.Common.{◌≡◌, ℕ, ◌≤◌, true, map, sym, ap, subst, ◌∙◌, arith}
use Rattle.std.specs.List.{All}
use Rattle.std.proofs.lemmas.Result.{err_from_is_err_and}
use Rattle.stp_schema.specs.Timed.{PlainTimedFact}
use Rattle.stp_ground.specs.Worlds.{problem_in}
use Rattle.stp_exec.specs.Timed.{PlainTimes, base_grid, event_lies_on}
use Rattle.stp_exec.specs.TimeViews.{plain_times}
use Rattle.stp_exec.specs.Placed.{times_of}
use Rattle.stp_exec.specs.Views.{plain_placed}
use Rattle.stp_exec.specs.Plans.{grid_of_plan, box_on}
use Rattle.stp_exec.specs.Boxed.{beyond}
use Rattle.stp_exec.proofs.Limits.{all_placed_timely}
use Rattle.stp_exec.proofs.boxes.box_placed.Goals as goal

pub grid_within-requires : goal.grid_within-requires
grid_within-requires c = omega (arith, c.in_ok-times.ensures.count, c.requires)

pub boxed-requires-clause-timely : goal.boxed-requires-clause-timely
boxed-requires-clause-timely c =
    all_placed_timely c.in_ok-grid.grid c.in_ok-times.times.steps.items c.args.placed.now (ap (λ (t : PlainTimes). t.steps) c.in_ok-times.ensures.times) c.in_ok-grid.ensures.timely

pub boxed-requires-clause-lie : goal.boxed-requires-clause-lie
boxed-requires-clause-lie c =
    subst (All (λ (e : PlainTimedFact). event_lies_on c.in_ok-grid.grid e ≡ true)) (ap (λ (t : PlainTimes). t.events) c.in_ok-times.ensures.times) c.in_ok-grid.ensures.lie

pub returns-in_err-grid-clause-limits : goal.returns-in_err-grid-clause-limits
returns-in_err-grid-clause-limits c =
    let is = err_from_is_err_and c.from_residual-in_err-grid.result c.from_residual-in_err-grid.ensures.1 in
    rw (is.1, is.2) (λ other. ap beyond (sym c.in_ok-times.ensures.times) ∙ c.in_err-grid.ensures.limits)

pub invariant_of-result : goal.invariant_of-result
invariant_of-result c = record {
  base = c.in_ok-boxed.ensures.grid ∙ c.in_ok-grid.ensures.base;
  high = subst (λ (n : ℕ). n ≤ 999999999) (sym c.in_ok-boxed.ensures.grid) c.in_ok-grid.ensures.high;
}

pub returns : goal.returns
returns c =
    let p = problem_in c.args.world.now in
    let placed = map plain_placed c.args.placed.now in
    let times : plain_times c.in_ok-times.times ≡ times_of p placed = c.in_ok-times.ensures.times in
    let base : c.in_ok-grid.grid ≡ grid_of_plan p placed = c.in_ok-grid.ensures.base ∙ ap base_grid times in
    record {
      limits = ap beyond (sym times) ∙ c.in_ok-grid.ensures.limits;
      grid = c.in_ok-boxed.ensures.grid ∙ base;
      high = subst (λ (n : ℕ). n ≤ 999999999) (sym c.in_ok-boxed.ensures.grid) c.in_ok-grid.ensures.high;
      stands = c.in_ok-boxed.ensures.stands ∙ ap (λ (g : ℕ). box_on g p placed) base;
      times = times;
      same = c.in_ok-boxed.ensures.same;
    }
