-- Runs under durations that fit a case.
use Rattle.std.proofs.Common.{◌≡◌, ℕ, zero, suc, ◌*◌, ◌/◌, ◌<◌, List, map, All, Option, Some, None, Ok, Bor, refl, sym, ap, subst, ◌∙◌, arith, mul_comm}
use Rattle.std.specs.Prelude.{◌↔◌, IsNone, IfSome, MatchOption}
use Prim.Native.Nat.{◌∣◌}
use Rattle.std.proofs.Math.Nat.{div-mul_cancel, dvd_refl}
use Rattle.std.proofs.lemmas.List.Elements.{All-map}
use Rattle.stp_frac.specs.Fractions.{value_of}
use Rattle.stp_frac.specs.declared.frac.Frac.{Frac}
use Rattle.stp_frac.proofs.Divisors.{lcm_multiple_left, lcm_pos}
use Rattle.stp_happen.specs.Plain.{PlainRun, Executes}
use Rattle.stp_happen.specs.Faults.{IsFirstFault}
use Rattle.stp_happen.specs.Orders.{IsInSomeOrder}
use Rattle.stp_happen.specs.Runs.{plain_run}
use Rattle.stp_happen.specs.BoxViews.{plain_box}
use Rattle.stp_happen.specs.Boxes.{PlainBox, IsVector, run_under, finer_box}
use Rattle.stp_happen.specs.declared.run.Run.{Run}
use Rattle.stp_happen.specs.declared.fault.Fault.{Fault}
use Rattle.stp_report.specs.declared.answer.Answer.{Answer}
use Rattle.stp_report.specs.declared.answer.Answer.TheVariants as answers
use Rattle.stp_report.specs.Bounds.{IsFaultTime}
use Rattle.stp_report.proofs.FaultTimes.{fault_times}
use Rattle.stp_exec.specs.declared.boxed_plan.BoxedPlan.{BoxedPlan}
use Rattle.stp_exec.specs.declared.times.Times.{Times}
use Rattle.stp_exec.specs.Lists.{durations_in}
use Rattle.stp_exec.specs.Timed.{PlainTimes, base_grid, count_of, plain_timed}
use Rattle.stp_exec.specs.TimeViews.{plain_times}
use Rattle.stp_exec.specs.Placed.{step_times}
use Rattle.stp_exec.specs.Fitting.{judge_list, grid_with}
use Rattle.stp_exec.proofs.Bounds.{Lies}
use Rattle.stp_exec.proofs.TimedSteps.{base_pos, steps_lie, events_lie}
use Rattle.stp_exec.proofs.Fits.{common, common_positive, met_lie}
use Rattle.stp_exec.specs.Plans.{atoms_of_plan}
use Rattle.stp_cli.specs.Case.{PlainCase, times_of, grid_of, box_of}
use Rattle.stp_cli.specs.Cases.{StandsFor}
use Rattle.stp_cli.specs.Replay.{list_read, IsRunWith, IsReplayedCase}
use Rattle.stp_cli.proofs.Vectors.{IsOn, IsEventOn, fitting, judged_well}

-- ---- runs

-- the first fault of a run has a time
pub some_times : (run : Run) (o : Option Fault) → IfSome o (IsFirstFault (plain_run run)) → IfSome o (IsFaultTime run.grid)
some_times run None h = tt
some_times run (Some f) h = fault_times run f h

judged_by : (run other : PlainRun) (fault : Option Fault) → Executes run ↔ Executes other → ((f : Fault) → IsFirstFault run f ↔ IsFirstFault other f) → IsNone fault ↔ Executes run → IfSome fault (IsFirstFault run) → MatchOption fault (Executes other) (IsFirstFault other)
judged_by run other None same faults none first = same.0 (none.0 refl)
judged_by run other (Some f) same faults none first = (faults f).0 first

-- the run of a box, and its first fault
pub run_with : (grid : ℕ) (box : PlainBox) (durations : List ℕ) (run : Run) (fault : Option Fault) → run.grid ≡ grid → IsInSomeOrder (plain_run run) (run_under box durations)
    → Executes (plain_run run) ↔ Executes (run_under box durations) → ((f : Fault) → IsFirstFault (plain_run run) f ↔ IsFirstFault (run_under box durations) f)
    → IsNone fault ↔ Executes (plain_run run) → IfSome fault (IsFirstFault (plain_run run))
    → (shown : Bor Run) → shown.now ≡ run → (answer : Answer) → answer ≡ answers.Replay shown fault → IsRunWith grid box durations answer
run_with grid box durations run fault g order same faults none first shown is answer e = record {
  run = shown;
  fault = fault;
  on_grid = ap (λ (r : Run). r.grid) is ∙ g;
  same = subst (λ (r : Run). IsInSomeOrder (plain_run r) (run_under box durations)) (sym is) order;
  judged = judged_by (plain_run run) (run_under box durations) fault same faults none first;
  answered = e;
}

-- ---- the grid

module _ (c : PlainCase) (times : Times) (are : plain_times times ≡ times_of c) (ds : List Frac) where
  abbrev pub whole : ℕ
  whole = grid_with (times_of c) (map value_of ds)

  abbrev pub factor : ℕ
  factor = whole / grid_of c

  grid_pos : 0 < grid_of c
  grid_pos = subst (λ (t : PlainTimes). 0 < base_grid t) are (base_pos times)

  grid_divides : grid_of c ∣ whole
  grid_divides = lcm_multiple_left (grid_of c) (common ds) grid_pos (common_positive ds)

  factor_times : factor * grid_of c ≡ whole
  factor_times = div-mul_cancel (grid_of c) grid_divides

  pub times_factor : grid_of c * factor ≡ whole
  times_factor = mul_comm (grid_of c) factor ∙ factor_times

  whole_pos : 0 < whole
  whole_pos = lcm_pos (grid_of c) (common ds) grid_pos (common_positive ds)

  positive : (k g n : ℕ) → k * g ≡ n → 0 < n → 0 < k
  positive zero g n e h = absurd (omega (arith, e, h))
  positive (suc k) g n e h = omega arith

  pub factor_pos : 0 < factor
  factor_pos = positive factor (grid_of c) whole factor_times whole_pos

  -- ---- the vector

  base_divides : base_grid (plain_times times) ∣ grid_of c
  base_divides = subst (λ (t : PlainTimes). base_grid (plain_times times) ∣ base_grid t) are (dvd_refl (base_grid (plain_times times)))

  steps_on : All (IsOn (grid_of c)) (step_times c.steps)
  steps_on =
      subst (All (IsOn (grid_of c))) (ap (λ (t : PlainTimes). t.steps) are)
      (All-map (IsOn (grid_of c)) plain_timed times.steps.items (λ k d h. (steps_lie times (grid_of c) base_divides k d h, times.lawful k d h)))

  events_on : All (IsEventOn (grid_of c)) c.problem.timed
  events_on =
      subst (All (IsEventOn (grid_of c))) (ap (λ (t : PlainTimes). t.events) are)
      (λ k d h. (times.kept.each k d h, events_lie times (grid_of c) base_divides k d h))

  all_lie : All (Lies (factor * grid_of c)) (map value_of ds)
  all_lie = subst (λ n. All (Lies n) (map value_of ds)) (sym factor_times) (All-map (Lies whole) value_of ds (met_lie (grid_of c) whole ds grid_pos refl))

  pub fitted_vector : judge_list (times_of c) (map value_of ds) ≡ None → IsVector (finer_box factor (box_of c)).owners (map (count_of whole) (map value_of ds))
  fitted_vector judged =
      let well = judged_well (times_of c) (map value_of ds) judged in
      subst (λ n. IsVector (finer_box factor (box_of c)).owners (map (count_of n) (map value_of ds))) factor_times
      (fitting factor (grid_of c) factor_pos grid_pos c.problem (atoms_of_plan c.problem c.steps) c.steps (map value_of ds) steps_on events_on all_lie well.0 well.1)

  pub replayed : (text : List ℕ) (answer : Answer) → list_read (durations_in text) ≡ Ok (map value_of ds) → judge_list (times_of c) (map value_of ds) ≡ None → IsRunWith whole (finer_box factor (box_of c)) (map (count_of whole) (map value_of ds)) answer → IsReplayedCase text c answer
  replayed text answer read judged run = rw (read, judged) (record { factor = factor; finer = times_factor; shown = run })

-- ---- the same of a case in an arena

module _ (made : BoxedPlan) (c : PlainCase) (s : StandsFor made c) where
  pub base_is : made.boxed.grid ≡ base_grid (plain_times made.times)
  base_is = s.grid ∙ ap base_grid (sym s.times)

  module _ (ds : List Frac) (grid : ℕ) (is_grid : grid ≡ grid_with (plain_times made.times) (map value_of ds)) where
    grid_whole : grid ≡ whole c made.times s.times ds
    grid_whole = is_grid ∙ ap (λ ts. grid_with ts (map value_of ds)) s.times

    factor_is : grid / made.boxed.grid ≡ factor c made.times s.times ds
    factor_is = ap (λ n. n / made.boxed.grid) grid_whole ∙ ap (λ n. whole c made.times s.times ds / n) s.grid

    pub made_factor_pos : 0 < grid / made.boxed.grid
    made_factor_pos = subst (λ n. 0 < n) (sym factor_is) (factor_pos c made.times s.times ds)

    pub made_whole : made.boxed.grid * (grid / made.boxed.grid) ≡ grid
    made_whole = ap (λ n. n * (grid / made.boxed.grid)) s.grid ∙ ap (λ n. grid_of c * n) factor_is ∙ times_factor c made.times s.times ds ∙ sym grid_whole

    module _ (judged : judge_list (plain_times made.times) (map value_of ds) ≡ None) where
      judged_c : judge_list (times_of c) (map value_of ds) ≡ None
      judged_c = ap (λ ts. judge_list ts (map value_of ds)) (sym s.times) ∙ judged

      same_box : finer_box (grid / made.boxed.grid) (plain_box made.boxed) ≡ finer_box (factor c made.times s.times ds) (box_of c)
      same_box = ap (λ n. finer_box n (plain_box made.boxed)) factor_is ∙ ap (finer_box (factor c made.times s.times ds)) s.box

      same_counts : map (count_of grid) (map value_of ds) ≡ map (count_of (whole c made.times s.times ds)) (map value_of ds)
      same_counts = ap (λ n. map (count_of n) (map value_of ds)) grid_whole

      pub made_vector : (durations : List ℕ) → durations ≡ map (count_of grid) (map value_of ds) → IsVector (finer_box (grid / made.boxed.grid) (plain_box made.boxed)).owners durations
      made_vector durations are =
          subst (λ (b : PlainBox). IsVector b.owners durations) (sym same_box)
          (subst (IsVector (finer_box (factor c made.times s.times ds) (box_of c)).owners) (sym (are ∙ same_counts)) (fitted_vector c made.times s.times ds judged_c))

      pub made_replayed : (text durations : List ℕ) (answer : Answer) → list_read (durations_in text) ≡ Ok (map value_of ds) → durations ≡ map (count_of grid) (map value_of ds)
          → IsRunWith (made.boxed.grid * (grid / made.boxed.grid)) (finer_box (grid / made.boxed.grid) (plain_box made.boxed)) durations answer → IsReplayedCase text c answer
      made_replayed text durations answer read are run =
          replayed c made.times s.times ds text answer read judged_c
          (subst (λ n. IsRunWith n (finer_box (factor c made.times s.times ds) (box_of c)) (map (count_of (whole c made.times s.times ds)) (map value_of ds)) answer) (made_whole ∙ grid_whole)
          (subst (λ (b : PlainBox). IsRunWith (made.boxed.grid * (grid / made.boxed.grid)) b (map (count_of (whole c made.times s.times ds)) (map value_of ds)) answer) same_box
          (subst (λ l. IsRunWith (made.boxed.grid * (grid / made.boxed.grid)) (finer_box (grid / made.boxed.grid) (plain_box made.boxed)) l answer) (are ∙ same_counts) run)))
