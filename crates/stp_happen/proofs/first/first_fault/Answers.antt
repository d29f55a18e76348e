use Rattle.std.proofs.Common.{◌≡◌, true, length, sym, ap, ◌∙◌, subst, All}
use Rattle.std.specs.List.Sorted.{IsNonDecreasingBy}
use Rattle.stp_cond.specs.Events.{IsEventInRange}
use Rattle.stp_cond.specs.Truth.{is_below, state_of_row}
use Rattle.stp_happen.specs.Faults.{faults_of}
use Rattle.stp_happen.specs.Runs.{plain_run}
use Rattle.stp_happen.proofs.FaultOrder.{IsFirstOf}
use Rattle.stp_happen.proofs.FirstFaults.{found, none_exactly, some_is_first}
use Rattle.stp_happen.proofs.SoundRuns.{times_ordered, events_in_range, over_in_range, goal_in_range}
use Rattle.stp_happen.proofs.first.first_fault.Goals as goal

pub run_through-firsts-requires-clause-ordered : goal.run_through-firsts-requires-clause-ordered
run_through-firsts-requires-clause-ordered c = subst (IsNonDecreasingBy (λ e. e.time)) (sym c.as_slice-2.ensures) (times_ordered c.args.run.now)

pub run_through-firsts-requires-clause-entries : goal.run_through-firsts-requires-clause-entries
run_through-firsts-requires-clause-entries c =
    subst (λ row. All (λ e. IsEventInRange (length row) e.event) c.as_slice-2.result.now) (sym c.copy_from.ensures)
    (subst (All (λ e. IsEventInRange (length c.args.run.now.initial) e.event)) (sym c.as_slice-2.ensures) (events_in_range c.args.run.now))

pub run_through-firsts-requires-clause-spans : goal.run_through-firsts-requires-clause-spans
run_through-firsts-requires-clause-spans c =
    subst (λ row. All (λ s. is_below (length row) s.over.now ≡ true) c.as_slice-3.result.now) (sym c.copy_from.ensures)
    (subst (All (λ s. is_below (length c.args.run.now.initial) s.over.now ≡ true)) (sym c.as_slice-3.ensures) (over_in_range c.args.run.now))

pub goal_fault-goal-requires : goal.goal_fault-goal-requires
goal_fault-goal-requires c = ap (λ n. is_below n c.args.run.now.goal.now) (c.run_through-firsts.ensures.len ∙ ap length c.copy_from.ensures) ∙ goal_in_range c.args.run.now

-- the result is the first of all faults
is_first : (c : goal.After-sooner-2) → IsFirstOf c.sooner-2.result (faults_of (plain_run c.args.run.now))
is_first c =
    found c.args.run.now c.as_slice-2.result.now c.as_slice.result.now c.as_slice-3.result.now c.copy_from.new.self (state_of_row c.run_through-firsts.new.row)
    c.first_overlap-overlap.result c.run_through-firsts.result.interference c.run_through-firsts.result.condition c.run_through-firsts.result.over_all c.goal_fault-goal.result c.sooner-of_pairs.result c.sooner.result c.sooner-of_entries.result c.sooner-2.result
    c.as_slice-2.ensures c.as_slice.ensures c.as_slice-3.ensures c.copy_from.ensures
    c.first_overlap-overlap.ensures c.run_through-firsts.ensures.interference c.run_through-firsts.ensures.condition c.run_through-firsts.ensures.over_all c.run_through-firsts.ensures.state c.goal_fault-goal.ensures
    c.sooner-of_pairs.ensures c.sooner.ensures c.sooner-of_entries.ensures c.sooner-2.ensures

pub returns-clause-none : goal.returns-clause-none
returns-clause-none c = none_exactly (plain_run c.args.run.now) c.sooner-2.result (is_first c)

pub returns-clause-first : goal.returns-clause-first
returns-clause-first c = some_is_first (plain_run c.args.run.now) c.sooner-2.result (is_first c)
