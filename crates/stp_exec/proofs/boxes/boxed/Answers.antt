use Rattle.std.proofs.Common.{◌≡◌, ℕ, true, length, map, sym, ap, subst, ◌∙◌}
use Rattle.std.specs.List.{All}
use Rattle.std.proofs.lemmas.List.{length-map}
use Rattle.stp_schema.specs.Views.{PlainProblem}
use Rattle.stp_cond.specs.Formulas.{view}
use Rattle.stp_cond.specs.Truth.{is_below}
use Rattle.stp_ground.specs.Problems.{is_fact, goal_of}
use Rattle.stp_ground.specs.Ground.{left_of}
use Rattle.stp_ground.specs.Worlds.{problem_in}
use Rattle.stp_happen.specs.StepViews.{steps_of, timed_of}
use Rattle.stp_happen.specs.SoundBox.{IsBoxStep, IsBoxTimed}
use Rattle.stp_exec.specs.Timed.{event_lies_on}
use Rattle.stp_exec.specs.Plans.{step_in, timed_in}
use Rattle.stp_exec.specs.Views.{plain_placed}
use Rattle.stp_exec.proofs.Boxing.{box_is}
use Rattle.stp_exec.proofs.boxes.boxed.Goals as goal

pub box_events-requires-clause-lie : goal.box_events-requires-clause-lie
box_events-requires-clause-lie c =
    let same : problem_in c.goal_in.new.world ≡ problem_in c.args.world.now = c.in_ok-left.ensures.same ∙ c.in_ok-table.ensures.same in
    subst (λ (p : PlainProblem). All (λ e. event_lies_on c.args.grid e ≡ true) p.timed) (sym same) c.requires.lie

pub invariant_of-result : goal.invariant_of-result
invariant_of-result c =
    let table = c.in_ok-table.table in
    let initial = c.in_ok-initial.initial in
    let long : length table ≡ length initial = sym (ap length c.in_ok-initial.ensures ∙ length-map table (is_fact (problem_in c.goal_in.new.world))) in
    record {
      sound = ∣ record {
        grid_low = c.requires.low;
        grid_high = c.requires.high;
        few = c.in_ok-steps.ensures.few;
        few_fixed = c.in_ok-timed.ensures.few_fixed;
        few_chosen = c.in_ok-timed.ensures.few_chosen;
        steps_in_range = subst (λ (n : ℕ). All (IsBoxStep c.args.grid n) c.in_ok-steps.steps) long c.in_ok-steps.ensures.sound;
        timed_in_range = subst (λ (n : ℕ). All (IsBoxTimed c.args.grid n) c.in_ok-timed.timed) long c.in_ok-timed.ensures.sound;
        timed_ordered = c.in_ok-timed.ensures.ordered;
        goal_in_range = ap (is_below (length initial)) c.in_ok-goal.ensures ∙ ap (λ (n : ℕ). is_below n c.in_ok-left.left) (sym long) ∙ c.in_ok-left.ensures.in_range;
      } ∣₁;
    }

pub returns-clause-stands : goal.returns-clause-stands
returns-clause-stands c =
    let p = problem_in c.args.world.now in
    let table = c.in_ok-table.table in
    let placed = map plain_placed c.args.placed.now in
    let first : problem_in c.number_plan.new.world ≡ p = c.in_ok-table.ensures.same in
    let second : problem_in c.goal_in.new.world ≡ p = c.in_ok-left.ensures.same ∙ first in
    box_is p table c.args.grid placed (steps_of c.in_ok-steps.steps) (timed_of c.in_ok-timed.timed) c.in_ok-initial.initial c.in_ok-goal.goal.now
    c.in_ok-table.ensures.atoms
    (c.in_ok-steps.ensures.stand ∙ ap (λ (r : PlainProblem). map (step_in r table c.args.grid placed) placed) second)
    (c.in_ok-timed.ensures.stand ∙ ap (λ (r : PlainProblem). map (timed_in table c.args.grid) r.timed) second)
    (c.in_ok-initial.ensures ∙ ap (λ (r : PlainProblem). map (is_fact r) table) second)
    (ap view c.in_ok-goal.ensures ∙ c.in_ok-left.ensures.left ∙ ap (λ (r : PlainProblem). left_of r table (goal_of r)) first)
