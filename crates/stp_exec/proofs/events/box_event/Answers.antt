use Rattle.std.proofs.Common.{ℕ, ◌*◌, ◌≤◌, sym, ap, subst, ◌∙◌, arith}
use Rattle.stp_schema.specs.Timed.{timed_fact_of}
use Rattle.stp_exec.specs.Timed.{count_of}
use Rattle.stp_exec.specs.Plans.{event_in}
use Rattle.stp_exec.proofs.EventMoments.{high_above, moments_up, moments_same, moment_early}
use Rattle.stp_exec.proofs.Stepping.{event_is}
use Rattle.stp_exec.proofs.events.box_event.Goals as goal

pub count-high-requires-clause-above : goal.count-high-requires-clause-above
count-high-requires-clause-above c = high_above c.args.grid (omega (arith, c.requires.low)) (timed_fact_of c.args.event.now) c.requires.kept c.requires.lies

pub returns-clause-stands : goal.returns-clause-stands
returns-clause-stands c = λ i. record {
  low = c.count-low.ensures.value i;
  high = c.count-high.ensures.value i;
  uncertain = c.is_chosen-uncertain.ensures i;
  event = (event_is c.in_ok-happens.happens ∙ ap event_in c.in_ok-happens.ensures.event) i;
}

pub returns-clause-sound : goal.returns-clause-sound
returns-clause-sound c =
    let e = timed_fact_of c.args.event.now in
    let grid = c.args.grid in
    record {
      up = subst (λ (n : ℕ). n ≤ c.count-high.result) (sym c.count-low.ensures.value)
          (subst (λ (n : ℕ). count_of grid e.low ≤ n) (sym c.count-high.ensures.value) (moments_up grid (omega (arith, c.requires.low)) e c.requires.kept c.requires.lies));
      high = subst (λ (n : ℕ). n ≤ 100000000 * grid) (sym c.count-high.ensures.value) (moment_early grid (omega (arith, c.requires.low)) e c.requires.kept c.requires.lies);
      certain = λ h. c.count-low.ensures.value ∙ moments_same grid (omega (arith, c.requires.low)) e c.requires.kept c.requires.lies (sym c.is_chosen-uncertain.ensures ∙ h) ∙ sym c.count-high.ensures.value;
      event_in_range = c.in_ok-happens.ensures.in_range;
    }
