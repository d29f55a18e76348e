use Rattle.std.proofs.Common.{◌≡◌, sym, refl, ◌∙◌}
use Rattle.std.specs.Prelude.{is_some}
use Rattle.stp_task.specs.Durations.{plain_duration}
use Rattle.stp_ground.specs.Ground.{action_by}
use Rattle.stp_ground.specs.Views.{chosen_view}
use Rattle.stp_ground.specs.Worlds.{problem_in}
use Rattle.stp_exec.specs.Held.{plain_held}
use Rattle.stp_exec.specs.Timed.{plain_timed}
use Rattle.stp_exec.specs.Times.{takes_time}
use Rattle.stp_exec.specs.Plans.{step_with}
use Rattle.stp_exec.proofs.Stepping.{step_is, finish_is, lasting_is, certain_is, instant_is}
use Rattle.stp_exec.proofs.steps.box_step.Goals as goal

pub returns-clause-stands : goal.returns-clause-stands
returns-clause-stands c =
    step_is c.moments_on-moments.result c.is_open-uncertain.result c.key_of-key.result c.in_ok-action.action
    ∙ (λ i. step_with (c.moments_on-moments.ensures.value i) (c.is_open-uncertain.ensures i) (c.key_of-key.ensures i) (c.in_ok-action.ensures.action i))

pub returns-clause-sound : goal.returns-clause-sound
returns-clause-sound c =
    let step = c.args.step.now in
    let time = plain_timed step.timed in
    let held = plain_held step.timed.held in
    let moments = c.moments_on-moments.result in
    let action = c.in_ok-action.action in
    let finish : is_some action.finish ≡ takes_time held = finish_is action (action_by (problem_in c.args.world.now) c.args.table.now (chosen_view step.chosen)) (plain_duration step.chosen.duration) held c.in_ok-action.ensures.action refl step.fitting in
    record {
      up = c.moments_on-moments.ensures.order.1;
      high = c.moments_on-moments.ensures.bound c.requires.timely.early;
      certain = λ e. certain_is c.args.grid time moments c.moments_on-moments.ensures.value (sym c.is_open-uncertain.ensures ∙ e);
      lasting = lasting_is action.finish held moments.start moments.low finish c.moments_on-moments.ensures.lasts;
      instant = λ e. let both = instant_is c.args.grid time moments c.moments_on-moments.ensures.value action.finish finish e in (both.0, c.is_open-uncertain.ensures ∙ both.1);
      first_in_range = c.in_ok-action.ensures.in_range.start;
      last_in_range = c.in_ok-action.ensures.in_range.finish;
      over_in_range = c.in_ok-action.ensures.in_range.over;
    }
