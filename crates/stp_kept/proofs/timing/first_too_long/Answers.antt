use Rattle.std.proofs.Common.{◌+◌, ◌∙◌, sym, ap, arith, Some}
use Rattle.std.specs.Prelude.{option_map}
use Rattle.stp_task.specs.Durations.{plain_duration}
use Rattle.stp_problem.proofs.First.{place-map, place_found, place_none}
use Rattle.stp_kept.specs.KeptTasks.{is_long}
use Rattle.stp_kept.specs.Views.{instance_view}
use Rattle.stp_kept.proofs.timing.first_too_long.Goals as goal

pub returns-then-is_long : goal.returns-then-is_long
returns-then-is_long c =
    let i = c.loop-instance.invariant in
    let xs = c.args.instances.now in
    ap (λ n. Some (n + 1)) i.number
    ∙ ap (option_map (λ place. place + 1)) (sym (place-map (λ i. is_long i.duration) instance_view xs
    ∙ place_found (λ x. is_long (plain_duration x.duration)) xs c.loop-instance.instance-index c.instance-item.result c.loop-instance-test.true (λ k h. i.before k c.instance-item.result h)
    (ap (λ x. is_long (plain_duration x.duration)) (sym c.instance-item.is) ∙ sym c.is_long.ensures ∙ c.if-is_long.true)))

pub returns : goal.returns
returns c =
    let i = c.loop-instance.invariant in
    let xs = c.args.instances.now in
    ap (option_map (λ place. place + 1)) (sym (place-map (λ i. is_long i.duration) instance_view xs
    ∙ place_none (λ x. is_long (plain_duration x.duration)) xs (λ k d h. i.before k d (omega (arith, h, c.loop-instance-test.false)))))
