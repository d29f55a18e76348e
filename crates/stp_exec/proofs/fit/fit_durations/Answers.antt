use Rattle.std.proofs.Common.{◌≡◌, None, length, map, sym, ap, ◌∙◌, arith}
use Rattle.stp_frac.specs.Fractions.{value_of}
use Rattle.stp_exec.specs.TimeViews.{plain_times}
use Rattle.stp_exec.specs.Fitting.{plain_bounds, open_bounds, outside_from}
use Rattle.stp_exec.proofs.TimedSteps.{base_pos}
use Rattle.stp_exec.proofs.Fits.{times_lows, inside_above, bounds_length}
use Rattle.stp_exec.proofs.fit.fit_durations.Goals as goal

pub join_all-requires-clause-low : goal.join_all-requires-clause-low
join_all-requires-clause-low c = omega (arith, c.requires.base, base_pos c.args.times.now)

pub counts-requires-clause-above : goal.counts-requires-clause-above
counts-requires-clause-above c =
    let all = open_bounds (plain_times c.args.times.now) in
    let even : length c.args.durations.now ≡ length all
    = omega (arith, c.if-durations-as_slice.false, ap length c.as_slice.ensures, bounds_length c.in_ok-bounds.bounds (plain_times c.args.times.now) c.in_ok-bounds.ensures) in
    let inside : outside_from 1 all (map value_of c.args.durations.now) ≡ None
    = ap (λ bounds. outside_from 1 bounds (map value_of c.args.durations.now)) (sym (ap (map plain_bounds) c.as_slice-2.ensures ∙ c.in_ok-bounds.ensures))
    ∙ sym c.first_outside.ensures ∙ c.in_default.is in
    inside_above 1 all c.args.durations.now (times_lows c.args.times.now) even inside
