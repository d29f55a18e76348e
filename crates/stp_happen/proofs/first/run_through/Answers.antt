use Rattle.std.proofs.Common.{◌≤◌, slice_range, take, drop, get_or, refl, ◌∙◌, arith}
use Rattle.stp_cond.specs.Truth.{state_of_row}
use Rattle.stp_cond.specs.declared.cond.Cond.TheVariants.{True}
use Rattle.stp_happen.specs.Views.{entries_of, run_of}
use Rattle.stp_happen.proofs.MomentSteps.{moment_is, parted, parted_next, taken}
use Rattle.stp_happen.proofs.Through.{state_next, interference_next, condition_next, over_all_next}
use Rattle.stp_happen.proofs.first.run_through.Goals as goal

pub loop-start-preserved : goal.loop-start-preserved
loop-start-preserved c =
    let entries = c.args.entries.now in
    let start = c.loop-start.start in
    let end = c.moment_end-end.result in
    let ends = c.moment_end-end.ensures in
    let kept = c.loop-start.invariant in
    let then = c.take_moment-firsts.ensures in
    let run = run_of entries c.args.spans.now c.args.row.now True in
    let D = entries_of (take start entries) in
    let M = entries_of (slice_range entries start end) in
    let L = entries_of (drop end entries) in
    let T = entries_of (take end entries) in
    let up : start ≤ end = omega (arith, ends.within.0) in
    let is = moment_is entries start end c.index-entries-start.result (get_or entries start c.index-entries-start.result).time ends.within.0 ends.within.1 refl kept.parted ends.same ends.later in
    let parts = parted entries start end up in
    let all = taken entries start end up in
    let row = state_next (state_of_row c.args.row.now) T D M L _ is all (state_of_row c.loop-start.row) (state_of_row c.take_moment-firsts.new.row) kept.state then.state in
    record {
      within = ends.within.1;
      len = then.len ∙ kept.len;
      parted = parted_next entries start end up (omega (arith, ends.within.1)) kept.parted ends.same ends.later;
      state = row;
      interference = interference_next (entries_of entries) T D M L _ is parts all c.loop-start.firsts.interference c.take_moment-firsts.result.interference kept.interference then.interference;
      condition = condition_next run T D M L _ is parts all (state_of_row c.loop-start.row) kept.state c.loop-start.firsts.condition c.take_moment-firsts.result.condition kept.condition then.condition;
      over_all = over_all_next run T D M L _ is parts all (state_of_row c.take_moment-firsts.new.row) row c.loop-start.firsts.over_all c.take_moment-firsts.result.over_all kept.over_all then.over_all;
    }
