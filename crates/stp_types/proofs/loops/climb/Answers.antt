use Rattle.std.proofs.Common.{◌≡◌, length, length-set, ◌∙◌, sym, ap, ◌<◌, inl, inr, arith}
use Rattle.std.specs.Prelude.{slice_index}
use Rattle.stp_types.specs.Forest.{parent_of}
use Rattle.stp_types.proofs.Marking.{put, put_some, put_some_here, below_more}
use Rattle.stp_types.proofs.loops.climb.Goals as goal

pub loop-at-preserved : goal.loop-at-preserved
loop-at-preserved c =
    let i = c.loop-at.invariant in
    let p = c.args.parents.now in
    let at = c.loop-at.at in
    let old = c.loop-at.marks in
    let start = c.args.start in
    let h : at < length old = omega arith in
    let none : slice_index old at ≡ 0 = c.if-marks-at-eq0.true in
    let some : 0 < start = c.requires.positive in
    record {
      len = length-set old at _ ∙ i.len;
      within = c.requires.table.within at i.within;
      marked = λ k there. elim (put old at k start 0 h) [
        | inl w ↦ inr (
          elim (i.marked at i.within) [
            | inl same ↦ ap (slice_index c.args.marks.now) w.0 ∙ sym same ∙ none
            | inr v ↦ ap (slice_index c.args.marks.now) w.0 ∙ v.0
          ],
          w.1,
          λ e. c.loop-at-test.true (sym w.0 ∙ e),
        )
        | inr w ↦ elim (i.marked k there) [
          | inl same ↦ inl (w.1 ∙ same)
          | inr v ↦ inr (v.0, w.1 ∙ v.1, v.2)
        ]
      ];
      leads = λ k there was now. elim (put old at k start 0 h) [
        | inl w ↦ (0, ap (parent_of p) w.0)
        | inr w ↦ below_more p (parent_of p k) at (i.leads k there was (sym w.1 ∙ now))
      ];
      upwards = λ k there was now. elim (put old at k start 0 h) [
        | inl w ↦ inl (ap (parent_of p) w.0)
        | inr w ↦ elim (i.upwards k there was (sym w.1 ∙ now)) [
          | inl e ↦ inr (put_some_here old at (parent_of p k) start h some e)
          | inr v ↦ inr (put_some old at (parent_of p k) start h some v)
        ]
      ];
      begun = elim i.begun [
        | inl e ↦ inr (put_some_here old at start start h some e)
        | inr w ↦ inr (put_some old at start start h some w)
      ];
    }
