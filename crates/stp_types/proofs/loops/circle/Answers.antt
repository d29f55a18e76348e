use Rattle.std.proofs.Common.{length, length-set, ◌∙◌, sym, ap, subst, ℕ, ◌<◌, inl, inr, arith}
use Rattle.stp_types.specs.Forest.{parent_of, IsBelow}
use Rattle.stp_types.proofs.Marking.{put_true, put_here, was_true, below_more}
use Rattle.stp_types.proofs.loops.circle.Goals as goal

pub loop-looped-preserved : goal.loop-looped-preserved
loop-looped-preserved c =
    let i = c.loop-looped.invariant in
    let p = c.args.parents.now in
    let at = c.loop-looped.at in
    let old = c.loop-looped.looped in
    let h : at < length old = omega arith in
    record {
      len = length-set old at _ ∙ i.len;
      within = c.requires.table.within at i.within;
      here = below_more p c.args.start at i.here;
      kept = λ k there was. put_true old at k h (i.kept k there was);
      marked = λ k there m. elim (was_true old at k h m) [
        | inl e ↦ inr (subst (λ (x : ℕ). IsBelow p c.args.start x) (sym e) i.here)
        | inr w ↦ i.marked k there w
      ];
      closed = λ k there m. elim (was_true old at k h m) [
        | inl e ↦ inl (ap (parent_of p) e)
        | inr w ↦ elim (i.closed k there w) [
          | inl e ↦ inr (put_here old at (parent_of p k) h e)
          | inr v ↦ inr (put_true old at (parent_of p k) h v)
        ]
      ];
      begun = elim i.begun [
        | inl e ↦ inr (put_here old at c.args.start h e)
        | inr w ↦ inr (put_true old at c.args.start h w)
      ];
    }
