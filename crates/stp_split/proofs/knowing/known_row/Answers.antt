use Rattle.std.proofs.Common.{length, ◌∙◌, subst}
use Rattle.std.proofs.lemmas.List.{take_all}
use Rattle.stp_cond.specs.Truth.{state_of_row}
use Rattle.stp_split.proofs.KnownRows.{KnownPast, KeptPast, past_more, past_all, kept_more, kept_all}
use Rattle.stp_split.proofs.knowing.known_row.Goals as goal

pub loop-end-preserved : goal.loop-end-preserved
loop-end-preserved c = record {
  len = c.forget-in-loop-end.ensures.len ∙ (c.forget.ensures.len ∙ c.loop-end.invariant.len);
  past =
      past_more c.args.ends.now c.loop-end.end-index c.end-item.result c.loop-end.known.items c.forget.new.known.items c.forget-in-loop-end.new.known.items (state_of_row c.args.row.now) c.loop-end-test.true c.end-item.is
      c.forget.ensures.known c.forget-in-loop-end.ensures.known c.loop-end.invariant.past;
  kept =
      kept_more c.args.ends.now c.loop-end.end-index c.end-item.result (length c.args.row.now) c.loop-end.known.items c.forget.new.known.items c.forget-in-loop-end.new.known.items (state_of_row c.args.row.now) c.loop-end-test.true c.end-item.is
      c.forget.ensures.known c.forget-in-loop-end.ensures.known c.loop-end.invariant.kept;
}

pub returns-clause-known : goal.returns-clause-known
returns-clause-known c =
    past_all c.loop-end.known.items c.args.ends.now (state_of_row c.args.row.now)
    (subst (λ ws. KnownPast c.loop-end.known.items ws (state_of_row c.args.row.now)) (take_all c.loop-end.end-index c.args.ends.now c.loop-end-test.false) c.loop-end.invariant.past)

pub returns-clause-kept : goal.returns-clause-kept
returns-clause-kept c =
    kept_all c.loop-end.known.items c.args.ends.now (length c.args.row.now) (state_of_row c.args.row.now)
    (subst (λ ws. KeptPast c.loop-end.known.items ws (length c.args.row.now) (state_of_row c.args.row.now)) (take_all c.loop-end.end-index c.args.ends.now c.loop-end-test.false) c.loop-end.invariant.kept)
