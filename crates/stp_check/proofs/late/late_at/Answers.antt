use Rattle.std.proofs.Common.{length, ◌<◌, ◌≤◌, All, Contains, sym, ◌∙◌, subst, arith}
use Rattle.std.proofs.lemmas.List.{take_all}
use Rattle.std.proofs.lemmas.List.Elements.{All-more}
use Rattle.stp_window.specs.Views.{span_of}
use Rattle.stp_check.specs.Ends.{IsJudged}
use Rattle.stp_check.specs.Late.{numbers_of, IsBroken}
use Rattle.stp_check.proofs.Inside.{member_answered, members_below, not_due}
use Rattle.stp_check.proofs.Moments.{found_none, found_some}
use Rattle.stp_check.proofs.late.late_at.Goals as goal
use Rattle.stp_check.proofs.late.late_at.Goals.{then-is_due+in_ok-late+in_default, else-is_due}

pub late_for-requires-clause-cond : goal.late_for-requires-clause-cond
late_for-requires-clause-cond c =
    members_below (length c.args.row.now) c.args.over_all.now c.as_slice-member-items.result.now c.loop-member.member-index c.member-item.result c.as_slice-member-items.ensures c.loop-member-test.true c.member-item.is c.requires.over

pub returns-in-Some : goal.returns-in-Some
returns-in-Some c = λ b seen there.
    let h = c.args.over_all.now in
    let from : h.lasting.owner.start ≤ c.args.time = omega arith in
    let to : c.args.time < h.lasting.owner.high = omega arith in
    let member : Contains h.members c.member-item.result = subst (λ cs. Contains cs c.member-item.result) c.as_slice-member-items.ensures (c.loop-member.member-index, c.loop-member-test.true, sym c.member-item.is) in
    found_some (IsJudged b (span_of h.lasting) c.args.time c.member-item.result) (λ late. IsBroken b c.args.time (numbers_of late)) c.in_ok-late.field-0 c.in-Some.late c.in-Some.is
    (member_answered b h c.args.time c.args.row.now c.args.unsettled.now c.args.begins.now seen there from to c.member-item.result member c.in_ok-late.field-0 c.in_ok-late.ensures)

pub loop-member-preserved : goal.loop-member-preserved
loop-member-preserved c = λ b seen there.
    let h = c.args.over_all.now in
    let from : h.lasting.owner.start ≤ c.args.time = omega arith in
    let to : c.args.time < h.lasting.owner.high = omega arith in
    let member : Contains h.members c.member-item.result = subst (λ cs. Contains cs c.member-item.result) c.as_slice-member-items.ensures (c.loop-member.member-index, c.loop-member-test.true, sym c.member-item.is) in
    let judged = IsJudged b (span_of h.lasting) c.args.time in
    All-more judged c.as_slice-member-items.result.now c.loop-member.member-index c.member-item.result c.loop-member-test.true (c.loop-member.invariant b seen there)
    (subst judged c.member-item.is (elim c.if-is_due.branch [
      | then-is_due+in_ok-late+in_default w ↦
          found_none (judged c.member-item.result) (λ late. IsBroken b c.args.time (numbers_of late)) w.in_ok-late.field-0 w.in_default.is
          (member_answered b h c.args.time c.args.row.now c.args.unsettled.now c.args.begins.now seen there from to c.member-item.result member w.in_ok-late.field-0 w.in_ok-late.ensures)
      | else-is_due w ↦ not_due b (span_of h.lasting) c.args.time c.member-item.result c.args.begins.now seen.are_beginning (sym c.is_due.ensures ∙ w.if-is_due.false)
    ]))

pub returns : goal.returns
returns c = λ b seen there.
    let judged = IsJudged b (span_of c.args.over_all.now.lasting) c.args.time in
    subst (All judged) (take_all c.loop-member.member-index c.as_slice-member-items.result.now c.loop-member-test.false ∙ c.as_slice-member-items.ensures) (c.loop-member.invariant b seen there)
