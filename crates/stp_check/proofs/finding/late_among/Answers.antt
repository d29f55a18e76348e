use Rattle.std.proofs.Common.{length, All, arith, rules, refl, sym, ◌∙◌, subst}
use Rattle.std.proofs.lemmas.List.{take_all}
use Rattle.std.proofs.lemmas.List.Elements.{All-filter, All-more}
use Rattle.stp_cond.specs.Events.{IsEventInRange}
use Rattle.stp_window.specs.Views.{point_of}
use Rattle.stp_window.specs.Windows.{is_unsettled}
use Rattle.stp_check.specs.Ends.{AreJudged}
use Rattle.stp_check.specs.Late.{box_inside, numbers_of, IsBroken}
use Rattle.stp_check.proofs.Moments.{lasting_in, found_some, found_none, span_there, seen_at, open_cases}
use Rattle.stp_window.specs.declared.windows.Window.{Window}
use Rattle.stp_check.proofs.finding.late_among.Goals as goal

pub late_at-requires-clause-events : goal.late_at-requires-clause-events
late_at-requires-clause-events c =
    let P : Window → Type 0 = λ w. IsEventInRange (length c.args.row.now) w.event in
    subst (All P) (sym (c.deref-in-loop-one.ensures.value ∙ c.in_ok-unsettled.ensures)) (All-filter (λ w. is_unsettled c.args.time (point_of w)) P c.args.windows.now c.requires.events)

pub late_at-requires-clause-cases : goal.late_at-requires-clause-cases
late_at-requires-clause-cases c = open_cases c.args.time c.args.windows.now c.deref-in-loop-one.result.now (c.deref-in-loop-one.ensures.value ∙ c.in_ok-unsettled.ensures) c.requires.cases

pub returns-in-Some : goal.returns-in-Some
returns-in-Some c = λ initial at_row.
    let b = box_inside c.args.windows.now (lasting_in c.args.over_alls.now) initial in
    let seen = seen_at b c.args.time c.args.row.now c.args.windows.now c.deref-in-loop-one.result.now c.deref-in-loop-one-2.result.now refl (c.deref-in-loop-one.ensures.value ∙ c.in_ok-unsettled.ensures) (c.deref-in-loop-one-2.ensures.value ∙ c.in_ok-begins.ensures) at_row in
    found_some (AreJudged b c.args.time c.one-item.result) (λ late. IsBroken b c.args.time (numbers_of late)) c.in_ok-late.field-0 c.in-Some.late c.in-Some.is
    (c.in_ok-late.ensures b seen (span_there c.args.over_alls.now c.loop-one.one-index c.one-item.result (omega arith) c.one-item.is))

pub loop-one-preserved : goal.loop-one-preserved
loop-one-preserved c = λ initial at_row.
    let b = box_inside c.args.windows.now (lasting_in c.args.over_alls.now) initial in
    let seen = seen_at b c.args.time c.args.row.now c.args.windows.now c.deref-in-loop-one.result.now c.deref-in-loop-one-2.result.now refl (c.deref-in-loop-one.ensures.value ∙ c.in_ok-unsettled.ensures) (c.deref-in-loop-one-2.ensures.value ∙ c.in_ok-begins.ensures) at_row in
    All-more (AreJudged b c.args.time) c.args.over_alls.now c.loop-one.one-index c.one-item.result (omega arith) (c.loop-one.invariant initial at_row)
    (subst (AreJudged b c.args.time) c.one-item.is (found_none (AreJudged b c.args.time c.one-item.result) (λ late. IsBroken b c.args.time (numbers_of late)) c.in_ok-late.field-0 (search rules)
    (c.in_ok-late.ensures b seen (span_there c.args.over_alls.now c.loop-one.one-index c.one-item.result (omega arith) c.one-item.is))))

pub returns : goal.returns
returns c = λ initial at_row.
    let b = box_inside c.args.windows.now (lasting_in c.args.over_alls.now) initial in
    subst (All (AreJudged b c.args.time)) (take_all c.loop-one.one-index c.args.over_alls.now (omega arith)) (c.loop-one.invariant initial at_row)

pub known_row-requires : goal.known_row-requires
known_row-requires c =
    let P : Window → Type 0 = λ w. IsEventInRange (length c.args.row.now) w.event in
    subst (All P) (sym (c.deref.ensures.value ∙ c.in_ok-unsettled.ensures)) (All-filter (λ w. is_unsettled c.args.time (point_of w)) P c.args.windows.now c.requires.events)
