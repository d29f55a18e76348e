use Rattle.std.proofs.Common.{◌≡◌, ℕ, ◌≤◌, length, map, take, get_or, true, All, arith, rules, ap, sym, ◌∙◌, subst}
use Rattle.stp_strength.specs.Splitting.{applied}
use Rattle.stp_cond.specs.Atoms.{set_of}
use Rattle.stp_cond.specs.Truth.{is_below, state_of_row}
use Rattle.stp_window.specs.Views.{points_of}
use Rattle.stp_check.specs.Ends.{AreJudged}
use Rattle.stp_check.specs.Late.{box_inside, numbers_of, IsBroken, IsRowAt}
use Rattle.stp_check.proofs.OpenEnds.{unsettled_cases}
use Rattle.stp_check.proofs.Moments.{lasting_in, found_some, found_none, held_below, events_in_order, IsCarried, row_now, next_ended, next_judged, all_moments}
use Rattle.stp_window.specs.declared.windows.Lasting.{Lasting}
use Rattle.stp_check.proofs.finding.first_broken.Goals as goal

pub carry-place-requires-clause-events : goal.carry-place-requires-clause-events
carry-place-requires-clause-events c =
    events_in_order (length c.loop-time.row) (length c.args.initial.now) c.args.windows.now c.in_ok-ordered.ordered.items c.deref.result.now c.in_ok-ordered.ensures.same c.deref.ensures.value c.loop-time.invariant.len c.requires.events

pub late_among-requires-clause-steps : goal.late_among-requires-clause-steps
late_among-requires-clause-steps c =
    let len : length c.carry-place.new.row ≡ length c.args.initial.now = c.carry-place.ensures.len ∙ c.loop-time.invariant.len in
    held_below (length c.carry-place.new.row) c.deref-in-loop-time.result.now c.args.spans.now (ap lasting_in c.deref-in-loop-time.ensures.value ∙ c.in_ok-over_alls.ensures)
    (subst (λ n. All (λ (s : Lasting). is_below n s.inside.over.now ≡ true) c.args.spans.now) (sym len) c.requires.spans)

pub returns-in-Some : goal.returns-in-Some
returns-in-Some c =
    let ts = c.deref-time-items.result.now in
    let i = c.loop-time.time-index in
    let given = c.deref.result.now in
    let kept = lasting_in c.deref-in-loop-time.result.now in
    let same : kept ≡ c.args.spans.now = ap lasting_in c.deref-in-loop-time.ensures.value ∙ c.in_ok-over_alls.ensures in
    let so_far = subst (λ ws. (a : ℕ) → state_of_row c.loop-time.row a ≡ applied (points_of (take c.loop-time.place ws)) (state_of_row c.args.initial.now) a) (sym c.deref.ensures.value) c.loop-time.invariant.state in
    let done : IsCarried given c.loop-time.place c.carry-place.result (get_or ts i 0) c.args.initial.now c.carry-place.new.row = record {
      fits = c.carry-place.ensures.within.1;
      ended = c.carry-place.ensures.ended;
      later = c.carry-place.ensures.later;
      state = c.carry-place.ensures.state (state_of_row c.args.initial.now) so_far;
    } in
    let row : IsRowAt (box_inside c.args.windows.now kept c.args.initial.now) (get_or ts i 0) c.carry-place.new.row =
    row_now c.args.windows.now c.in_ok-ordered.ordered.items given c.args.spans.now kept c.args.initial.now c.carry-place.new.row c.loop-time.place c.carry-place.result i ts c.requires.proper c.requires.calm
    c.in_ok-ordered.ensures.same c.in_ok-ordered.ensures.ordered c.deref.ensures.value same (omega arith) c.loop-time.invariant.ended done in
    subst (λ ss. IsBroken (box_inside c.args.windows.now ss c.args.initial.now) (get_or ts i 0) (numbers_of c.in-Some.late)) same
    (found_some (All (AreJudged (box_inside c.args.windows.now kept c.args.initial.now) (get_or ts i 0)) c.deref-in-loop-time.result.now) (λ late. IsBroken (box_inside c.args.windows.now kept c.args.initial.now) (get_or ts i 0) (numbers_of late)) c.in_ok-late.field-0 c.in-Some.late c.in-Some.is
    (c.in_ok-late.ensures c.args.initial.now row))

pub loop-time-preserved : goal.loop-time-preserved
loop-time-preserved c =
    let ts = c.deref-time-items.result.now in
    let i = c.loop-time.time-index in
    let given = c.deref.result.now in
    let kept = lasting_in c.deref-in-loop-time.result.now in
    let same : kept ≡ c.args.spans.now = ap lasting_in c.deref-in-loop-time.ensures.value ∙ c.in_ok-over_alls.ensures in
    let so_far = subst (λ ws. (a : ℕ) → state_of_row c.loop-time.row a ≡ applied (points_of (take c.loop-time.place ws)) (state_of_row c.args.initial.now) a) (sym c.deref.ensures.value) c.loop-time.invariant.state in
    let done : IsCarried given c.loop-time.place c.carry-place.result (get_or ts i 0) c.args.initial.now c.carry-place.new.row = record {
      fits = c.carry-place.ensures.within.1;
      ended = c.carry-place.ensures.ended;
      later = c.carry-place.ensures.later;
      state = c.carry-place.ensures.state (state_of_row c.args.initial.now) so_far;
    } in
    let row : IsRowAt (box_inside c.args.windows.now kept c.args.initial.now) (get_or ts i 0) c.carry-place.new.row =
    row_now c.args.windows.now c.in_ok-ordered.ordered.items given c.args.spans.now kept c.args.initial.now c.carry-place.new.row c.loop-time.place c.carry-place.result i ts c.requires.proper c.requires.calm
    c.in_ok-ordered.ensures.same c.in_ok-ordered.ensures.ordered c.deref.ensures.value same (omega arith) c.loop-time.invariant.ended done in
    let moments : ts ≡ set_of (map (λ w. w.low) c.args.windows.now) = c.deref-time-items.ensures.value ∙ c.in_ok-moments.ensures in
    record {
      len = c.carry-place.ensures.len ∙ c.loop-time.invariant.len;
      within = subst (λ ws. c.carry-place.result ≤ length ws) c.deref.ensures.value c.carry-place.ensures.within.1;
      ended = next_ended c.in_ok-ordered.ordered.items given c.loop-time.place c.carry-place.result i ts (map (λ w. w.low) c.args.windows.now) c.args.initial.now c.carry-place.new.row c.deref.ensures.value moments (omega arith) c.loop-time.invariant.ended done;
      state = subst (λ ws. (a : ℕ) → state_of_row c.carry-place.new.row a ≡ applied (points_of (take c.carry-place.result ws)) (state_of_row c.args.initial.now) a) c.deref.ensures.value done.state;
      judged =
          next_judged c.args.windows.now c.args.spans.now kept c.in_ok-over_alls.over_alls.items c.deref-in-loop-time.result.now c.args.initial.now i ts same c.deref-in-loop-time.ensures.value (omega arith) c.loop-time.invariant.judged
          (found_none (All (AreJudged (box_inside c.args.windows.now kept c.args.initial.now) (get_or ts i 0)) c.deref-in-loop-time.result.now) (λ late. IsBroken (box_inside c.args.windows.now kept c.args.initial.now) (get_or ts i 0) (numbers_of late)) c.in_ok-late.field-0 (search rules)
          (c.in_ok-late.ensures c.args.initial.now row));
    }

pub late_among-requires-clause-cases : goal.late_among-requires-clause-cases
late_among-requires-clause-cases c = unsettled_cases (box_inside c.args.windows.now c.args.spans.now c.args.initial.now) c.requires.proper c.requires.calm (get_or c.deref-time-items.result.now c.loop-time.time-index 0)

pub returns : goal.returns
returns c =
    all_moments c.args.windows.now c.args.spans.now c.in_ok-over_alls.over_alls.items c.args.initial.now c.loop-time.time-index c.deref-time-items.result.now c.requires.proper c.requires.calm c.in_ok-over_alls.ensures
    (c.deref-time-items.ensures.value ∙ c.in_ok-moments.ensures) (omega arith) c.loop-time.invariant.judged
