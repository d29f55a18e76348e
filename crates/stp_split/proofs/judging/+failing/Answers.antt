use Rattle.std.proofs.Common.{◌≡◌, ◌+◌, ◌<◌, ◌≤◌, ◌++◌, true, not, map, drop, length, All, MatchOption, refl, sym, ◌∙◌, ap, subst, arith}
use Rattle.std.proofs.lemmas.List.{take_all}
use Rattle.std.proofs.lemmas.List.Elements.{All-more}
use Rattle.std.proofs.lemmas.Result.{IfOk-weaker}
use Rattle.stp_cond.specs.declared.cond.Cond.{Cond}
use Rattle.stp_cond.specs.Truth.{all_of, is_below, state_of_row}
use Rattle.stp_happen.proofs.Members.{each_of}
use Rattle.stp_window.specs.Views.{points_of}
use Rattle.stp_split.specs.Judged.{IsAlways, FailsAt, EachAlways, OneFails, SomeAlways, EachFails}
use Rattle.stp_split.proofs.Answered.{negation_answered, and_of_each, and_of_all, or_of_each, or_of_all}
use Rattle.stp_split.proofs.Loops.{found_none, found_some, cond_below, left_at, first_left, fail_first, fail_next, fail_all, fail_last, enough_next, enough_now, rest_are_cases, rest_in_range, rest_shorter, stayed_answered, both_answered, come_answered}
use Rattle.stp_split.proofs.Weights.{weight, weight_all, weight_at, weight_there, weight_later}
use Rattle.stp_split.proofs.judging.+failing.Goals as goal

-- ---- a formula by its parts

pub failing-returns-in-Not : goal.failing-returns-in-Not
failing-returns-in-Not t c =
    let ends = points_of c.args.ends.now in
    let state = state_of_row c.args.row.now in
    IfOk-weaker c.failing.result (λ r. MatchOption r (IsAlways c.in-Not.part.now (not c.args.want) ends state) (λ steps. FailsAt c.in-Not.part.now (not c.args.want) ends state steps))
    (λ r. MatchOption r (IsAlways c.args.cond.now c.args.want ends state) (λ steps. FailsAt c.args.cond.now c.args.want ends state steps))
    (negation_answered c.args.cond.now c.in-Not.part c.in-Not.is c.args.want ends state) c.failing.ensures

pub failing-returns-then-want : goal.failing-returns-then-want
failing-returns-then-want t c =
    let ends = points_of c.args.ends.now in
    let state = state_of_row c.args.row.now in
    IfOk-weaker c.failing_one.result (λ r. MatchOption r (EachAlways c.in-And.parts.now c.args.want ends state) (λ steps. OneFails c.in-And.parts.now c.args.want ends state steps))
    (λ r. MatchOption r (IsAlways c.args.cond.now c.args.want ends state) (λ steps. FailsAt c.args.cond.now c.args.want ends state steps))
    (and_of_each c.args.cond.now c.in-And.parts c.in-And.is c.args.want c.if-want.true ends state) c.failing_one.ensures

pub failing-returns-else-want : goal.failing-returns-else-want
failing-returns-else-want t c =
    let ends = points_of c.args.ends.now in
    let state = state_of_row c.args.row.now in
    IfOk-weaker c.failing_all.result (λ r. MatchOption r (SomeAlways c.in-And.parts.now c.args.want ends state) (λ steps. EachFails c.in-And.parts.now c.args.want ends state steps))
    (λ r. MatchOption r (IsAlways c.args.cond.now c.args.want ends state) (λ steps. FailsAt c.args.cond.now c.args.want ends state steps))
    (and_of_all c.args.cond.now c.in-And.parts c.in-And.is c.args.want c.if-want.false ends state) c.failing_all.ensures

pub failing-returns-then-want-2 : goal.failing-returns-then-want-2
failing-returns-then-want-2 t c =
    let ends = points_of c.args.ends.now in
    let state = state_of_row c.args.row.now in
    IfOk-weaker c.failing_all-then-want-2.result (λ r. MatchOption r (SomeAlways c.in-Or.parts.now c.args.want ends state) (λ steps. EachFails c.in-Or.parts.now c.args.want ends state steps))
    (λ r. MatchOption r (IsAlways c.args.cond.now c.args.want ends state) (λ steps. FailsAt c.args.cond.now c.args.want ends state steps))
    (or_of_all c.args.cond.now c.in-Or.parts c.in-Or.is c.args.want c.if-want-2.true ends state) c.failing_all-then-want-2.ensures

pub failing-returns-else-want-2 : goal.failing-returns-else-want-2
failing-returns-else-want-2 t c =
    let ends = points_of c.args.ends.now in
    let state = state_of_row c.args.row.now in
    IfOk-weaker c.failing_one-else-want-2.result (λ r. MatchOption r (EachAlways c.in-Or.parts.now c.args.want ends state) (λ steps. OneFails c.in-Or.parts.now c.args.want ends state steps))
    (λ r. MatchOption r (IsAlways c.args.cond.now c.args.want ends state) (λ steps. FailsAt c.args.cond.now c.args.want ends state steps))
    (or_of_each c.args.cond.now c.in-Or.parts c.in-Or.is c.args.want c.if-want-2.false ends state) c.failing_one-else-want-2.ensures

-- ---- formulas one after another

pub failing_all-loop-place-init : goal.failing_all-loop-place-init
failing_all-loop-place-init t c = record {
  always = λ h. h;
  fails = fail_first (drop c.args.start c.args.conds.now) c.args.want (points_of c.args.ends.now) (state_of_row c.args.row.now) c.new-steps.result c.requires.cases c.new-steps.ensures;
}

pub failing_all-shared-requires-clause-cond : goal.failing_all-shared-requires-clause-cond
failing_all-shared-requires-clause-cond t c = cond_below (length c.args.row.now) c.args.conds.now c.loop-place.place c.index-conds-place.result c.loop-place-test.true c.index-conds-place.is c.requires.conds

pub failing_all-failing_by_cases-requires : goal.failing_all-failing_by_cases-requires
failing_all-failing_by_cases-requires t c =
    let less : weight_all (drop c.loop-place.place c.args.conds.now) ≤ weight_all (drop c.args.start c.args.conds.now) = weight_later c.args.conds.now c.args.start c.loop-place.place c.loop-place.auto.place in
    let first = first_left c.args.conds.now c.loop-place.place c.index-conds-place.result c.loop-place-test.true c.index-conds-place.is in
    (omega (arith, less), (c.requires.conds, (c.requires.events, (c.requires.cases, (c.in-Some.ensures.there, (c.index-conds-place.result, first, c.in-Some.ensures.shared.first))))))

pub failing_all-returns-in_default-split : goal.failing_all-returns-in_default-split
failing_all-returns-in_default-split t c =
    c.loop-place.invariant.always
    (found_none (SomeAlways (drop c.loop-place.place c.args.conds.now) c.args.want (points_of c.args.ends.now) (state_of_row c.args.row.now)) (λ steps. EachFails (drop c.loop-place.place c.args.conds.now) c.args.want (points_of c.args.ends.now) (state_of_row c.args.row.now) steps)
    c.in_ok-split.split c.in_default-split.is c.in_ok-split.ensures)

pub failing_all-returns-in-Some : goal.failing_all-returns-in-Some
failing_all-returns-in-Some t c =
    let left = drop c.loop-place.place c.args.conds.now in
    fail_all left (drop c.args.start c.args.conds.now) c.args.want (points_of c.args.ends.now) (state_of_row c.args.row.now) c.loop-place.steps c.in-Some-split.more c.push_all.new.steps
    (c.in_ok-push_all.ensures ∙ ap (λ ns. c.loop-place.steps ++ ns) c.as_slice.ensures)
    (found_some (SomeAlways left c.args.want (points_of c.args.ends.now) (state_of_row c.args.row.now)) (λ steps. EachFails left c.args.want (points_of c.args.ends.now) (state_of_row c.args.row.now) steps) c.in_ok-split.split c.in-Some-split.more c.in-Some-split.is c.in_ok-split.ensures)
    c.loop-place.invariant.fails

pub failing_all-failing-requires : goal.failing_all-failing-requires
failing_all-failing-requires t c =
    let less : 1 + weight c.index-conds-place.result ≤ weight_all (drop c.args.start c.args.conds.now) = weight_at c.args.conds.now c.args.start c.loop-place.place c.index-conds-place.result c.loop-place.auto.place c.loop-place-test.true c.index-conds-place.is in
    let below = cond_below (length c.args.row.now) c.args.conds.now c.loop-place.place c.index-conds-place.result c.loop-place-test.true c.index-conds-place.is c.requires.conds in
    (omega (arith, less), (below, (c.requires.events, c.requires.cases)))

pub failing_all-returns-in_default-2 : goal.failing_all-returns-in_default-2
failing_all-returns-in_default-2 t c =
    enough_now (drop c.loop-place.place c.args.conds.now) (drop (c.loop-place.place + 1) c.args.conds.now) (drop c.args.start c.args.conds.now) c.index-conds-place.result c.args.want (points_of c.args.ends.now) (state_of_row c.args.row.now)
    (left_at c.args.conds.now c.loop-place.place c.index-conds-place.result c.loop-place-test.true c.index-conds-place.is) c.loop-place.invariant.always
    (found_none (IsAlways c.index-conds-place.result c.args.want (points_of c.args.ends.now) (state_of_row c.args.row.now)) (λ steps. FailsAt c.index-conds-place.result c.args.want (points_of c.args.ends.now) (state_of_row c.args.row.now) steps)
    c.in_ok-more.field-0 c.in_default-2.is c.in_ok-more.ensures)

pub failing_all-loop-place-preserved : goal.failing_all-loop-place-preserved
failing_all-loop-place-preserved t c =
    let left = drop c.loop-place.place c.args.conds.now in
    let rest = drop (c.loop-place.place + 1) c.args.conds.now in
    let is = left_at c.args.conds.now c.loop-place.place c.index-conds-place.result c.loop-place-test.true c.index-conds-place.is in
    record {
      always = enough_next left rest (drop c.args.start c.args.conds.now) c.index-conds-place.result c.args.want (points_of c.args.ends.now) (state_of_row c.args.row.now) is c.loop-place.invariant.always;
      fails =
          fail_next left rest (drop c.args.start c.args.conds.now) c.index-conds-place.result c.args.want (points_of c.args.ends.now) (state_of_row c.args.row.now) c.loop-place.steps c.in-Some-2.more c.push_all-in-loop-place.new.steps c.requires.cases is c.in_default.ensures.shared
          (c.in_ok-push_all-2.ensures ∙ ap (λ ns. c.loop-place.steps ++ ns) c.as_slice-in-loop-place.ensures)
          (found_some (IsAlways c.index-conds-place.result c.args.want (points_of c.args.ends.now) (state_of_row c.args.row.now)) (λ steps. FailsAt c.index-conds-place.result c.args.want (points_of c.args.ends.now) (state_of_row c.args.row.now) steps) c.in_ok-more.field-0 c.in-Some-2.more c.in-Some-2.is c.in_ok-more.ensures)
          c.loop-place.invariant.fails;
    }

pub failing_all-returns : goal.failing_all-returns
failing_all-returns t c = fail_last c.args.conds.now c.loop-place.place c.args.start c.args.want (points_of c.args.ends.now) (state_of_row c.args.row.now) c.loop-place.steps c.loop-place-test.false c.loop-place.invariant.fails

-- ---- the two cases of one end

pub failing_by_cases-failing_all-requires : goal.failing_by_cases-failing_all-requires
failing_by_cases-failing_all-requires t c =
    let less : length c.deref.result.now < length c.args.ends.now = rest_shorter c.args.ends.now c.deref.result.now c.in_ok-rest.rest.items c.args.end.now c.deref.ensures.value c.in_ok-rest.ensures c.requires.there in
    let events = rest_in_range (length c.args.row.now) (length c.args.row.now) c.args.ends.now c.deref.result.now c.in_ok-rest.rest.items c.args.end.now.step refl c.deref.ensures.value c.in_ok-rest.ensures c.requires.events in
    let cases = rest_are_cases c.args.ends.now c.deref.result.now c.in_ok-rest.rest.items c.args.end.now.step c.deref.ensures.value c.in_ok-rest.ensures c.requires.cases in
    (omega (arith, less), (c.requires.conds, (events, cases)))

pub failing_by_cases-returns-in-Some : goal.failing_by_cases-returns-in-Some
failing_by_cases-returns-in-Some t c =
    let left = drop c.args.start c.args.conds.now in
    stayed_answered left c.args.want c.args.ends.now c.deref.result.now c.in_ok-rest.rest.items (state_of_row c.args.row.now) c.args.end.now c.in-Some.steps c.requires.cases c.requires.there c.deref.ensures.value c.in_ok-rest.ensures
    (found_some (SomeAlways left c.args.want (points_of c.deref.result.now) (state_of_row c.args.row.now)) (λ steps. EachFails left c.args.want (points_of c.deref.result.now) (state_of_row c.args.row.now) steps)
    c.in_ok-steps.field-0 c.in-Some.steps c.in-Some.is c.in_ok-steps.ensures)

pub failing_by_cases-failing_all-requires-2 : goal.failing_by_cases-failing_all-requires-2
failing_by_cases-failing_all-requires-2 t c =
    let less : length c.deref-2.result.now < length c.args.ends.now = rest_shorter c.args.ends.now c.deref-2.result.now c.in_ok-rest.rest.items c.args.end.now c.deref-2.ensures.value c.in_ok-rest.ensures c.requires.there in
    let events = rest_in_range (length c.args.row.now) (length c.in_ok-next.next) c.args.ends.now c.deref-2.result.now c.in_ok-rest.rest.items c.args.end.now.step c.in_ok-next.ensures.len c.deref-2.ensures.value c.in_ok-rest.ensures c.requires.events in
    let cases = rest_are_cases c.args.ends.now c.deref-2.result.now c.in_ok-rest.rest.items c.args.end.now.step c.deref-2.ensures.value c.in_ok-rest.ensures c.requires.cases in
    (omega (arith, less), (subst (λ n. all_of (map (is_below n) c.args.conds.now) ≡ true) (sym c.in_ok-next.ensures.len) c.requires.conds, (events, cases)))

pub failing_by_cases-returns-in_default-2 : goal.failing_by_cases-returns-in_default-2
failing_by_cases-returns-in_default-2 t c =
    let left = drop c.args.start c.args.conds.now in
    both_answered left c.args.want c.args.ends.now c.deref.result.now c.deref-2.result.now c.in_ok-rest.rest.items (state_of_row c.args.row.now) (state_of_row c.in_ok-next.next) c.args.end.now c.requires.cases c.requires.there c.deref.ensures.value c.deref-2.ensures.value c.in_ok-rest.ensures
    c.in_ok-next.ensures.state
    (found_none (SomeAlways left c.args.want (points_of c.deref.result.now) (state_of_row c.args.row.now)) (λ steps. EachFails left c.args.want (points_of c.deref.result.now) (state_of_row c.args.row.now) steps)
    c.in_ok-steps.field-0 c.in_default.is c.in_ok-steps.ensures)
    (found_none (SomeAlways left c.args.want (points_of c.deref-2.result.now) (state_of_row c.in_ok-next.next)) (λ steps. EachFails left c.args.want (points_of c.deref-2.result.now) (state_of_row c.in_ok-next.next) steps)
    c.in_ok-steps-2.field-0 c.in_default-2.is c.in_ok-steps-2.ensures)

pub failing_by_cases-returns : goal.failing_by_cases-returns
failing_by_cases-returns t c =
    let left = drop c.args.start c.args.conds.now in
    come_answered left c.args.want c.args.ends.now c.deref-2.result.now c.in_ok-rest.rest.items (state_of_row c.args.row.now) (state_of_row c.in_ok-next.next) c.args.end.now c.in-Some-2.steps c.push.new.self c.requires.cases c.requires.there c.deref-2.ensures.value c.in_ok-rest.ensures
    c.in_ok-next.ensures.state c.requires.turned c.in_ok-push.ensures.ok
    (found_some (SomeAlways left c.args.want (points_of c.deref-2.result.now) (state_of_row c.in_ok-next.next)) (λ steps. EachFails left c.args.want (points_of c.deref-2.result.now) (state_of_row c.in_ok-next.next) steps)
    c.in_ok-steps-2.field-0 c.in-Some-2.steps c.in-Some-2.is c.in_ok-steps-2.ensures)

-- ---- one of several formulas

pub failing_one-failing-requires : goal.failing_one-failing-requires
failing_one-failing-requires t c =
    let less : weight c.cond-item.result ≤ weight_all c.args.conds.now = weight_there c.args.conds.now c.loop-cond.cond-index c.cond-item.result c.loop-cond-test.true c.cond-item.is in
    let below = cond_below (length c.args.row.now) c.args.conds.now c.loop-cond.cond-index c.cond-item.result c.loop-cond-test.true c.cond-item.is c.requires.conds in
    (omega (arith, less), (below, (c.requires.events, c.requires.cases)))

pub failing_one-loop-cond-preserved : goal.failing_one-loop-cond-preserved
failing_one-loop-cond-preserved t c =
    let always = λ (d : Cond). IsAlways d c.args.want (points_of c.args.ends.now) (state_of_row c.args.row.now) in
    All-more always c.args.conds.now c.loop-cond.cond-index c.cond-item.result c.loop-cond-test.true c.loop-cond.invariant
    (subst always c.cond-item.is (found_none (IsAlways c.cond-item.result c.args.want (points_of c.args.ends.now) (state_of_row c.args.row.now)) (λ steps. FailsAt c.cond-item.result c.args.want (points_of c.args.ends.now) (state_of_row c.args.row.now) steps) c.in_ok-steps.field-0 c.in_default.is c.in_ok-steps.ensures))

pub failing_one-returns : goal.failing_one-returns
failing_one-returns t c =
    let always = λ (d : Cond). IsAlways d c.args.want (points_of c.args.ends.now) (state_of_row c.args.row.now) in
    each_of always c.args.conds.now (subst (All always) (take_all c.loop-cond.cond-index c.args.conds.now c.loop-cond-test.false) c.loop-cond.invariant)
