use Rattle.std.proofs.Common.{◌≡◌, ◌==◌, true, not, length, All, ◌∙◌, sym, subst}
use Rattle.std.proofs.lemmas.List.Elements.{All-filter}
use Rattle.stp_cond.specs.Events.{IsEventInRange}
use Rattle.stp_cond.specs.Truth.{is_below, state_of_row}
use Rattle.stp_window.specs.declared.windows.Window.{Window}
use Rattle.stp_window.specs.Views.{points_of}
use Rattle.stp_split.specs.Cases.{without_step}
use Rattle.stp_split.proofs.KnownRows.{decided_always}
use Rattle.stp_split.proofs.Written.{rest_within}
use Rattle.stp_split.specs.Judged.{IsAlways, FailsAt}
use Rattle.stp_split.proofs.Loops.{found_none, found_some, rest_are_cases}
use Rattle.stp_check.proofs.Inside.{always_from, late_from}
use Rattle.stp_check.proofs.late.late_for.Goals as goal

pub failing-requires-clause-events : goal.failing-requires-clause-events
failing-requires-clause-events c =
    let P : Window → Type 0 = λ w. IsEventInRange (length c.args.row.now) w.event in
    subst (All P) (sym (c.deref.ensures.value ∙ c.in_ok-others.ensures)) (All-filter (λ w. not (w.step == c.args.number)) P c.args.unsettled.now c.requires.events)

pub failing-requires-clause-cases : goal.failing-requires-clause-cases
failing-requires-clause-cases c = rest_are_cases c.args.unsettled.now c.deref.result.now c.in_ok-others.others.items c.args.number c.deref.ensures.value c.in_ok-others.ensures c.requires.cases

pub returns-in_default : goal.returns-in_default
returns-in_default c =
    let ends = points_of c.deref.result.now in
    let state = state_of_row c.args.row.now in
    always_from c.args.cond.now c.args.number c.args.unsettled.now c.deref.result.now c.in_ok-others.others.items state c.deref.ensures.value c.in_ok-others.ensures
    (found_none (IsAlways c.args.cond.now true ends state) (λ steps. FailsAt c.args.cond.now true ends state steps) c.in_ok-come.field-0 c.in_default.is c.in_ok-come.ensures)

pub returns : goal.returns
returns c =
    let ends = points_of c.deref.result.now in
    let state = state_of_row c.args.row.now in
    late_from c.args.cond.now c.args.number c.args.unsettled.now c.deref.result.now c.deref-2.result.now c.in_ok-others.others.items state c.in-Some.come c.as_slice.result.now c.in_ok-late.late c.deref.ensures.value c.deref-2.ensures.value c.in_ok-others.ensures c.as_slice.ensures
    (found_some (IsAlways c.args.cond.now true ends state) (λ steps. FailsAt c.args.cond.now true ends state steps) c.in_ok-come.field-0 c.in-Some.come c.in-Some.is c.in_ok-come.ensures) c.in_ok-late.ensures

pub is_known_to_hold-requires : goal.is_known_to_hold-requires
is_known_to_hold-requires c = subst (λ n. is_below n c.args.cond.now ≡ true) (sym c.requires.len) c.requires.cond

pub returns-then-is_known_to_hold : goal.returns-then-is_known_to_hold
returns-then-is_known_to_hold c =
    let ends = points_of c.args.unsettled.now in
    decided_always c.args.known.now ends (without_step c.args.number ends) (state_of_row c.args.row.now) c.args.cond.now c.requires.known (λ p i. (rest_within c.args.number ends p i).0) (c.is_known_to_hold.ensures.holds c.if-is_known_to_hold.true)
