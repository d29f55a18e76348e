use Rattle.std.proofs.Common.{◌≡◌, true, length, All, MatchOption, sym, ◌∙◌, subst}
use Rattle.std.proofs.lemmas.Result.{IfOk-weaker}
use Rattle.stp_cond.specs.Events.{IsEventInRange}
use Rattle.stp_cond.specs.Truth.{is_below}
use Rattle.stp_happen.specs.Boxes.{IsStrong}
use Rattle.stp_happen.specs.LeastFailure.{IsFailure}
use Rattle.stp_happen.specs.OwnedViews.{plain_owned}
use Rattle.stp_happen.specs.SoundOwned.{IsOwner}
use Rattle.stp_window.specs.Boxed.{windows_in}
use Rattle.stp_strength.specs.Failures.{all_calm, all_pairs_pass, stay_apart}
use Rattle.stp_strength.proofs.Checked.{owners_in_range}
use Rattle.stp_check.specs.Late.{IsKept}
use Rattle.stp_check.specs.Verdicts.{ExecutesEarliest}
use Rattle.stp_check.proofs.Judged.{fact_if_none, strong_or_fails}
use Rattle.stp_window.specs.declared.windows.Window.{Window}
use Rattle.stp_window.specs.declared.windows.Lasting.{Lasting}
use Rattle.stp_check.proofs.verdicts.failing.Goals as goal

pub failing_inside-requires-clause-windows_in_range : goal.failing_inside-requires-clause-windows_in_range
failing_inside-requires-clause-windows_in_range c =
    let boxed = c.args.boxed.now in
    subst (All (λ (w : Window). IsEventInRange (length boxed.initial) w.event)) (sym c.deref-3.ensures.value)
    (c.in_ok-windows.ensures.in_range boxed.grid (length boxed.initial) (subst (All (IsOwner boxed.grid (length boxed.initial))) (sym c.as_slice-owners.ensures) (owners_in_range boxed)))

pub failing_inside-requires-clause-spans_in_range : goal.failing_inside-requires-clause-spans_in_range
failing_inside-requires-clause-spans_in_range c =
    let boxed = c.args.boxed.now in
    subst (All (λ (s : Lasting). is_below (length boxed.initial) s.inside.over.now ≡ true)) (sym c.deref-4.ensures.value)
    (c.in_ok-spans.ensures.in_range boxed.grid (length boxed.initial) (subst (All (IsOwner boxed.grid (length boxed.initial))) (sym c.as_slice-owners.ensures) (owners_in_range boxed)))

pub returns : goal.returns
returns c =
    let boxed = c.args.boxed.now in
    let runs = fact_if_none (ExecutesEarliest (plain_owned boxed)) (IsFailure (plain_owned boxed)) c.in_ok-earliest.earliest (sym c.is_some.ensures ∙ c.if-is_some.false) c.in_ok-earliest.ensures in
    let apart = fact_if_none (all_pairs_pass stay_apart (windows_in boxed).spans ≡ true) (IsFailure (plain_owned boxed)) c.in_ok-overlap.overlap (sym c.is_some-2.ensures ∙ c.if-is_some-2.false) c.in_ok-overlap.ensures in
    let calm = fact_if_none (all_calm (windows_in boxed) ≡ true) (IsFailure (plain_owned boxed)) c.in_ok-meeting.meeting (sym c.is_some-3.ensures ∙ c.if-is_some-3.false) c.in_ok-meeting.ensures in
    IfOk-weaker c.failing_inside.result (λ r. MatchOption r (IsKept (windows_in boxed)) (IsFailure (plain_owned boxed))) (λ r. MatchOption r (IsStrong (plain_owned boxed)) (IsFailure (plain_owned boxed)))
    (strong_or_fails boxed runs apart calm) c.failing_inside.ensures
