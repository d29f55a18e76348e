use Rattle.std.proofs.Common.{◌≡◌, ◌↔◌, IsTrue, true, length, All, IfOk, ap, sym, ◌∙◌, subst}
use Rattle.std.proofs.lemmas.Result.{IfOk-weaker}
use Rattle.stp_cond.specs.Events.{IsEventInRange}
use Rattle.stp_cond.specs.Truth.{is_below}
use Rattle.stp_happen.specs.SoundOwned.{IsOwner}
use Rattle.stp_happen.specs.OwnerViews.{plain_owners}
use Rattle.stp_happen.specs.OwnedViews.{plain_owned}
use Rattle.stp_happen.specs.Boxes.{IsStrong}
use Rattle.stp_window.specs.declared.windows.Window.{Window}
use Rattle.stp_window.specs.declared.windows.Lasting.{Lasting}
use Rattle.stp_window.specs.Boxed.{windows_in}
use Rattle.stp_window.specs.OwnerWindows.{points_of_owners, open_spans_of_owners}
use Rattle.stp_strength.specs.Failures.{is_sound}
use Rattle.stp_window.specs.Views.{points_of, spans_of}
use Rattle.stp_strength.proofs.Checked.{box_same, owners_in_range, goal_in_range}
use Rattle.stp_strength.proofs.BoxLaws.{strong_by_check}
use Rattle.stp_strength.proofs.check.is_sound.Goals as goal

pub has_facts-requires-clause-windows : goal.has_facts-requires-clause-windows
has_facts-requires-clause-windows c =
    let boxed = c.args.boxed.now in
    subst (All (λ (w : Window). IsEventInRange (length boxed.initial) w.event)) (sym c.deref.ensures.value)
    (c.in_ok-windows.ensures.in_range boxed.grid (length boxed.initial) (subst (All (IsOwner boxed.grid (length boxed.initial))) (sym c.as_slice-owners.ensures) (owners_in_range boxed)))

pub has_facts-requires-clause-spans : goal.has_facts-requires-clause-spans
has_facts-requires-clause-spans c =
    let boxed = c.args.boxed.now in
    subst (All (λ (s : Lasting). is_below (length boxed.initial) s.inside.over.now ≡ true)) (sym c.deref-2.ensures.value)
    (c.in_ok-spans.ensures.in_range boxed.grid (length boxed.initial) (subst (All (IsOwner boxed.grid (length boxed.initial))) (sym c.as_slice-owners.ensures) (owners_in_range boxed)))

pub has_facts-requires-clause-goal : goal.has_facts-requires-clause-goal
has_facts-requires-clause-goal c = goal_in_range c.args.boxed.now

pub returns-clause-check : goal.returns-clause-check
returns-clause-check c =
    let boxed = c.args.boxed.now in
    let windows = ap points_of c.deref.ensures.value ∙ (c.in_ok-windows.ensures.points ∙ ap (λ ss. points_of_owners (plain_owners ss)) c.as_slice-owners.ensures) in
    let spans = ap spans_of c.deref-2.ensures.value ∙ (c.in_ok-spans.ensures.spans ∙ ap (λ ss. open_spans_of_owners (plain_owners ss)) c.as_slice-owners.ensures) in
    subst (λ v. IfOk c.has_facts.result (λ r. r ≡ v)) (ap is_sound (box_same boxed c.deref.result.now c.deref-2.result.now windows spans)) c.has_facts.ensures

pub returns-clause-strong : goal.returns-clause-strong
returns-clause-strong c =
    let boxed = c.args.boxed.now in
    let windows = ap points_of c.deref.ensures.value ∙ (c.in_ok-windows.ensures.points ∙ ap (λ ss. points_of_owners (plain_owners ss)) c.as_slice-owners.ensures) in
    let spans = ap spans_of c.deref-2.ensures.value ∙ (c.in_ok-spans.ensures.spans ∙ ap (λ ss. open_spans_of_owners (plain_owners ss)) c.as_slice-owners.ensures) in
    let checked = subst (λ v. IfOk c.has_facts.result (λ r. r ≡ v)) (ap is_sound (box_same boxed c.deref.result.now c.deref-2.result.now windows spans)) c.has_facts.ensures in
    IfOk-weaker c.has_facts.result (λ r. r ≡ is_sound (windows_in boxed)) (λ r. IsTrue r ↔ IsStrong (plain_owned boxed)) (λ r e. strong_by_check boxed r e) checked
