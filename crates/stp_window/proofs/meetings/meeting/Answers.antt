use Rattle.std.proofs.Common.{◌≡◌, List, ap, sym, ◌∙◌, get_or, subst}
use Rattle.stp_happen.specs.BoxViews.{plain_box}
use Rattle.stp_happen.specs.Boxes.{PlainBox}
use Rattle.stp_happen.specs.OwnerViews.{plain_owners}
use Rattle.stp_window.specs.declared.points.PointOf.TheVariants.{First}
use Rattle.stp_window.specs.declared.windows.Window.{Window}
use Rattle.stp_window.specs.OwnerWindows.{points_of_owners}
use Rattle.stp_window.specs.Views.{points_of}
use Rattle.stp_window.proofs.MetPoints.{none_in_box, meeting_in_box}
use Rattle.stp_window.proofs.meetings.meeting.Goals as goal

pub returns-in_default : goal.returns-in_default
returns-in_default c =
    let all : points_of c.deref.result.now ≡ points_of_owners (plain_box c.args.boxed.now).owners =
    ap points_of c.deref.ensures.value
    ∙ (c.in_ok-windows.ensures.points ∙ (ap (λ os. points_of_owners (plain_owners os)) c.as_slice.ensures ∙ ap (λ (b : PlainBox). points_of_owners b.owners) c.in_ok-owned.ensures.same)) in
    none_in_box c.args.boxed.now c.deref.result.now c.in_ok-places.field-0 all c.in_default.is c.in_ok-places.ensures

pub returns : goal.returns
returns c =
    let windows = c.deref.result.now in
    let all : points_of windows ≡ points_of_owners (plain_box c.args.boxed.now).owners =
    ap points_of c.deref.ensures.value
    ∙ (c.in_ok-windows.ensures.points ∙ (ap (λ os. points_of_owners (plain_owners os)) c.as_slice.ensures ∙ ap (λ (b : PlainBox). points_of_owners b.owners) c.in_ok-owned.ensures.same)) in
    meeting_in_box c.args.boxed.now windows c.in_ok-points.points c.as_slice-2.result.now c.as_slice-3.result.now c.in_ok-places.field-0 c.in-Some.places (First (record { 0 = 0 })) (First (record { 0 = 0 })) c.index.result.now c.index-2.result.now c.later-time.result all
    c.in_ok-points.ensures c.as_slice-2.ensures c.as_slice-3.ensures c.in-Some.is c.in_ok-places.ensures
    (subst (λ (ws : List Window). c.index.result.now ≡ get_or ws c.in-Some.places.one c.index.result.now) (sym c.deref.ensures.value) c.index.ensures)
    (subst (λ (ws : List Window). c.index-2.result.now ≡ get_or ws c.in-Some.places.other c.index-2.result.now) (sym c.deref.ensures.value) c.index-2.ensures)
    c.later-time.ensures.within c.later-time.ensures.least
