-- What has to hold inside the steps of a box of owners in an arena.
use Rattle.std.proofs.Common.{◌≡◌, ℕ, Bool, List, ap₂, sym, subst}
use Rattle.stp_cond.specs.declared.cond.Cond.TheVariants.{True}
use Rattle.stp_cond.specs.Truth.{meaning_of, state_of_row}
use Rattle.stp_happen.specs.OwnerViews.{plain_owners}
use Rattle.stp_window.specs.Boxed.{windows_in}
use Rattle.stp_window.specs.OwnerWindows.{points_of_owners, open_spans_of_owners}
use Rattle.stp_window.specs.Views.{points_of, spans_of}
use Rattle.stp_window.specs.Windows.{Point, OpenSpan, WindowBox, IsProper}
use Rattle.stp_window.proofs.WellMade.{boxes_have_proper_windows}
use Rattle.stp_check.specs.Late.{box_inside, IsKept, IsBroken}
use Rattle.stp_happen.specs.declared.owners.OwnedBox.{OwnedBox}
use Rattle.stp_window.specs.declared.windows.Window.{Window}
use Rattle.stp_window.specs.declared.windows.Lasting.{Lasting}

-- these windows and owners are those of a box
pub record AreOfBox (boxed : OwnedBox) (windows : List Window) (spans : List Lasting) : Type 0 where
  pub windows_are : points_of windows ≡ points_of_owners (plain_owners boxed.owners)
  pub spans_are : spans_of spans ≡ open_spans_of_owners (plain_owners boxed.owners)

-- the box of these points and spans, of which the goal does not matter
abbrev box_with : List Point → List OpenSpan → (ℕ → Bool) → WindowBox
box_with points spans initial = record { points = points; spans = spans; initial = initial; goal = meaning_of True }

-- the box's own windows, but for the goal
abbrev windows_without_goal : OwnedBox → WindowBox
windows_without_goal boxed = box_with (points_of_owners (plain_owners boxed.owners)) (open_spans_of_owners (plain_owners boxed.owners)) (state_of_row boxed.initial)

same_box : (boxed : OwnedBox) (windows : List Window) (spans : List Lasting) → AreOfBox boxed windows spans → box_inside windows spans boxed.initial ≡ windows_without_goal boxed
same_box boxed windows spans are = ap₂ (λ ps os. box_with ps os (state_of_row boxed.initial)) are.windows_are are.spans_are

pub these_are_proper : (boxed : OwnedBox) (windows : List Window) (spans : List Lasting) → AreOfBox boxed windows spans → IsProper (box_inside windows spans boxed.initial)
these_are_proper boxed windows spans are =
    let p = boxes_have_proper_windows boxed in
    subst IsProper (sym (same_box boxed windows spans are)) (record { ordered = p.ordered; reading = p.reading; parted = p.parted; started = p.started; owned = p.owned })

-- what holds inside by these windows holds inside the owners of the box
pub kept_in_boxes : (boxed : OwnedBox) (windows : List Window) (spans : List Lasting) → AreOfBox boxed windows spans → IsKept (box_inside windows spans boxed.initial) → IsKept (windows_in boxed)
kept_in_boxes boxed windows spans are kept = subst IsKept (same_box boxed windows spans are) kept

-- and late steps that break it by these windows break it in the box
pub broken_in_boxes : (boxed : OwnedBox) (windows : List Window) (spans : List Lasting) (time : ℕ) (late : List ℕ) → AreOfBox boxed windows spans → IsBroken (box_inside windows spans boxed.initial) time late → IsBroken (windows_in boxed) time late
broken_in_boxes boxed windows spans time late are broken =
    let found = subst (λ b. IsBroken b time late) (same_box boxed windows spans are) broken in
    let r = found.1 in
    (found.0, record { there = r.there; from = r.from; to = r.to; own = r.own; fails = r.fails; few = r.few })
