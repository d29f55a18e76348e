-- The law of strength for boxes in an arena, each of which is well made.
use Rattle.std.proofs.Common.{◌≡◌, ◌↔◌, IsTrue, Bool, sym, ◌∙◌}
use Rattle.stp_happen.specs.declared.owners.OwnedBox.{OwnedBox}
use Rattle.stp_happen.specs.Boxes.{IsStrong}
use Rattle.stp_happen.specs.OwnedViews.{plain_owned}
use Rattle.stp_window.specs.Boxed.{windows_in}
use Rattle.stp_window.proofs.WellMade.{boxes_are_well_made}
use Rattle.stp_strength.specs.Failures.{is_sound}
use Rattle.stp_strength.specs.Boxed.{BoxCheckDecides, BoxGapsFail, BoxGridDecides, BoxLeastFailureExactlyWhereWeak}
use Rattle.stp_strength.proofs.Strong.{one_grid_decides}
use Rattle.stp_strength.proofs.BoxGaps.{check_decides, gaps_fail}
use Rattle.stp_strength.proofs.Least.{least_failure_exactly_where_weak}

pub box_check_decides : BoxCheckDecides
box_check_decides boxed = check_decides (plain_owned boxed) (boxes_are_well_made boxed)

pub box_gaps_fail : BoxGapsFail
box_gaps_fail boxed gap = gaps_fail (plain_owned boxed) (boxes_are_well_made boxed) gap

pub box_grid_decides : BoxGridDecides
box_grid_decides boxed = one_grid_decides (plain_owned boxed) (boxes_are_well_made boxed)

pub box_least_failure_exactly_where_weak : BoxLeastFailureExactlyWhereWeak
box_least_failure_exactly_where_weak boxed = least_failure_exactly_where_weak (plain_owned boxed) (boxes_are_well_made boxed)

pub strong_by_check : (boxed : OwnedBox) (r : Bool) → r ≡ is_sound (windows_in boxed) → IsTrue r ↔ IsStrong (plain_owned boxed)
strong_by_check boxed r e = (λ t. (box_check_decides boxed).0 (sym e ∙ t), λ strong. e ∙ (box_check_decides boxed).1 strong)
