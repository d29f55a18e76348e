-- The law of strength for boxes of owners in an arena, each of which is well made.
use Rattle.std.specs.Prelude.{◌≡◌, ℕ, true, ◌↔◌, List}
use Rattle.stp_happen.specs.declared.owners.OwnedBox.{OwnedBox}
use Rattle.stp_happen.specs.Boxes.{IsStrong}
use Rattle.stp_happen.specs.LeastFailure.{IsFailure, IsLeastFailure}
use Rattle.stp_happen.specs.OwnedViews.{plain_owned}
use Rattle.stp_window.specs.Boxed.{windows_in}
use Rattle.stp_strength.specs.Failures.{is_sound, Gap}
use Rattle.stp_strength.specs.BoxFailures.{failing_durations}
use Rattle.stp_strength.specs.Strength.{IsStrongOnItsGrid}

-- the plain check passes exactly where the box is strong
abbrev pub BoxCheckDecides : Type 0
BoxCheckDecides = (boxed : OwnedBox) → is_sound (windows_in boxed) ≡ true ↔ IsStrong (plain_owned boxed)

-- where a static fact is missing, the box fails at durations on its own grid
abbrev pub BoxGapsFail : Type 0
BoxGapsFail = (boxed : OwnedBox) (gap : Gap (windows_in boxed)) → IsFailure (plain_owned boxed) (failing_durations (plain_owned boxed) gap)

abbrev pub BoxGridDecides : Type 0
BoxGridDecides = (boxed : OwnedBox) → IsStrong (plain_owned boxed) ↔ IsStrongOnItsGrid (plain_owned boxed)

-- there is a least failure exactly where the box is not strong
abbrev pub BoxLeastFailureExactlyWhereWeak : Type 0
BoxLeastFailureExactlyWhereWeak = (boxed : OwnedBox) → ((durations : List ℕ) × IsLeastFailure (plain_owned boxed) durations) ↔ (IsStrong (plain_owned boxed) → ⊥)
