-- Verdicts on boxes in an arena.
use Rattle.std.proofs.Common.{◌≡◌, ◌↔◌, ℕ, ◌+◌, true, false, List, [], ◌∷◌, Option, Some, None, MatchOption, is_some, true≢false, refl, sym, subst}
use Rattle.stp_happen.specs.declared.owners.OwnedBox.{OwnedBox}
use Rattle.stp_happen.specs.Boxes.{IsStrong, IsVector, PlainBox}
use Rattle.stp_happen.specs.LeastFailure.{IsFailure}
use Rattle.stp_happen.specs.OwnedViews.{plain_owned}
use Rattle.stp_window.specs.Boxed.{windows_in}
use Rattle.stp_window.specs.Views.{points_of, spans_of}
use Rattle.stp_window.proofs.WellMade.{boxes_are_well_made, boxes_have_proper_windows}
use Rattle.stp_strength.specs.Failures.{all_calm, all_pairs_pass, stay_apart}
use Rattle.stp_strength.specs.Vectors.{vector_of}
use Rattle.stp_strength.proofs.BoxGaps.{failures_mean_weakness}
use Rattle.stp_strength.proofs.Durations.{durations_of_choice}
use Rattle.stp_check.specs.Choices.{near_to, moment_of}
use Rattle.stp_check.specs.Late.{IsBroken, IsKept, box_inside}
use Rattle.stp_check.specs.Pairs.{AreNotApart, AreNotCalm}
use Rattle.stp_check.specs.Verdicts.{IsVerdictOn, ExecutesEarliest}
use Rattle.stp_check.proofs.InBoxes.{AreOfBox, broken_in_boxes}
use Rattle.stp_check.proofs.Missing.{broken_fails, overlap_fails, meeting_fails, strong_if_kept}
use Rattle.stp_check.proofs.Timing.{moment_is_choice}
use Rattle.stp_window.specs.declared.windows.Window.{Window}
use Rattle.stp_window.specs.declared.windows.Lasting.{Lasting}
use Rattle.stp_check.specs.declared.choices.Choice.{Choice}
use Rattle.stp_check.specs.declared.verdicts.Verdict.{Verdict}
use Rattle.stp_check.specs.declared.verdicts.Verdict.TheVariants.{Strong, Weak}

pub choice_is_vector : (boxed : OwnedBox) (choice : Choice) (ds : List ℕ) → ds ≡ vector_of (plain_owned boxed) (moment_of choice) → IsVector (plain_owned boxed).owners ds
choice_is_vector boxed choice ds e =
    subst (IsVector (plain_owned boxed).owners) (sym e)
    (durations_of_choice (plain_owned boxed) (boxes_are_well_made boxed) (moment_of choice) (moment_is_choice (windows_in boxed) (boxes_have_proper_windows boxed) choice)).vector

-- ---- what has to hold inside

pub broken_box_fails : (boxed : OwnedBox) (windows : List Window) (spans : List Lasting) → AreOfBox boxed windows spans → all_calm (windows_in boxed) ≡ true →
    (time : ℕ) (steps : List ℕ) → IsBroken (box_inside windows spans boxed.initial) time steps → (ds : List ℕ) → ds ≡ vector_of (plain_owned boxed) (near_to steps (time + 1)) → IsFailure (plain_owned boxed) ds
broken_box_fails boxed windows spans are calm time steps broken ds is =
    subst (IsFailure (plain_owned boxed)) (sym is) (broken_fails (plain_owned boxed) (boxes_are_well_made boxed) calm time steps (broken_in_boxes boxed windows spans time steps are broken))

-- ---- two steps

pub overlap_in_box_fails : (boxed : OwnedBox) (spans : List Lasting) → spans_of spans ≡ (windows_in boxed).spans → (step time : ℕ) → AreNotApart (spans_of spans) step time →
    (ds : List ℕ) → ds ≡ vector_of (plain_owned boxed) (near_to (step ∷ []) time) → IsFailure (plain_owned boxed) ds
overlap_in_box_fails boxed spans f step time found ds is =
    subst (IsFailure (plain_owned boxed)) (sym is) (overlap_fails (plain_owned boxed) (boxes_are_well_made boxed) step time (subst (λ os. AreNotApart os step time) f found))

pub meeting_in_box_fails : (boxed : OwnedBox) (windows : List Window) → points_of windows ≡ (windows_in boxed).points → (one other time : ℕ) → AreNotCalm (points_of windows) one other time →
    (ds : List ℕ) → ds ≡ vector_of (plain_owned boxed) (near_to (one ∷ other ∷ []) time) → IsFailure (plain_owned boxed) ds
meeting_in_box_fails boxed windows e one other time found ds is =
    subst (IsFailure (plain_owned boxed)) (sym is) (meeting_fails (plain_owned boxed) (boxes_are_well_made boxed) one other time (subst (λ ps. AreNotCalm ps one other time) e found))

-- ---- all facts together

pub fact_if_none : (P : Type 0) (Q : List ℕ → Type 0) (r : Option (List ℕ)) → is_some r ≡ false → MatchOption r P Q → P
fact_if_none P Q None e h = h
fact_if_none P Q (Some ds) e h = absurd (true≢false e)

weaker_none : (P R : Type 0) (Q : List ℕ → Type 0) → (P → R) → (r : Option (List ℕ)) → MatchOption r P Q → MatchOption r R Q
weaker_none P R Q f None h = f h
weaker_none P R Q f (Some ds) h = h

pub strong_or_fails : (boxed : OwnedBox) → ExecutesEarliest (plain_owned boxed) → all_pairs_pass stay_apart (windows_in boxed).spans ≡ true → all_calm (windows_in boxed) ≡ true →
    (r : Option (List ℕ)) → MatchOption r (IsKept (windows_in boxed)) (IsFailure (plain_owned boxed)) → MatchOption r (IsStrong (plain_owned boxed)) (IsFailure (plain_owned boxed))
strong_or_fails boxed runs apart calm r h =
    weaker_none (IsKept (windows_in boxed)) (IsStrong (plain_owned boxed)) (IsFailure (plain_owned boxed))
    (λ kept. strong_if_kept (plain_owned boxed) (boxes_are_well_made boxed) runs apart calm kept) r h

-- ---- verdicts

pub verdict_tells : (box : PlainBox) (v : Verdict) → IsVerdictOn box v → (v ≡ Strong) ↔ IsStrong box
verdict_tells box Strong h = (λ e. h, λ s. refl)
verdict_tells box (Weak ds) h = (λ e. absurd (cc), λ s. absurd (failures_mean_weakness box ds h s))
