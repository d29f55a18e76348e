-- Verdicts on boxes.
use Rattle.std.specs.Prelude.{[]}
use Rattle.stp_happen.specs.Boxes.{PlainBox, IsStrong, run_under}
use Rattle.stp_happen.specs.LeastFailure.{IsFailure}
use Rattle.stp_happen.specs.Plain.{Executes}
use Rattle.stp_strength.specs.Vectors.{vector_of}
use Rattle.stp_check.specs.Choices.{near_to}
use Rattle.stp_check.specs.declared.verdicts.Verdict.{Verdict}
use Rattle.stp_check.specs.declared.verdicts.Verdict.TheVariants.{Strong, Weak}

-- the box is strong, or it fails at the durations of the verdict
abbrev pub IsVerdictOn : PlainBox → Verdict → Type 0
IsVerdictOn box Strong = IsStrong box
IsVerdictOn box (Weak durations) = IsFailure box durations

-- the box executes where each step ends as soon as it can
abbrev pub ExecutesEarliest : PlainBox → Type 0
ExecutesEarliest box = Executes (run_under box (vector_of box (near_to [] 0)))
