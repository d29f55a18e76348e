-- The durations at which a box fails, and the first of them.
use Rattle.std.specs.Prelude.{◌≡◌, ℕ, false, List}
use Rattle.std.specs.Cmp.Lexicographic.{slice_cmp}
use Rattle.std.specs.Ordering.{nat_cmp, is_lt}
use Rattle.stp_happen.specs.Boxes.{PlainBox, run_under, IsVector}
use Rattle.stp_happen.specs.Plain.{Executes}

-- durations on the box's own grid whose run does not execute
pub record IsFailure (box : PlainBox) (durations : List ℕ) : Type 0 where
  pub vector : IsVector box.owners durations
  pub fails : Executes (run_under box durations) → ⊥

-- no other such durations come before these in dictionary order
pub record IsLeastFailure (box : PlainBox) (durations : List ℕ) : Type 0 where
  pub failure : IsFailure box durations
  pub least : (other : List ℕ) → IsFailure box other → is_lt (slice_cmp nat_cmp other durations) ≡ false

-- there is at most one least failure
abbrev pub LeastFailureIsOne : Type 0
LeastFailureIsOne = (box : PlainBox) (one other : List ℕ) → IsLeastFailure box one → IsLeastFailure box other → one ≡ other
