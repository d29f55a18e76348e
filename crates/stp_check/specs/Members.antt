-- The members of what has to hold inside a step.
use Rattle.std.specs.Prelude.{◌≡◌, ℕ, Bool, List, map}
use Rattle.stp_cond.specs.declared.cond.Cond.{Cond}
use Rattle.stp_cond.specs.Truth.{all_of, truth, is_below}

-- formulas that hold together exactly where one formula does, and read the same atoms
pub record AreMembers (cond : Cond) (members : List Cond) : Type 0 where
  pub same : (state : ℕ → Bool) → truth state cond ≡ all_of (map (truth state) members)
  pub below : (n : ℕ) → is_below n cond ≡ all_of (map (is_below n) members)
