-- Formulas that have one truth whichever ends have come, and ends at which they have another.
use Rattle.std.specs.Prelude.{◌≡◌, ℕ, Bool, true, not, List, Contains}
use Rattle.stp_cond.specs.declared.cond.Cond.{Cond}
use Rattle.stp_cond.specs.Atoms.{has}
use Rattle.stp_cond.specs.Truth.{truth}
use Rattle.stp_window.specs.Windows.{Point}
use Rattle.stp_split.specs.Cases.{written, have_come, turns, turns_at}

-- ---- one formula

-- whichever ends have come, the formula has the truth that is wanted
abbrev pub IsAlways : Cond → Bool → List Point → (ℕ → Bool) → Type 0
IsAlways cond want ends state = (came : Point → Bool) → truth (written ends came state) cond ≡ want

-- Where the ends of these steps have come, and no others, the formula does not have the truth that is wanted.
-- Each of them would change an atom of the formula.
pub record FailsAt (cond : Cond) (want : Bool) (ends : List Point) (state : ℕ → Bool) (steps : List ℕ) : Type 0 where
  pub fails : truth (written ends (have_come steps) state) cond ≡ not want
  pub few : (n : ℕ) → has steps n ≡ true → (p : Point) × Contains ends p × (p.step ≡ n) × (turns p state cond ≡ true)

-- ---- several formulas

-- each of the formulas always has the truth that is wanted
abbrev pub EachAlways : List Cond → Bool → List Point → (ℕ → Bool) → Type 0
EachAlways conds want ends state = (c : Cond) → Contains conds c → IsAlways c want ends state

-- one of the formulas does not have the truth that is wanted where the ends of these steps have come
abbrev pub OneFails : List Cond → Bool → List Point → (ℕ → Bool) → List ℕ → Type 0
OneFails conds want ends state steps = (c : Cond) × Contains conds c × FailsAt c want ends state steps

-- whichever ends have come, some formula has the truth that is wanted
abbrev pub SomeAlways : List Cond → Bool → List Point → (ℕ → Bool) → Type 0
SomeAlways conds want ends state = (came : Point → Bool) → (c : Cond) × Contains conds c × (truth (written ends came state) c ≡ want)

-- Where the ends of these steps have come, and no others, none of the formulas has the truth that is wanted.
-- Each of them would change an atom of a formula.
pub record EachFails (conds : List Cond) (want : Bool) (ends : List Point) (state : ℕ → Bool) (steps : List ℕ) : Type 0 where
  pub fails : (c : Cond) → Contains conds c → truth (written ends (have_come steps) state) c ≡ not want
  pub few : (n : ℕ) → has steps n ≡ true → (p : Point) × Contains ends p × (p.step ≡ n) × ((c : Cond) × Contains conds c × (turns p state c ≡ true))

-- ---- one atom

-- whichever ends have come, the atom has the value that is wanted
abbrev pub IsAtomAlways : ℕ → Bool → List Point → (ℕ → Bool) → Type 0
IsAtomAlways atom want ends state = (came : Point → Bool) → written ends came state atom ≡ want

-- where the ends of these steps have come, it does not; each of them would change it
pub record AtomFailsAt (atom : ℕ) (want : Bool) (ends : List Point) (state : ℕ → Bool) (steps : List ℕ) : Type 0 where
  pub fails : written ends (have_come steps) state atom ≡ not want
  pub few : (n : ℕ) → has steps n ≡ true → (p : Point) × Contains ends p × (p.step ≡ n) × (turns_at p state atom ≡ true)
