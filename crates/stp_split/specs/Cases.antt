-- What ends make of a state, of which each may have come or not.
use Rattle.std.specs.Prelude.{◌≡◌, ℕ, ◌==◌, Bool, true, not, ◌&&◌, if◌then◌else◌, List, filter, Contains}
use Rattle.std.specs.List.{list_any}
use Rattle.stp_cond.specs.declared.cond.Cond.{Cond}
use Rattle.stp_cond.specs.Atoms.{has}
use Rattle.stp_cond.specs.Formulas.{view, atoms_in}
use Rattle.stp_window.specs.Windows.{Point}
use Rattle.stp_window.specs.Certain.{sets}

-- the way of an end that has come and writes the atom, and else as it was
abbrev pub written : List Point → (Point → Bool) → (ℕ → Bool) → ℕ → Bool
written ends came state a = if list_any (λ p. came p && sets p a) ends then list_any (λ p. came p && has p.event.adds a) ends else state a

-- ends of which each may have come or not: one a step, and no two write an atom opposite ways
pub record AreCases (ends : List Point) : Type 0 where
  pub one_each : (p q : Point) → Contains ends p → Contains ends q → p.step ≡ q.step → p ≡ q
  pub alike : (a : ℕ) (p q : Point) → Contains ends p → Contains ends q → sets p a ≡ true → sets q a ≡ true → has p.event.adds a ≡ has q.event.adds a

-- the ends of these steps have come
abbrev pub have_come : List ℕ → Point → Bool
have_come steps p = has steps p.step

-- the ends of all other steps
abbrev pub without_step : ℕ → List Point → List Point
without_step n ends = filter (λ p. not (p.step == n)) ends

-- the atoms of a formula
abbrev pub atoms_read : Cond → List ℕ
atoms_read cond = atoms_in (view cond)

-- whether an end writes the value that an atom does not have
abbrev pub turns_at : Point → (ℕ → Bool) → ℕ → Bool
turns_at p state a = if has p.event.adds a then not (state a) else (has p.event.dels a && state a)

-- whether an end would change an atom of a formula
abbrev pub turns : Point → (ℕ → Bool) → Cond → Bool
turns p state cond = list_any (turns_at p state) (atoms_read cond)

-- no end would change both an atom of a formula and one of these formulas
abbrev pub ShareNone : List Point → (ℕ → Bool) → Cond → List Cond → Type 0
ShareNone ends state cond conds = (p : Point) → Contains ends p → turns p state cond ≡ true → (d : Cond) → Contains conds d → turns p state d ≡ true → ⊥

-- an end would change both an atom of a formula and one of these formulas
pub record IsShared (state : ℕ → Bool) (cond : Cond) (conds : List Cond) (p : Point) : Type 0 where
  pub first : turns p state cond ≡ true
  pub later : (d : Cond) × Contains conds d × (turns p state d ≡ true)
