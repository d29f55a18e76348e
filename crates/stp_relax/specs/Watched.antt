-- Which actions read an atom.
use Rattle.std.specs.Prelude.{◌≡◌, ℕ, ◌<◌, Bool, true, false, ◌||◌, List, [], length, slice_index_or, Option, Some, None}
use Rattle.stp_cond.specs.Atoms.{has}
use Rattle.stp_cond.specs.Formulas.{Formula, atoms_in}
use Rattle.stp_task.specs.declared.action.GroundAction.{GroundAction}
use Rattle.stp_task.specs.Actions.{PlainAction, PlainHappening, action_of}

abbrev pub is_read_in_the_end : Formula → Option PlainHappening → ℕ → Bool
is_read_in_the_end over None atom = false
is_read_in_the_end over (Some e) atom = has e.reads atom || has (atoms_in over) atom

-- whether it may depend on an atom which events of an action are possible
abbrev pub is_read : PlainAction → ℕ → Bool
is_read action atom = has action.start.reads atom || is_read_in_the_end action.over action.finish atom

-- whether a number stands at an atom
abbrev pub stands_at : List (List ℕ) → ℕ → ℕ → Bool
stands_at readers atom number = has (slice_index_or readers atom []) number

-- a number was put at these atoms
pub record IsPut (atoms : List ℕ) (number : ℕ) (old new : List (List ℕ)) : Type 0 where
  pub size : length new ≡ length old
  pub kept : (a j : ℕ) → stands_at old a j ≡ true → stands_at new a j ≡ true
  pub put : (a : ℕ) → has atoms a ≡ true → stands_at new a number ≡ true

-- an action's number was put at the atoms that it reads
pub record IsWatched (action : PlainAction) (number : ℕ) (old new : List (List ℕ)) : Type 0 where
  pub size : length new ≡ length old
  pub kept : (a j : ℕ) → stands_at old a j ≡ true → stands_at new a j ≡ true
  pub put : (a : ℕ) → is_read action a ≡ true → stands_at new a number ≡ true

-- the place of each action stands at the atoms that it reads
abbrev pub AreWatched : List GroundAction → List (List ℕ) → Type 0
AreWatched actions readers = (j : ℕ) (d : GroundAction) (a : ℕ) → j < length actions → is_read (action_of (slice_index_or actions j d)) a ≡ true → stands_at readers a j ≡ true
