-- What each run keeps.
use Rattle.std.specs.Prelude.{◌≡◌, ℕ, ◌*◌, ◌≤◌, ◌==◌, nat_lt, Bool, true, ◌&&◌, ◌||◌, List, [], ◌∷◌, length, All}
use Rattle.std.specs.List.{list_all}
use Rattle.stp_base.specs.declared.limits.TheConstants.{MAX_GRID, MAX_TIME}
use Rattle.stp_cond.specs.declared.cond.Cond.{Cond}
use Rattle.stp_cond.specs.Truth.{is_below}
pub use Rattle.stp_cond.specs.Events.{IsEventInRange}
use Rattle.stp_happen.specs.declared.run.Entry.{Entry}
use Rattle.stp_happen.specs.declared.run.Span.{Span}

-- whether each item comes before all that stand after it
abbrev pub is_ascending : {A : Type 0} → (A → A → Bool) → List A → Bool
is_ascending comes_before [] = true
is_ascending comes_before (x ∷ xs) = list_all (comes_before x) xs && is_ascending comes_before xs

-- by time, then by step
abbrev pub entry_before : Entry → Entry → Bool
entry_before e o = nat_lt e.time o.time || ((e.time == o.time) && nat_lt e.step.0 o.step.0)

abbrev pub span_before : Span → Span → Bool
span_before s o = nat_lt s.step.0 o.step.0

-- the greatest moment on a grid
abbrev pub last_moment : ℕ → ℕ
last_moment grid = MAX_TIME * grid

pub record IsEntryInRange (grid n : ℕ) (e : Entry) : Type 0 where
  pub time : e.time ≤ last_moment grid
  pub event : IsEventInRange n e.event

pub record IsSpanInRange (grid n : ℕ) (s : Span) : Type 0 where
  pub up : s.from ≤ s.to
  pub to : s.to ≤ last_moment grid
  pub over : is_below n s.over.now ≡ true

-- What each run keeps: a grid from 1 to 999,999,999; entries by time and then by step, none twice; one
-- span for a step; moments on the grid within 999,999,999 units; and atoms that the first state has.
pub record IsRun (grid : ℕ) (entries : List Entry) (spans : List Span) (initial : List Bool) (goal : Cond) : Type 0 where
  pub grid_low : 1 ≤ grid
  pub grid_high : grid ≤ MAX_GRID
  pub entries_ordered : is_ascending entry_before entries ≡ true
  pub spans_ordered : is_ascending span_before spans ≡ true
  pub entries_in_range : All (IsEntryInRange grid (length initial)) entries
  pub spans_in_range : All (IsSpanInRange grid (length initial)) spans
  pub goal_in_range : is_below (length initial) goal ≡ true
