-- Rows by which atoms get shadows, and what is known of the ends of actions.
use Rattle.std.specs.Prelude.{ℕ, ◌+◌, Bool, false, ◌||◌, if◌then◌else◌, List, map, filter, length, Option, Some, None}
use Rattle.std.specs.List.{range_with_len}
use Rattle.stp_cond.specs.Atoms.{has}
use Rattle.stp_task.specs.Actions.{PlainAction, PlainHappening}
use Rattle.stp_rewrite.specs.RewrittenTasks.{end_of}

abbrev pub writes : PlainHappening → ℕ → Bool
writes e a = has e.adds a || has e.dels a

abbrev pub writes_if : Option PlainHappening → ℕ → Bool
writes_if None a = false
writes_if (Some e) a = writes e a

-- whether the end of an uncertain action writes an atom
abbrev pub writes_at_end : PlainAction → ℕ → Bool
writes_at_end action a = writes_if (end_of action) a

-- how many atoms below a number pass
abbrev pub passing_below : (ℕ → Bool) → ℕ → ℕ
passing_below test n = length (filter test (range_with_len 0 n))

-- the atoms below n that pass have numbers in their order, from n on
abbrev pub number_if : (ℕ → Bool) → ℕ → ℕ → Option ℕ
number_if test first a = if test a then Some (first + passing_below test a) else None

abbrev pub numbers_if : (ℕ → Bool) → ℕ → ℕ → List (Option ℕ)
numbers_if test first n = map (number_if test first) (range_with_len 0 n)
