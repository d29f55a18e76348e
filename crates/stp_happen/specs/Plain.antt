-- Runs of events, and when they execute.
use Rattle.std.specs.Prelude.{◌≡◌, ℕ, ◌<◌, ◌≤◌, nat_lt, nat_le, Bool, true, false, not, ◌&&◌, ◌||◌, if◌then◌else◌, List, filter, All, ◌⊎◌}
use Rattle.std.specs.List.{list_any, list_all}
use Rattle.stp_cond.specs.Atoms.{PlainEvent, has, interfere}

-- an event of a step at a moment
pub record PlainEntry : Type 0 where
  pub time : ℕ
  pub step : ℕ
  pub event : PlainEvent

-- when a step runs, which action it is of, and what has to hold inside
pub record PlainSpan : Type 0 where
  pub from : ℕ
  pub to : ℕ
  pub step : ℕ
  pub key : ℕ
  pub over : (ℕ → Bool) → Bool

pub record PlainRun : Type 0 where
  pub entries : List PlainEntry
  pub spans : List PlainSpan
  pub initial : ℕ → Bool
  pub goal : (ℕ → Bool) → Bool

-- ---- states

abbrev pub writes : PlainEntry → ℕ → Bool
writes e atom = has e.event.adds atom || has e.event.dels atom

-- no entry writes the atom after the moment
abbrev pub is_latest_write : List PlainEntry → ℕ → ℕ → Bool
is_latest_write entries atom time = list_all (λ e. not (writes e atom) || nat_le e.time time) entries

-- What these entries leave: an atom is true where some entry adds it at the latest moment at which any
-- entry writes it; where none writes it, it is as in the first state.
abbrev pub state_after : (ℕ → Bool) → List PlainEntry → ℕ → Bool
state_after initial entries atom =
    if list_any (λ e. writes e atom) entries
    then list_any (λ e. has e.event.adds atom && is_latest_write entries atom e.time) entries
    else initial atom

abbrev pub after : PlainRun → ℕ → ℕ → Bool
after run time = state_after run.initial (filter (λ e. nat_le e.time time) run.entries)

abbrev pub before : PlainRun → ℕ → ℕ → Bool
before run time = state_after run.initial (filter (λ e. nat_lt e.time time) run.entries)

abbrev pub at_end : PlainRun → ℕ → Bool
at_end run = state_after run.initial run.entries

-- ---- execution

-- no interference of two steps in one moment
abbrev pub AreCalm : PlainEntry → PlainEntry → Type 0
AreCalm e o = (e.step ≡ o.step → ⊥) → e.time ≡ o.time → interfere e.event o.event ≡ false

-- an event finds what it needs in the state before its moment
abbrev pub IsFed : PlainRun → PlainEntry → Type 0
IsFed run e = e.event.cond (before run e.time) ≡ true

-- what has to hold inside a span does after an entry's moment, where that is from its start on and before its end
abbrev pub IsKept : PlainRun → PlainEntry → PlainSpan → Type 0
IsKept run e s = s.from ≤ e.time → e.time < s.to → s.over (after run e.time) ≡ true

-- the closed spans of two steps of one action do not meet
abbrev pub AreApart : PlainSpan → PlainSpan → Type 0
AreApart s o = (s.step ≡ o.step → ⊥) → s.key ≡ o.key → (s.to < o.from) ⊎ (o.to < s.from)

-- a run executes
pub record Executes (run : PlainRun) : Type 0 where
  pub calm : All (λ e. All (AreCalm e) run.entries) run.entries
  pub fed : All (IsFed run) run.entries
  pub kept : All (λ e. All (IsKept run e) run.spans) run.entries
  pub apart : All (λ s. All (AreApart s) run.spans) run.spans
  pub reached : run.goal (at_end run) ≡ true
