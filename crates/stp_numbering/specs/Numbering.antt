-- Runs and boxes over another numbering of their atoms.
use Rattle.std.specs.Prelude.{◌≡◌, ℕ, ◌↔◌, Bool, List, map, option_map}
use Rattle.stp_cond.specs.Atoms.{PlainEvent}
use Rattle.stp_happen.specs.Plain.{PlainEntry, PlainSpan, PlainRun, Executes}
use Rattle.stp_happen.specs.Boxes.{PlainInside, PlainOwner, PlainBox, run_under, IsStrong}

-- no two atoms get one number
abbrev pub IsOneToOne : (ℕ → ℕ) → Type 0
IsOneToOne f = (a b : ℕ) → f a ≡ f b → a ≡ b

-- each atom has in a state by the new numbers the value that it has in one by the old ones
abbrev pub AgreesUnder : (ℕ → ℕ) → (ℕ → Bool) → (ℕ → Bool) → Type 0
AgreesUnder f old new = (a : ℕ) → new (f a) ≡ old a

-- the same test of states by the new numbers
abbrev pub renamed_test : (ℕ → ℕ) → ((ℕ → Bool) → Bool) → (ℕ → Bool) → Bool
renamed_test f test state = test (λ a. state (f a))

abbrev pub renamed_event : (ℕ → ℕ) → PlainEvent → PlainEvent
renamed_event f e = record { cond = renamed_test f e.cond; reads = map f e.reads; adds = map f e.adds; dels = map f e.dels }

-- ---- runs

abbrev pub renamed_entry : (ℕ → ℕ) → PlainEntry → PlainEntry
renamed_entry f e = record e { event = renamed_event f e.event }

abbrev pub renamed_span : (ℕ → ℕ) → PlainSpan → PlainSpan
renamed_span f s = record s { over = renamed_test f s.over }

-- the same run, each atom a renamed to f a, from a first state by the new numbers
abbrev pub renamed_run : (ℕ → ℕ) → (ℕ → Bool) → PlainRun → PlainRun
renamed_run f initial run = record {
  entries = map (renamed_entry f) run.entries;
  spans = map (renamed_span f) run.spans;
  initial = initial;
  goal = renamed_test f run.goal;
}

-- a run executes exactly where it does over another numbering of its atoms
abbrev pub NumberingIsFree : Type 0
NumberingIsFree = (f : ℕ → ℕ) (initial : ℕ → Bool) (run : PlainRun) → IsOneToOne f → AgreesUnder f run.initial initial → Executes run ↔ Executes (renamed_run f initial run)

-- ---- boxes

abbrev pub renamed_inside : (ℕ → ℕ) → PlainInside → PlainInside
renamed_inside f i = record i { over = renamed_test f i.over }

abbrev pub renamed_owner : (ℕ → ℕ) → PlainOwner → PlainOwner
renamed_owner f o = record o {
  first = option_map (renamed_event f) o.first;
  last = option_map (renamed_event f) o.last;
  inside = option_map (renamed_inside f) o.inside;
}

abbrev pub renamed_box : (ℕ → ℕ) → (ℕ → Bool) → PlainBox → PlainBox
renamed_box f initial box = record { owners = map (renamed_owner f) box.owners; initial = initial; goal = renamed_test f box.goal }

-- the run of the renamed box is the renamed run
abbrev pub RenamedBoxesMakeRenamedRuns : Type 0
RenamedBoxesMakeRenamedRuns = (f : ℕ → ℕ) (initial : ℕ → Bool) (box : PlainBox) (durations : List ℕ) → run_under (renamed_box f initial box) durations ≡ renamed_run f initial (run_under box durations)

-- a box is strong exactly where it is over another numbering of its atoms
abbrev pub StrengthIsFreeOfNumbering : Type 0
StrengthIsFreeOfNumbering = (f : ℕ → ℕ) (initial : ℕ → Bool) (box : PlainBox) → IsOneToOne f → AgreesUnder f box.initial initial → IsStrong box ↔ IsStrong (renamed_box f initial box)
