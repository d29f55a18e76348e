-- Boxes: owners of events whose ends are chosen later, the run under chosen durations, and when a box is strong.
use Rattle.std.specs.Prelude.{◌≡◌, ℕ, ◌+◌, ◌*◌, ◌<◌, ◌≤◌, Bool, true, if◌then◌else◌, List, [], ◌∷◌, ◌++◌, map, drop, length, slice_index, Option, Some, None}
use Rattle.stp_cond.specs.Atoms.{PlainEvent}
use Rattle.stp_happen.specs.Plain.{PlainEntry, PlainSpan, PlainRun, Executes}

-- which action a step is of, and what has to hold inside it
pub record PlainInside : Type 0 where
  pub key : ℕ
  pub over : (ℕ → Bool) → Bool

-- An owner of events: a step of a plan, or an event of the environment. Its first event comes at the start, its
-- last at a moment from low to high, which is chosen where the owner is uncertain. An event of the environment
-- starts at 0, and has no first event and nothing inside.
pub record PlainOwner : Type 0 where
  pub number : ℕ
  pub start : ℕ
  pub low : ℕ
  pub high : ℕ
  pub uncertain : Bool
  pub first : Option PlainEvent
  pub last : Option PlainEvent
  pub inside : Option PlainInside

-- the owners of all events, the first state and the goal
pub record PlainBox : Type 0 where
  pub owners : List PlainOwner
  pub initial : ℕ → Bool
  pub goal : (ℕ → Bool) → Bool

-- ---- the run under chosen durations, one for each uncertain owner, in order

-- when an owner ends, the first of the durations being its own if it is uncertain
abbrev pub end_of : PlainOwner → List ℕ → ℕ
end_of o durations = if o.uncertain then o.start + slice_index durations 0 else o.high

-- the durations of the owners after it
abbrev pub rest_of : PlainOwner → List ℕ → List ℕ
rest_of o durations = if o.uncertain then drop 1 durations else durations

-- the entry of an event, if there is one
abbrev pub event_entries : ℕ → ℕ → Option PlainEvent → List PlainEntry
event_entries number time None = []
event_entries number time (Some event) = record { time = time; step = number; event = event } ∷ []

-- the entries of an owner that ends then
abbrev pub entries_of_owner : PlainOwner → ℕ → List PlainEntry
entries_of_owner o end = event_entries o.number o.start o.first ++ event_entries o.number end o.last

-- the span of what has to hold inside, if there is anything
abbrev pub inside_spans : ℕ → ℕ → ℕ → Option PlainInside → List PlainSpan
inside_spans number from to None = []
inside_spans number from to (Some inside) = record { from = from; to = to; step = number; key = inside.key; over = inside.over } ∷ []

-- the span of an owner that ends then
abbrev pub spans_of_owner : PlainOwner → ℕ → List PlainSpan
spans_of_owner o end = inside_spans o.number o.start end o.inside

abbrev pub entries_under : List PlainOwner → List ℕ → List PlainEntry
entries_under [] durations = []
entries_under (o ∷ os) durations = entries_of_owner o (end_of o durations) ++ entries_under os (rest_of o durations)

abbrev pub spans_under : List PlainOwner → List ℕ → List PlainSpan
spans_under [] durations = []
spans_under (o ∷ os) durations = spans_of_owner o (end_of o durations) ++ spans_under os (rest_of o durations)

-- the run of a box under these durations
abbrev pub run_under : PlainBox → List ℕ → PlainRun
run_under box durations = record {
  entries = entries_under box.owners durations;
  spans = spans_under box.owners durations;
  initial = box.initial;
  goal = box.goal;
}

-- an uncertain owner has a duration, and ends within its bounds
abbrev pub IsInInterval : PlainOwner → List ℕ → Type 0
IsInInterval o durations = o.uncertain ≡ true → (0 < length durations) × (o.low ≤ o.start + slice_index durations 0) × (o.start + slice_index durations 0 ≤ o.high)

-- one duration for each uncertain owner, in order, and none besides
abbrev pub IsVector : List PlainOwner → List ℕ → Type 0
IsVector [] durations = durations ≡ []
IsVector (o ∷ os) durations = IsInInterval o durations × IsVector os (rest_of o durations)

-- ---- finer grids

-- the same owner on a grid that is k times as fine
abbrev pub finer_owner : ℕ → PlainOwner → PlainOwner
finer_owner k o = record o { start = k * o.start; low = k * o.low; high = k * o.high }

abbrev pub finer_box : ℕ → PlainBox → PlainBox
finer_box k box = record box { owners = map (finer_owner k) box.owners }

-- on every finer grid and for every choice of the uncertain durations the run executes
abbrev pub IsStrong : PlainBox → Type 0
IsStrong box = (k : ℕ) → 0 < k → (durations : List ℕ) → IsVector (map (finer_owner k) box.owners) durations → Executes (run_under (finer_box k box) durations)
