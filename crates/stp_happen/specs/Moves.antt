-- Runs whose moments are moved without a change of their order.
use Rattle.std.specs.Prelude.{◌≡◌, ℕ, ◌*◌, ◌<◌, ◌↔◌, false, List, [], ◌++◌, map, All, Contains}
use Rattle.stp_happen.specs.Plain.{PlainEntry, PlainSpan, PlainRun, Executes}
use Rattle.stp_happen.specs.Boxes.{PlainBox, run_under, finer_box, IsStrong}

abbrev pub moved_entry : (ℕ → ℕ) → PlainEntry → PlainEntry
moved_entry f e = record e { time = f e.time }

abbrev pub moved_span : (ℕ → ℕ) → PlainSpan → PlainSpan
moved_span f s = record s { from = f s.from; to = f s.to }

-- the same run, each moment t moved to f t
abbrev pub moved : (ℕ → ℕ) → PlainRun → PlainRun
moved f run = record run { entries = map (moved_entry f) run.entries; spans = map (moved_span f) run.spans }

-- the times of the entries, and both ends of the spans
abbrev pub moments : PlainRun → List ℕ
moments run = map (λ e. e.time) run.entries ++ (map (λ s. s.from) run.spans ++ map (λ s. s.to) run.spans)

-- of these moments an earlier one is moved to an earlier one
abbrev pub KeepsOrder : (ℕ → ℕ) → List ℕ → Type 0
KeepsOrder f xs = (x y : ℕ) → Contains xs x → Contains xs y → x < y → f x < f y

-- a run executes exactly where it does with its moments moved in order
abbrev pub MovedRunsAgree : Type 0
MovedRunsAgree = (f : ℕ → ℕ) (run : PlainRun) → KeepsOrder f (moments run) → Executes run ↔ Executes (moved f run)

-- ---- finer grids

-- the same run on a grid that is k times as fine
abbrev pub finer : ℕ → PlainRun → PlainRun
finer k run = moved (λ t. k * t) run

-- a run executes exactly where it does on a finer grid
abbrev pub FinerRunsAgree : Type 0
FinerRunsAgree = (k : ℕ) (run : PlainRun) → 0 < k → Executes run ↔ Executes (finer k run)

-- the run of the finer box under k times the durations is the finer run
abbrev pub FinerBoxesMakeFinerRuns : Type 0
FinerBoxesMakeFinerRuns = (k : ℕ) (box : PlainBox) (durations : List ℕ) → run_under (finer_box k box) (map (λ d. k * d) durations) ≡ finer k (run_under box durations)

-- a box without uncertain owners is strong exactly where its one run executes
abbrev pub CertainBoxesAreStrong : Type 0
CertainBoxesAreStrong = (box : PlainBox) → All (λ o. o.uncertain ≡ false) box.owners → IsStrong box ↔ Executes (run_under box [])
