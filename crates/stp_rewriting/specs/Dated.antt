-- The run of the dated list of a box: each end of an uncertain owner opens at its least moment and closes at its
-- greatest, and every other event comes at its moment.
use Rattle.std.specs.Prelude.{ℕ, nat_lt, ◌==◌, if◌then◌else◌, List, [], ◌∷◌, ◌++◌, map, Option, Some, None}
use Rattle.std.specs.List.{flat_map}
use Rattle.stp_cond.specs.Atoms.{PlainEvent}
use Rattle.stp_cond.specs.Truth.{state_of_row}
use Rattle.stp_happen.specs.Plain.{PlainEntry, PlainSpan, PlainRun}
use Rattle.stp_happen.specs.Boxes.{PlainInside, PlainOwner, PlainBox}
use Rattle.stp_window.specs.Windows.{Point, OpenSpan, WindowBox}
use Rattle.stp_rewriting.specs.Rewritten.{Rewriting, Kind, Settled, Opening, Closing, rewritten, over_of}
use Rattle.stp_rewriting.specs.Fitting.{key_inside}

-- a rewritten event of a kind at a moment
abbrev pub dated : Rewriting → Kind → ℕ → ℕ → ℕ → PlainEvent → PlainEntry
dated r kind key number time e = record { time = time; step = number; event = rewritten r kind key e }

-- ---- owners

-- the entry of the first event of an owner, if there is one
abbrev pub dated_first : Rewriting → PlainOwner → Option PlainEvent → List PlainEntry
dated_first r o None = []
dated_first r o (Some e) = dated r Settled (key_inside o.inside) o.number o.start e ∷ []

-- the entries of the last event of an owner, if there is one
abbrev pub dated_last : Rewriting → PlainOwner → Option PlainEvent → List PlainEntry
dated_last r o None = []
dated_last r o (Some e) =
    if o.uncertain
    then dated r Opening (key_inside o.inside) o.number o.low e ∷ dated r Closing (key_inside o.inside) o.number o.high e ∷ []
    else dated r Settled (key_inside o.inside) o.number o.high e ∷ []

abbrev pub dated_entries : Rewriting → List PlainOwner → List PlainEntry
dated_entries r [] = []
dated_entries r (o ∷ os) = (dated_first r o o.first ++ dated_last r o o.last) ++ dated_entries r os

-- the span of an action lasts to its greatest end
abbrev pub dated_inside : Rewriting → PlainOwner → Option PlainInside → List PlainSpan
dated_inside r o None = []
dated_inside r o (Some inside) = record { from = o.start; to = o.high; step = o.number; key = inside.key; over = over_of r inside.key } ∷ []

abbrev pub dated_spans : Rewriting → List PlainOwner → List PlainSpan
dated_spans r [] = []
dated_spans r (o ∷ os) = dated_inside r o o.inside ++ dated_spans r os

-- the run of the dated list of a box in the rewritten problem
abbrev pub dated_run : Rewriting → PlainBox → PlainRun
dated_run r box = record { entries = dated_entries r box.owners; spans = dated_spans r box.owners; initial = state_of_row r.initial; goal = box.goal }

-- ---- windows

-- when an event of a kind comes
abbrev pub time_of : Kind → Point → ℕ
time_of Settled p = p.high
time_of Opening p = p.low
time_of Closing p = p.high

abbrev pub dated_point : Rewriting → (ℕ → ℕ) → Kind → Point → PlainEntry
dated_point r key kind p = dated r kind (key p.step) p.step (time_of kind p) p.event

-- a point whose window is more than a moment opens and closes
abbrev pub dated_points : Rewriting → (ℕ → ℕ) → Point → List PlainEntry
dated_points r key p =
    if nat_lt p.low p.high
    then dated_point r key Opening p ∷ dated_point r key Closing p ∷ []
    else dated_point r key Settled p ∷ []

abbrev pub dated_span : Rewriting → OpenSpan → PlainSpan
dated_span r s = record { from = s.from; to = s.end.high; step = s.end.step; key = s.key; over = over_of r s.key }

-- the run of the dated list of windows, with the key of each number
abbrev pub dated_windows : Rewriting → (ℕ → ℕ) → WindowBox → PlainRun
dated_windows r key b = record { entries = flat_map (dated_points r key) b.points; spans = map (dated_span r) b.spans; initial = state_of_row r.initial; goal = b.goal }

-- the key of an owner by its number
abbrev pub key_among : List PlainOwner → ℕ → ℕ
key_among [] number = 0
key_among (o ∷ os) number = if number == o.number then key_inside o.inside else key_among os number
