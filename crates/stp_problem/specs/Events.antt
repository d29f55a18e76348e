-- The events of the environment of a problem: the literals of one time are one event.
use Rattle.std.specs.Prelude.{ℕ, ◌+◌, nat_lt, Bool, true, false, not, ◌&&◌, if◌then◌else◌, List, [], ◌∷◌, ◌++◌, map, filter, length, slice_get, Option, Some, None}
use Rattle.std.specs.List.{insert}
use Rattle.std.specs.Ordering.{match_ordering, is_eq}
use Rattle.stp_base.specs.declared.limits.TheConstants.{MAX_TIMED, MAX_EVENTS}
use Rattle.stp_refusal.specs.declared.code.Code.TheVariants.{P15, P17}
use Rattle.stp_refusal.specs.declared.offence.Offence.{Offence}
use Rattle.stp_refusal.specs.Read.{Read, fine, bad, given, offence_at}
use Rattle.stp_frac.specs.Fractions.{Fraction, order_of, is_less}
use Rattle.stp_schema.specs.Timed.{PlainLiteral, PlainTimedFact}
use Rattle.stp_problem.specs.TimedItems.{PlainTimedItem}

-- whether the environment chooses the time of an item's event
abbrev pub is_open : PlainTimedItem → Bool
is_open i = is_less i.low i.high

-- ---- times of timed literals

-- Where a time is to stand among others in order, the first of which has this place; nowhere where it is one of them.
abbrev pub place_from : ℕ → Fraction → List Fraction → Option ℕ
place_from place time [] = Some place
place_from place time (t ∷ ts) = match_ordering (order_of time t) (Some place) None (place_from (place + 1) time ts)

abbrev pub with_time : List Fraction → Fraction → List Fraction
with_time times time = given times (λ place. insert times place time) (place_from 0 time times)

abbrev pub has_literal : List PlainLiteral → Bool
has_literal [] = false
has_literal (l ∷ ls) = true

-- whether an item has literals, and they come at one time
abbrev pub has_time : PlainTimedItem → Bool
has_time i = not (is_open i) && has_literal i.literals

-- times, with that of an item
abbrev pub with_item_time : List Fraction → PlainTimedItem → List Fraction
with_item_time times i = if has_time i then with_time times i.low else times

-- The times of these items and those before them, in order. The first item with one time more than are accepted is an offence.
abbrev pub times_from : List Fraction → List PlainTimedItem → Read (List Fraction)
times_from times [] = fine times
times_from times (i ∷ is) =
    if nat_lt MAX_TIMED (length (with_item_time times i))
    then bad i.at P15 (with_item_time times i)
    else times_from (with_item_time times i) is

abbrev pub times_read : List PlainTimedItem → Read (List Fraction)
times_read items = times_from [] items

-- ---- events

-- the literals of the items at a time, in the order of the text
abbrev pub literals_at : Fraction → List PlainTimedItem → List PlainLiteral
literals_at time [] = []
literals_at time (i ∷ is) = (if not (is_open i) && is_eq (order_of i.low time) then i.literals else []) ++ literals_at time is

abbrev pub event_at : List PlainTimedItem → Fraction → PlainTimedFact
event_at items time = record { low = time; high = time; literals = literals_at time items }

abbrev pub open_event : PlainTimedItem → PlainTimedFact
open_event i = record { low = i.low; high = i.high; literals = i.literals }

abbrev pub open_items : List PlainTimedItem → List PlainTimedItem
open_items items = filter is_open items

-- the events at these times, and then those whose times the environment chooses
abbrev pub events_at : List Fraction → List PlainTimedItem → List PlainTimedFact
events_at times items = map (event_at items) times ++ map open_event (open_items items)

abbrev pub events_of : List PlainTimedItem → List PlainTimedFact
events_of items = events_at (times_read items).value items

-- the first of these with one more than are accepted
abbrev pub too_many : List PlainTimedItem → List Offence
too_many items = given [] (λ i. offence_at i.at P17) (slice_get items MAX_EVENTS)

-- two phases: too many times, and then too many events whose times the environment chooses
abbrev pub events_wrong : List PlainTimedItem → List (List Offence)
events_wrong items = (times_read items).offences ∷ too_many (open_items items) ∷ []
