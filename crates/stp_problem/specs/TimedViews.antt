-- What items that tell events stand for.
use Rattle.std.specs.Prelude.{List, map}
use Rattle.stp_frac.specs.declared.frac.Frac.{Frac}
use Rattle.stp_frac.specs.Fractions.{Fraction, value_of}
use Rattle.stp_schema.specs.Timed.{literal_of}
use Rattle.stp_problem.specs.declared.timed_item.TimedItem.{TimedItem}
use Rattle.stp_problem.specs.TimedItems.{PlainTimedItem}

abbrev pub timed_item_of : TimedItem → PlainTimedItem
timed_item_of i = record { at = i.at; low = value_of i.window.low; high = value_of i.window.high; literals = map literal_of i.literals.now }

abbrev pub timed_items_of : List TimedItem → List PlainTimedItem
timed_items_of items = map timed_item_of items

abbrev pub times_of : List Frac → List Fraction
times_of times = map value_of times
