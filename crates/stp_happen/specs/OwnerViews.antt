-- What owners in an arena stand for.
use Rattle.std.specs.Prelude.{List, map, Option, Some, None}
use Rattle.stp_cond.specs.Truth.{meaning_of}
use Rattle.stp_happen.specs.declared.owners.Inside.{Inside}
use Rattle.stp_happen.specs.declared.owners.Owner.{Owner}
use Rattle.stp_happen.specs.Boxes.{PlainInside, PlainOwner}
use Rattle.stp_happen.specs.StepViews.{some_event_of}

abbrev pub plain_inside : Inside → PlainInside
plain_inside i = record { key = i.key; over = meaning_of i.over.now }

abbrev pub some_inside_of : Option Inside → Option PlainInside
some_inside_of None = None
some_inside_of (Some i) = Some (plain_inside i)

abbrev pub plain_owner : Owner → PlainOwner
plain_owner o = record {
  number = o.number;
  start = o.start;
  low = o.low;
  high = o.high;
  uncertain = o.uncertain;
  first = some_event_of o.first;
  last = some_event_of o.last;
  inside = some_inside_of o.inside;
}

abbrev pub plain_owners : List Owner → List PlainOwner
plain_owners owners = map plain_owner owners
