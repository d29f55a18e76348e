-- What steps and events of a box in an arena stand for.
use Rattle.std.specs.Prelude.{List, map, Option, Some, None}
use Rattle.stp_cond.specs.Truth.{meaning_of}
use Rattle.stp_cond.specs.Atoms.{PlainEvent}
use Rattle.stp_cond.specs.Events.{event_of}
use Rattle.stp_cond.specs.declared.event.Event.{Event}
use Rattle.stp_happen.specs.declared.boxes.BoxStep.{BoxStep}
use Rattle.stp_happen.specs.declared.boxes.BoxTimed.{BoxTimed}
use Rattle.stp_happen.specs.Owners.{PlainBoxStep, PlainBoxTimed}

abbrev pub some_event_of : Option Event → Option PlainEvent
some_event_of None = None
some_event_of (Some e) = Some (event_of e)

abbrev pub step_of : BoxStep → PlainBoxStep
step_of s = record { start = s.start; low = s.low; high = s.high; uncertain = s.uncertain; key = s.key; first = event_of s.first; last = some_event_of s.last; over = meaning_of s.over.now }

abbrev pub steps_of : List BoxStep → List PlainBoxStep
steps_of steps = map step_of steps

abbrev pub plain_timed : BoxTimed → PlainBoxTimed
plain_timed e = record { low = e.low; high = e.high; uncertain = e.uncertain; event = event_of e.event }

abbrev pub timed_of : List BoxTimed → List PlainBoxTimed
timed_of timed = map plain_timed timed
