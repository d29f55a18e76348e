-- What times in an arena stand for.
use Rattle.std.specs.Prelude.{map}
use Rattle.stp_schema.specs.Timed.{timed_facts_of}
use Rattle.stp_exec.specs.declared.times.Times.{Times}
use Rattle.stp_exec.specs.Timed.{PlainTimes, plain_timed}

abbrev pub plain_times : Times → PlainTimes
plain_times times = record { steps = map plain_timed times.steps.items; events = timed_facts_of times.events.now }
