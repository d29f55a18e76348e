-- What entries and spans in an arena stand for.
use Rattle.std.specs.Prelude.{Bool, List, map}
use Rattle.stp_cond.specs.declared.cond.Cond.{Cond}
use Rattle.stp_cond.specs.Truth.{meaning_of, state_of_row}
use Rattle.stp_cond.specs.Events.{event_of}
use Rattle.stp_happen.specs.declared.run.Entry.{Entry}
use Rattle.stp_happen.specs.declared.run.Span.{Span}
use Rattle.stp_happen.specs.Plain.{PlainEntry, PlainSpan, PlainRun}

abbrev pub entry_of : Entry → PlainEntry
entry_of e = record { time = e.time; step = e.step.0; event = event_of e.event }

abbrev pub span_of : Span → PlainSpan
span_of s = record { from = s.from; to = s.to; step = s.step.0; key = s.key; over = meaning_of s.over.now }

abbrev pub entries_of : List Entry → List PlainEntry
entries_of entries = map entry_of entries

abbrev pub spans_of : List Span → List PlainSpan
spans_of spans = map span_of spans

-- the run that these make
abbrev pub run_of : List Entry → List Span → List Bool → Cond → PlainRun
run_of entries spans initial goal = record { entries = entries_of entries; spans = spans_of spans; initial = state_of_row initial; goal = meaning_of goal }
