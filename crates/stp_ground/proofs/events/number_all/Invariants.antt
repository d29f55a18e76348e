-- The table so far, once it has the atoms of the events that are left, is the table in the end.
use Rattle.std.proofs.Common.{◌≡◌, flat_map, drop}
use Rattle.stp_schema.specs.Timed.{timed_facts_of}
use Rattle.stp_instance.specs.Numbered.{IsGrown, with_atoms}
use Rattle.stp_ground.specs.Problems.{atoms_of_event}
use Rattle.stp_ground.proofs.events.number_all.Given as goal

abbrev pub invariant-loop-event : goal.invariant-loop-event
invariant-loop-event l = record {
  atoms : with_atoms l.table (flat_map atoms_of_event (timed_facts_of (drop l.event-index l.events))) ≡ with_atoms l.fn.table (flat_map atoms_of_event (timed_facts_of l.events));
  grown : IsGrown l.fn.table l.table;
}
