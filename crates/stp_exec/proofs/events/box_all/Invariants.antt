-- The events so far, and then those that are left, are all events.
use Rattle.std.proofs.Common.{length}
use Rattle.std.specs.List.{All}
use Rattle.stp_schema.specs.Timed.{timed_fact_of}
use Rattle.stp_happen.specs.SoundBox.{IsBoxTimed}
use Rattle.stp_happen.specs.StepViews.{plain_timed}
use Rattle.stp_exec.specs.Plans.{timed_in}
use Rattle.stp_exec.proofs.Making.{AreMade}
use Rattle.stp_exec.proofs.events.box_all.Given as goal

abbrev pub invariant-loop-event : goal.invariant-loop-event
invariant-loop-event l = record {
  stand : AreMade timed_fact_of (timed_in l.table l.grid) plain_timed l.timed l.event-index l.events;
  sound : All (IsBoxTimed l.grid (length l.table)) l.timed;
}
