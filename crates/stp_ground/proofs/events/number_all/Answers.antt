use Rattle.std.proofs.Common.{arith, flat_map, ap, ◌∙◌}
use Rattle.stp_schema.specs.Timed.{timed_fact_of, timed_facts_of}
use Rattle.stp_instance.specs.Numbered.{with_atoms}
use Rattle.stp_ground.specs.Problems.{atoms_of_event}
use Rattle.stp_ground.proofs.Firsts.{atoms_more}
use Rattle.stp_ground.proofs.Grown.{grown_more}
use Rattle.stp_ground.proofs.events.number_all.Goals as goal

pub loop-event-preserved : goal.loop-event-preserved
loop-event-preserved c = record {
  atoms = atoms_more timed_fact_of atoms_of_event c.args.events.now c.loop-event.event-index c.event-item.result c.loop-event.table _ (with_atoms c.args.table.now (flat_map atoms_of_event (timed_facts_of c.args.events.now))) (omega arith)
      (c.in_ok-number_literals.ensures.atoms ∙ ap (λ e. with_atoms c.loop-event.table (atoms_of_event (timed_fact_of e))) c.event-item.is)
      c.loop-event.invariant.atoms;
  grown = grown_more c.args.table.now c.loop-event.table c.number_literals.new.table c.loop-event.invariant.grown c.in_ok-number_literals.ensures.grown;
}
