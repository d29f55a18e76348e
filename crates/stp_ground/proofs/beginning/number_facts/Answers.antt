use Rattle.std.proofs.Common.{arith, map}
use Rattle.stp_schema.specs.Views.{fact_of}
use Rattle.stp_instance.specs.Numbered.{is_fluent, with_atoms}
use Rattle.stp_ground.specs.Problems.{fluent_fact, fluent_facts}
use Rattle.stp_ground.proofs.Firsts.{atoms_more}
use Rattle.stp_ground.proofs.Grown.{grown_more}
use Rattle.stp_ground.proofs.beginning.number_facts.Goals as goal

pub loop-fact-preserved : goal.loop-fact-preserved
loop-fact-preserved c = record {
  atoms = atoms_more fact_of (fluent_fact (is_fluent c.args.fluent.now)) c.args.given.now c.loop-fact.fact-index _ c.loop-fact.table _ (with_atoms c.args.table.now (fluent_facts (is_fluent c.args.fluent.now) (map fact_of c.args.given.now))) (omega arith) c.in_ok-number_fact.ensures.atoms c.loop-fact.invariant.atoms;
  grown = grown_more c.args.table.now c.loop-fact.table c.number_fact.new.table c.loop-fact.invariant.grown c.in_ok-number_fact.ensures.grown;
}
