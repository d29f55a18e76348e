-- The table so far, once it has the fluent facts that are left, is the table in the end.
use Rattle.std.proofs.Common.{◌≡◌, map, drop}
use Rattle.stp_schema.specs.Views.{fact_of}
use Rattle.stp_instance.specs.Numbered.{is_fluent, IsGrown, with_atoms}
use Rattle.stp_ground.specs.Problems.{fluent_facts}
use Rattle.stp_ground.proofs.beginning.number_facts.Given as goal

abbrev pub invariant-loop-fact : goal.invariant-loop-fact
invariant-loop-fact l = record {
  atoms : with_atoms l.table (fluent_facts (is_fluent l.fluent) (map fact_of (drop l.fact-index l.given))) ≡ with_atoms l.fn.table (fluent_facts (is_fluent l.fluent) (map fact_of l.given));
  grown : IsGrown l.fn.table l.table;
}
