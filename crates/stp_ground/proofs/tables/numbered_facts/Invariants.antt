-- The table so far, once it has the facts that are left, is the table in the end.
use Rattle.std.proofs.Common.{◌≡◌, [], map, drop}
use Rattle.stp_schema.specs.Views.{fact_of}
use Rattle.stp_instance.specs.Numbered.{with_atoms}
use Rattle.stp_ground.specs.Problems.{atom_of_fact}
use Rattle.stp_ground.proofs.tables.numbered_facts.Given as goal

abbrev pub invariant-loop-fact : goal.invariant-loop-fact
invariant-loop-fact l = with_atoms l.table (map atom_of_fact (map fact_of (drop l.fact-index l.given))) ≡ with_atoms [] (map atom_of_fact (map fact_of l.given))
