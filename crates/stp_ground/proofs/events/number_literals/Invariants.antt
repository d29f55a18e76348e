-- The table so far, once it has the atoms of the literals that are left, is the table in the end.
use Rattle.std.proofs.Common.{◌≡◌, map, drop}
use Rattle.stp_schema.specs.Timed.{literal_of}
use Rattle.stp_instance.specs.Numbered.{IsGrown, with_atoms}
use Rattle.stp_ground.specs.Problems.{atom_of_literal}
use Rattle.stp_ground.proofs.events.number_literals.Given as goal

abbrev pub invariant-loop-literal : goal.invariant-loop-literal
invariant-loop-literal l = record {
  atoms : with_atoms l.table (map atom_of_literal (map literal_of (drop l.literal-index l.literals))) ≡ with_atoms l.fn.table (map atom_of_literal (map literal_of l.literals));
  grown : IsGrown l.fn.table l.table;
}
