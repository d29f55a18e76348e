-- The table so far, once it has the atoms of the members that are left, is the table in the end.
use Rattle.std.proofs.Common.{◌≡◌, map, drop}
use Rattle.stp_instance.specs.Expanded.{claims_of}
use Rattle.stp_instance.specs.Views.{claim}
use Rattle.stp_instance.specs.Numbered.{fluent_atoms, fluent_atoms_of_all, is_fluent, IsGrown, with_atoms}
use Rattle.stp_instance.proofs.numbering.+number_atoms.Given as goal

abbrev pub invariant-loop-member : goal.invariant-loop-member
invariant-loop-member l = record {
  atoms : with_atoms l.table (fluent_atoms_of_all (is_fluent l.fluent) (claims_of (map claim (drop l.member-index l.member-items)))) ≡ with_atoms l.fn.table (fluent_atoms (is_fluent l.fluent) (claim l.ground));
  grown : IsGrown l.fn.table l.table;
}
