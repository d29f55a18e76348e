-- The numbers so far, and those of the members that are left, are all.
use Rattle.std.proofs.Common.{◌≡◌, ◌++◌, map, drop}
use Rattle.stp_cond.specs.Views.{atoms_of}
use Rattle.stp_instance.specs.Expanded.{claims_of}
use Rattle.stp_instance.specs.Views.{claim}
use Rattle.stp_instance.specs.Numbered.{fluent_atoms, fluent_atoms_of_all, is_fluent, numbers_in}
use Rattle.stp_instance.proofs.numbering.+gather.Given as goal

abbrev pub invariant-loop-member : goal.invariant-loop-member
invariant-loop-member l = atoms_of l.reads.items ++ numbers_in l.table (fluent_atoms_of_all (is_fluent l.fluent) (claims_of (map claim (drop l.member-index l.member-items)))) ≡ atoms_of l.fn.reads.items ++ numbers_in l.table (fluent_atoms (is_fluent l.fluent) (claim l.ground))
