-- The table so far, once it has the atoms that are left, is the table in the end.
use Rattle.std.proofs.Common.{◌≡◌, drop}
use Rattle.stp_instance.specs.Numbered.{IsGrown, with_atoms}
use Rattle.stp_instance.specs.Effects.{written_atoms}
use Rattle.stp_instance.proofs.effects.number_written.Given as goal

abbrev pub invariant-loop-atom : goal.invariant-loop-atom
invariant-loop-atom l = record {
  atoms : with_atoms l.table (written_atoms (drop l.atom-index l.written)) ≡ with_atoms l.fn.table (written_atoms l.written);
  grown : IsGrown l.fn.table l.table;
}
