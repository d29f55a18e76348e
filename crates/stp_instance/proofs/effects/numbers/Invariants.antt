-- The numbers so far are those of the atoms so far.
use Rattle.std.proofs.Common.{◌≡◌, take}
use Rattle.stp_cond.specs.Views.{atoms_of}
use Rattle.stp_instance.specs.Numbered.{numbers_in}
use Rattle.stp_instance.specs.Effects.{written_atoms}
use Rattle.stp_instance.proofs.effects.numbers.Given as goal

abbrev pub invariant-loop-atom : goal.invariant-loop-atom
invariant-loop-atom l = atoms_of l.out.items ≡ numbers_in l.table (written_atoms (take l.atom-index l.written))
