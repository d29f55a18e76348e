-- The atoms so far are those of the list so far.
use Rattle.std.proofs.Common.{◌≡◌, take}
use Rattle.stp_schema.specs.Formula.{atoms_of}
use Rattle.stp_instance.specs.Bindings.{numbers_of}
use Rattle.stp_instance.specs.Effects.{ground_atoms, written_atoms}
use Rattle.stp_instance.proofs.effects.written_under.Given as goal

abbrev pub invariant-loop-atom : goal.invariant-loop-atom
invariant-loop-atom l = written_atoms l.out.items ≡ ground_atoms (numbers_of l.binding) (atoms_of (take l.atom-index l.atoms))
