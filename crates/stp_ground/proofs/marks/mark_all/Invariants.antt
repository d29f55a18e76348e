-- The marks so far, once the atoms that are left are marked, are those in the end.
use Rattle.std.proofs.Common.{◌≡◌, drop}
use Rattle.stp_schema.specs.Formula.{atoms_of}
use Rattle.stp_instance.specs.Numbered.{is_fluent}
use Rattle.stp_ground.specs.Marks.{symbol_of, with_marks}
use Rattle.stp_ground.proofs.marks.mark_all.Given as goal

abbrev pub invariant-loop-atom : goal.invariant-loop-atom
invariant-loop-atom l = with_marks symbol_of (atoms_of (drop l.atom-index l.atoms)) (is_fluent l.marks.items) ≡ with_marks symbol_of (atoms_of l.atoms) (is_fluent l.fn.marks.items)
