use Rattle.std.proofs.Common.{◌∙◌, ap, sym, arith}
use Rattle.stp_cond.specs.Views.{atoms_of}
use Rattle.stp_instance.proofs.WrittenNumbers.{found_next, none_next}
use Rattle.stp_instance.proofs.effects.numbers.Goals as goal
use Rattle.stp_instance.proofs.effects.numbers.Goals.{in-Some+in_ok-push, in_default}

pub loop-atom-preserved : goal.loop-atom-preserved
loop-atom-preserved c = elim c.match-find.branch [
  | in-Some+in_ok-push w ↦
      ap (λ v. atoms_of v.items) w.out-is ∙ ap atoms_of w.in_ok-push.ensures.items
      ∙ found_next c.args.table.now c.args.written.now c.loop-atom.atom-index _ c.loop-atom.out.items (omega arith) c.loop-atom.invariant w.in-Some.number (sym w.in-Some.ensures.number)
  | in_default w ↦
      ap (λ v. atoms_of v.items) w.out-is
      ∙ none_next c.args.table.now c.args.written.now c.loop-atom.atom-index _ c.loop-atom.out.items (omega arith) c.loop-atom.invariant (sym w.in_default.ensures.number)
]
