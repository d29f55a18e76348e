use Rattle.std.proofs.Common.{length, ap, ◌∙◌, arith}
use Rattle.stp_cond.specs.Decided.{decided, either}
use Rattle.stp_cond.specs.Folded.{known_of}
use Rattle.stp_cond.proofs.Decided.{any_more, below_more, decided_atom}
use Rattle.stp_cond.proofs.deciding.+decide.Goals as goal

pub loop-part-2-preserved : goal.loop-part-2-preserved
loop-part-2-preserved t c = record {
  below = below_more (length c.args.partial.now) c.in-Or.parts.now c.loop-part-2.part-index c.part-item-in-loop-part-2.result (omega arith) c.loop-part-2.invariant.below;
  same =
      any_more (known_of c.args.partial.now) c.in-Or.parts.now c.loop-part-2.part-index c.part-item-in-loop-part-2.result c.loop-part-2.so_far c.or-so_far.result (decided (known_of c.args.partial.now) c.args.cond.now) (omega arith) c.part-item-in-loop-part-2.is
      (c.or-so_far.ensures ∙ ap (either c.loop-part-2.so_far) c.decide-in-loop-part-2.ensures) c.loop-part-2.invariant.same;
}

pub returns-in-Atom : goal.returns-in-Atom
returns-in-Atom t c = decided_atom c.args.partial.now c.args.cond.now c.in-Atom.atom c.in-Atom.is c.requires
