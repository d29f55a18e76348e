use Rattle.std.proofs.Common.{◌∙◌, arith}
use Rattle.std.proofs.Math.Path.{fun_ext}
use Rattle.stp_cond.proofs.Equations.{truth_of_atoms, reads_of_atoms}
use Rattle.stp_cond.proofs.cond.conjunction.Goals as goal

pub returns-clause-meaning : goal.returns-clause-meaning
returns-clause-meaning c = fun_ext (λ s. truth_of_atoms s c.in_ok-cond.cond.now _ c.loop-atom.parts.items c.loop-atom.atom-index c.args.atoms.now c.in_ok-cond.ensures (c.in_ok-slice.ensures ∙ c.deref.ensures.value) (c.loop-atom.invariant.same s) (omega arith))

pub returns-clause-reads : goal.returns-clause-reads
returns-clause-reads c = λ these. reads_of_atoms these c.in_ok-cond.cond.now _ c.loop-atom.parts.items c.loop-atom.atom-index c.args.atoms.now c.in_ok-cond.ensures (c.in_ok-slice.ensures ∙ c.deref.ensures.value) (c.loop-atom.invariant.read these) (omega arith)
