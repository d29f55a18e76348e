use Rattle.std.proofs.Common.{drop, ◌++◌, [], ap, ◌∙◌, arith}
use Rattle.stp_expand.specs.Expanded.{picked}
use Rattle.stp_expand.specs.declared.footprint.Footprint.{Footprint}
use Rattle.stp_expand.proofs.Picking.{picked_in, picked_out}
use Rattle.stp_expand.proofs.sets.picked.Goals as goal
use Rattle.stp_expand.proofs.sets.picked.Goals.{then-bits-eq1+in_ok-push, else-bits-eq1}

abbrev none : Footprint
none = record { adds = record { ref_ptr = (0, 0); now = [] }; dels = record { ref_ptr = (0, 0); now = [] }; opened = record { ref_ptr = (0, 0); now = [] } }

pub loop-footprint-preserved : goal.loop-footprint-preserved
loop-footprint-preserved c = elim c.if-bits-eq1.branch [
  | then-bits-eq1+in_ok-push w ↦ picked_in c.args.footprints.now c.loop-footprint.footprint-index none c.loop-footprint.bits (picked c.args.footprints.now c.args.number) c.loop-footprint.set.items c.if-bits-eq1.set.items (omega arith) w.if-bits-eq1.true (ap (λ s. s.items) w.set-is ∙ w.in_ok-push.ensures.items) c.loop-footprint.invariant
  | else-bits-eq1 w ↦ picked_out c.args.footprints.now c.loop-footprint.footprint-index none c.loop-footprint.bits (picked c.args.footprints.now c.args.number) c.if-bits-eq1.set.items (omega arith) w.if-bits-eq1.false (ap (λ s. s.items ++ picked (drop c.loop-footprint.footprint-index c.args.footprints.now) c.loop-footprint.bits) w.set-is ∙ c.loop-footprint.invariant)
]
