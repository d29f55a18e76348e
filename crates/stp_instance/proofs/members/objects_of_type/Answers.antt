use Rattle.std.proofs.Common.{ℕ, ◌<◌, ◌∙◌, ap, arith, length, true, false}
use Rattle.stp_types.specs.Forest.{is_below}
use Rattle.stp_schema.specs.Rows.{parents_of}
use Rattle.stp_instance.specs.Bindings.{numbers_of}
use Rattle.stp_instance.proofs.OfType.{kind_at, below_is, one_passes, one_fails}
use Rattle.stp_instance.proofs.members.objects_of_type.Goals as goal
use Rattle.stp_instance.proofs.members.objects_of_type.Goals.{then-is_below+in_ok-push, else-is_below}

pub loop-number-preserved : goal.loop-number-preserved
loop-number-preserved c =
    let parents = parents_of c.args.declared.now.types.now in
    let objects = c.args.objects.now in
    let test = λ (n : ℕ). is_below parents (kind_at objects n) c.args.kind in
    let n = c.loop-number.number in
    let h : n < length objects = omega arith in
    elim c.if-is_below.branch [
      | then-is_below+in_ok-push w ↦
          ap (λ v. numbers_of v.items) w.found-is ∙ ap numbers_of w.in_ok-push.ensures.items
          ∙ one_passes test n c.loop-number.found.items (below_is parents objects n c.args.kind _ c.is_below.result true h c.is_below.ensures w.if-is_below.true) c.loop-number.invariant
      | else-is_below w ↦
          ap (λ v. numbers_of v.items) w.found-is
          ∙ one_fails test n c.loop-number.found.items (below_is parents objects n c.args.kind _ c.is_below.result false h c.is_below.ensures w.if-is_below.false) c.loop-number.invariant
    ]
