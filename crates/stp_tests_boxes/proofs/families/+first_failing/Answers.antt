use Rattle.std.proofs.Common.{ℕ, ◌+◌, ◌<◌, ◌≤◌, length, get_or, arith, ◌∙◌, ap}
use Rattle.stp_strength.proofs.Vectors.{done, skipped, taken, owner_bounds}
use Rattle.stp_tests_boxes.proofs.families.+first_failing.Goals as goal

within_next : (at n : ℕ) → at < n → at + 1 ≤ n
within_next at n l = omega arith

pub failing-requires : goal.failing-requires
failing-requires t c = done c.args.boxed.now.owners c.args.at c.args.vector.now (omega (arith, ap length c.as_slice-owners.ensures)) c.requires.vector

pub overflow_add-end-end : goal.overflow_add-end-end
overflow_add-end-end t c =
    let b = owner_bounds c.args.boxed.now c.args.at c.index-owners-at.result (omega (arith, ap length c.as_slice-owners.ensures)) (c.index-owners-at.is ∙ ap (λ ss. get_or ss c.args.at c.index-owners-at.result) c.as_slice-owners.ensures) in
    omega (arith, b.1)

pub overflow_sub-end : goal.overflow_sub-end
overflow_sub-end t c =
    let b = owner_bounds c.args.boxed.now c.args.at c.index-owners-at.result (omega (arith, ap length c.as_slice-owners.ensures)) (c.index-owners-at.is ∙ ap (λ ss. get_or ss c.args.at c.index-owners-at.result) c.as_slice-owners.ensures) in
    omega (arith, b.0)

pub first_failing-requires : goal.first_failing-requires
first_failing-requires t c =
    let owners = c.args.boxed.now.owners in
    let at = c.args.at in
    let within : at < length owners = omega (arith, ap length c.as_slice-owners.ensures) in
    let is = c.index-owners-at.is ∙ ap (λ ss. get_or ss at c.index-owners-at.result) c.as_slice-owners.ensures in
    (omega arith, (within_next at (length owners) within, skipped owners at c.index-owners-at.result within is c.if-not-owner.true c.args.vector.now c.requires.vector))

pub first_failing-requires-in-loop-end : goal.first_failing-requires-in-loop-end
first_failing-requires-in-loop-end t c =
    let owners = c.args.boxed.now.owners in
    let at = c.args.at in
    let s = c.index-owners-at.result in
    let within : at < length owners = omega (arith, ap length c.as_slice-owners.ensures) in
    let is = c.index-owners-at.is ∙ ap (λ ss. get_or ss at s) c.as_slice-owners.ensures in
    let b = owner_bounds c.args.boxed.now at s within is in (
      omega arith,
      (
        within_next at (length owners) within,
        taken owners at s within is c.if-not-owner.false c.args.vector.now c.deref.result.now c.loop-end.end b.0 (omega arith) (omega arith) (c.deref.ensures.value ∙ c.in_ok-longer.ensures) c.requires.vector,
      ),
    )
