use Rattle.std.proofs.Common.{refl}
use Rattle.stp_schema.proofs.Equations.{expression_plus, expression_minus, expression_times, expression_over}
use Rattle.stp_body.proofs.join.make_joint.Goals as goal
use Rattle.stp_body.proofs.join.make_joint.Goals.{in-Sum, in-Difference, in-Product, in-Quotient}

pub returns : goal.returns
returns c = elim c.match-operator.branch [
  | in-Sum w ↦ rw (w.value-is, expression_plus, c.in_ok-one.ensures, c.in_ok-other.ensures, w.in-Sum.is) refl
  | in-Difference w ↦ rw (w.value-is, expression_minus, c.in_ok-one.ensures, c.in_ok-other.ensures, w.in-Difference.is) refl
  | in-Product w ↦ rw (w.value-is, expression_times, c.in_ok-one.ensures, c.in_ok-other.ensures, w.in-Product.is) refl
  | in-Quotient w ↦ rw (w.value-is, expression_over, c.in_ok-one.ensures, c.in_ok-other.ensures, w.in-Quotient.is) refl
]
