-- How large an expression is.
use Rattle.std.proofs.Common.{◌≡◌, ℕ, ◌+◌, ◌≤◌, refl, ap, arith}
use Rattle.stp_schema.specs.Expression.{Expression, Number as Amount, Value, Plus as Sum, Minus as Difference, Times as Product, Over as Quotient}
use Rattle.stp_instance.specs.declared.expression.Operator.{Operator}
use Rattle.stp_instance.specs.declared.expression.Operator.TheVariants.{Plus, Minus, Times, Over}
use Rattle.stp_instance.specs.Operators.{joined}

abbrev pub weight : Expression → ℕ
weight (Amount number) = 0
weight (Value symbol terms) = 0
weight (Sum one other) = 1 + weight one + weight other
weight (Difference one other) = 1 + weight one + weight other
weight (Product one other) = 1 + weight one + weight other
weight (Quotient one other) = 1 + weight one + weight other

weight_joined : (operator : Operator) (one other : Expression) → weight (joined operator one other) ≡ 1 + weight one + weight other
weight_joined Plus one other = refl
weight_joined Minus one other = refl
weight_joined Times one other = refl
weight_joined Over one other = refl

-- the left operand of a part is no larger than all
pub left_within : (operator : Operator) (one other form next : Expression) (most : ℕ) → form ≡ joined operator one other → one ≡ next → weight form ≤ most → weight next ≤ most
left_within operator one other form next most is same h =
    let a = ap weight is in
    let b = weight_joined operator one other in
    let d = ap weight same in
    omega (arith, a, b, d)
