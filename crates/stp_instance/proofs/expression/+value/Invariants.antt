-- What is left to do with the value of the part so far gives the value of all, and the part is no larger.
use Rattle.std.proofs.Common.{◌≡◌, ◌≤◌}
use Rattle.stp_schema.specs.Expression.{expression}
use Rattle.stp_instance.specs.Bindings.{numbers_of}
use Rattle.stp_instance.specs.Values.{value}
use Rattle.stp_instance.specs.Operators.{finished, whole}
use Rattle.stp_instance.proofs.Weights.{weight}
use Rattle.stp_instance.proofs.expression.+value.Given as goal

abbrev pub decreases-value : goal.decreases-value
decreases-value l = weight (expression l.expr.now)

abbrev pub invariant-loop-form : goal.invariant-loop-form
invariant-loop-form l = record {
  same : finished l.steps.items (value l.values (numbers_of l.binding) (whole l.form)) ≡ value l.values (numbers_of l.binding) (expression l.expr);
  smaller : weight (whole l.form) ≤ weight (expression l.expr);
}

abbrev pub decreases-loop-form : goal.decreases-loop-form
decreases-loop-form l = weight (whole l.form)
