-- Expressions worked out from their left: the operators that wait for the value of their left operand.
use Rattle.std.specs.Prelude.{List, [], ◌∷◌, Option, Some}
use Rattle.stp_frac.specs.Fractions.{Fraction, value_of, sum_of, difference_of, product_of, quotient_of}
use Rattle.stp_instance.specs.declared.expression.Operator.{Operator}
use Rattle.stp_instance.specs.declared.expression.Operator.TheVariants.{Plus, Minus, Times, Over}
use Rattle.stp_instance.specs.declared.expression.Form.{Form}
use Rattle.stp_instance.specs.declared.expression.Form.TheVariants as forms
use Rattle.stp_instance.specs.declared.expression.Step.{Step}
use Rattle.stp_schema.specs.Expression.{Expression, expression, Number as Amount, Value, Plus as Sum, Minus as Difference, Times as Product, Over as Quotient}
use Rattle.stp_instance.specs.Values.{both}

abbrev pub applied : Operator → Fraction → Fraction → Option Fraction
applied Plus = sum_of
applied Minus = difference_of
applied Times = product_of
applied Over = quotient_of

abbrev pub joined : Operator → Expression → Expression → Expression
joined Plus = Sum
joined Minus = Difference
joined Times = Product
joined Over = Quotient

-- the expression of a kind
abbrev pub whole : Form → Expression
whole (forms.Number number) = Amount (value_of number)
whole (forms.Value atom) = Value atom.symbol atom.terms.now
whole (forms.Joint operator one other) = joined operator (expression one.now) (expression other.now)

-- the value once all steps are done, the last first
abbrev pub finished : List Step → Option Fraction → Option Fraction
finished [] value = value
finished (step ∷ steps) value = both (applied step.operator) (finished steps value) (Some (value_of step.right))
