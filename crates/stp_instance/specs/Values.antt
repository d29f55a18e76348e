-- What an expression is worth under a binding of variables to objects, where functions have given values.
use Rattle.std.specs.Prelude.{ℕ, Bool, ◌&&◌, ◌==◌, if◌then◌else◌, List, [], ◌∷◌, Option, Some, None, bytes_eq}
use Rattle.stp_frac.specs.Fractions.{Fraction, sum_of, difference_of, product_of, quotient_of}
use Rattle.stp_schema.specs.Expression.{Expression, Number as Amount, Value, Plus as Sum, Minus as Difference, Times as Product, Over as Quotient}
use Rattle.stp_schema.specs.Views.{PlainGiven}
use Rattle.stp_instance.specs.Bindings.{objects_of}

-- whether a value is that of this function at these objects
abbrev pub is_given : ℕ → List ℕ → PlainGiven → Bool
is_given function args given = (function == given.function) && bytes_eq args given.args

-- the value of a function at some objects: the first that is given
abbrev pub given_in : List PlainGiven → ℕ → List ℕ → Option Fraction
given_in [] function args = None
given_in (g ∷ gs) function args = if is_given function args g then Some g.value else given_in gs function args

-- what an operation gives of two values, where both are there
abbrev pub both : (Fraction → Fraction → Option Fraction) → Option Fraction → Option Fraction → Option Fraction
both operation None other = None
both operation (Some a) None = None
both operation (Some a) (Some b) = operation a b

-- the value of an expression: there is none where a function has none, a divisor is 0 or a result is out of range
abbrev pub value : List PlainGiven → List ℕ → Expression → Option Fraction
value given binding (Amount number) = Some number
value given binding (Value symbol terms) = given_in given symbol (objects_of binding terms)
value given binding (Sum one other) = both sum_of (value given binding one) (value given binding other)
value given binding (Difference one other) = both difference_of (value given binding one) (value given binding other)
value given binding (Product one other) = both product_of (value given binding one) (value given binding other)
value given binding (Quotient one other) = both quotient_of (value given binding one) (value given binding other)
