-- An expression of a duration without pointers.
use Rattle.std.specs.Prelude.{ℕ, List}
use Rattle.stp_frac.specs.Fractions.{Fraction, value_of}
use Rattle.stp_schema.specs.declared.lifted.Term.{Term}
use Rattle.stp_schema.specs.declared.expr.Expr.{Expr}
use Rattle.stp_schema.specs.declared.expr.Expr.TheOpen.{Expr-F}
use Rattle.stp_schema.specs.declared.expr.Expr.TheFolds.{fold-Expr}

pub data Expression : Type 0 where
  Number : (number : Fraction) → Expression
  Value : (symbol : ℕ) → (terms : List Term) → Expression
  Plus : (one other : Expression) → Expression
  Minus : (one other : Expression) → Expression
  Times : (one other : Expression) → Expression
  Over : (one other : Expression) → Expression

abbrev pub expression_step : Expr-F Expression → Expression
expression_step (Expr-F.Number number) = Number (value_of number)
expression_step (Expr-F.Value atom) = Value atom.symbol atom.terms.now
expression_step (Expr-F.Plus one other) = Plus one.now other.now
expression_step (Expr-F.Minus one other) = Minus one.now other.now
expression_step (Expr-F.Times one other) = Times one.now other.now
expression_step (Expr-F.Over one other) = Over one.now other.now

-- what an expression in an arena stands for
abbrev pub expression : Expr → Expression
expression = fold-Expr Expression expression_step
