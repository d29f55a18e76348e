-- What conditions and expressions in an arena stand for, by their kinds.
use Rattle.std.proofs.Common.{◌≡◌, ℕ, List, map, Bor, ap, sym, ◌∙◌}
use Rattle.stp_frac.specs.declared.frac.Frac.{Frac}
use Rattle.stp_frac.specs.Fractions.{value_of}
use Rattle.stp_schema.specs.declared.lifted.Term.{Term}
use Rattle.stp_schema.specs.declared.lifted.LiftedAtom.{LiftedAtom}
use Rattle.stp_schema.specs.declared.lifted.Lifted.{Lifted}
use Rattle.stp_schema.specs.declared.lifted.Lifted.TheVariants as lifted
use Rattle.stp_schema.specs.declared.lifted.Lifted.TheOpen.{Lifted-F}
use Rattle.stp_schema.specs.declared.lifted.Lifted.TheFolds.{fold-roll-Lifted}
use Rattle.stp_schema.specs.declared.expr.Expr.{Expr}
use Rattle.stp_schema.specs.declared.expr.Expr.TheVariants as exprs
use Rattle.stp_schema.specs.declared.expr.Expr.TheOpen.{Expr-F}
use Rattle.stp_schema.specs.declared.expr.Expr.TheFolds.{fold-roll-Expr}
use Rattle.stp_schema.specs.Formula.{Formula, formula, formula_step, Atom, Same, Not, And, Or, Every, Any, formulas_of}
use Rattle.stp_schema.specs.Expression.{Expression, expression, expression_step, Number, Value, Plus, Minus, Times, Over}

pub formula_atom : (atom : LiftedAtom) → formula (lifted.Atom atom) ≡ Atom atom.symbol atom.terms.now
formula_atom atom = ap formula (sym (lifted.rolls-Atom atom)) ∙ fold-roll-Lifted Formula formula_step (Lifted-F.Atom atom)

pub formula_same : (one other : Term) → formula (lifted.Same one other) ≡ Same one other
formula_same one other = ap formula (sym (lifted.rolls-Same one other)) ∙ fold-roll-Lifted Formula formula_step (Lifted-F.Same one other)

pub formula_not : (inner : Bor Lifted) → formula (lifted.Not inner) ≡ Not (formula inner.now)
formula_not inner = ap formula (sym (lifted.rolls-Not inner)) ∙ fold-roll-Lifted Formula formula_step (Lifted-F.Not inner)

pub formula_and : (members : Bor (List Lifted)) → formula (lifted.And members) ≡ And (formulas_of (map formula members.now))
formula_and members = ap formula (sym (lifted.rolls-And members)) ∙ fold-roll-Lifted Formula formula_step (Lifted-F.And members)

pub formula_or : (members : Bor (List Lifted)) → formula (lifted.Or members) ≡ Or (formulas_of (map formula members.now))
formula_or members = ap formula (sym (lifted.rolls-Or members)) ∙ fold-roll-Lifted Formula formula_step (Lifted-F.Or members)

pub formula_every : (kinds : Bor (List ℕ)) (body : Bor Lifted) → formula (lifted.Every kinds body) ≡ Every kinds.now (formula body.now)
formula_every kinds body = ap formula (sym (lifted.rolls-Every kinds body)) ∙ fold-roll-Lifted Formula formula_step (Lifted-F.Every kinds body)

pub formula_any : (kinds : Bor (List ℕ)) (body : Bor Lifted) → formula (lifted.Any kinds body) ≡ Any kinds.now (formula body.now)
formula_any kinds body = ap formula (sym (lifted.rolls-Any kinds body)) ∙ fold-roll-Lifted Formula formula_step (Lifted-F.Any kinds body)

pub expression_number : (number : Frac) → expression (exprs.Number number) ≡ Number (value_of number)
expression_number number = ap expression (sym (exprs.rolls-Number number)) ∙ fold-roll-Expr Expression expression_step (Expr-F.Number number)

pub expression_value : (atom : LiftedAtom) → expression (exprs.Value atom) ≡ Value atom.symbol atom.terms.now
expression_value atom = ap expression (sym (exprs.rolls-Value atom)) ∙ fold-roll-Expr Expression expression_step (Expr-F.Value atom)

pub expression_plus : (one other : Bor Expr) → expression (exprs.Plus one other) ≡ Plus (expression one.now) (expression other.now)
expression_plus one other = ap expression (sym (exprs.rolls-Plus one other)) ∙ fold-roll-Expr Expression expression_step (Expr-F.Plus one other)

pub expression_minus : (one other : Bor Expr) → expression (exprs.Minus one other) ≡ Minus (expression one.now) (expression other.now)
expression_minus one other = ap expression (sym (exprs.rolls-Minus one other)) ∙ fold-roll-Expr Expression expression_step (Expr-F.Minus one other)

pub expression_times : (one other : Bor Expr) → expression (exprs.Times one other) ≡ Times (expression one.now) (expression other.now)
expression_times one other = ap expression (sym (exprs.rolls-Times one other)) ∙ fold-roll-Expr Expression expression_step (Expr-F.Times one other)

pub expression_over : (one other : Bor Expr) → expression (exprs.Over one other) ≡ Over (expression one.now) (expression other.now)
expression_over one other = ap expression (sym (exprs.rolls-Over one other)) ∙ fold-roll-Expr Expression expression_step (Expr-F.Over one other)
