-- Working out an expression from its left.
use Rattle.std.proofs.Common.{◌≡◌, ℕ, List, [], ◌∷◌, ◌++◌, Option, Some, None, refl, ap, sym, ◌∙◌}
use Rattle.stp_frac.specs.Fractions.{Fraction, value_of}
use Rattle.stp_schema.specs.Expression.{Expression}
use Rattle.stp_schema.specs.Views.{PlainGiven}
use Rattle.stp_instance.specs.declared.expression.Operator.{Operator}
use Rattle.stp_instance.specs.declared.expression.Operator.TheVariants.{Plus, Minus, Times, Over}
use Rattle.stp_instance.specs.declared.expression.Step.{Step}
use Rattle.stp_instance.specs.Values.{both, value}
use Rattle.stp_instance.specs.Operators.{applied, joined, finished}

-- ---- steps that are done

finished_more : (steps : List Step) (step : Step) (first : Option Fraction) → finished (steps ++ step ∷ []) first ≡ finished steps (both (applied step.operator) first (Some (value_of step.right)))
finished_more [] step first = refl
finished_more (s ∷ steps) step first = ap (λ v. both (applied s.operator) v (Some (value_of s.right))) (finished_more steps step first)

pub finished_none : (steps : List Step) → finished steps None ≡ None
finished_none [] = refl
finished_none (s ∷ steps) = ap (λ v. both (applied s.operator) v (Some (value_of s.right))) (finished_none steps)

-- the last step is done
pub one_done : (steps all : List Step) (step : Step) (now : Fraction) (next whole : Option Fraction) → all ≡ steps ++ step ∷ [] → next ≡ applied step.operator now (value_of step.right) → finished all (Some now) ≡ whole → finished steps next ≡ whole
one_done steps all step now next whole more is so_far = ap (finished steps) is ∙ sym (finished_more steps step (Some now)) ∙ ap (λ l. finished l (Some now)) (sym more) ∙ so_far

-- and has no value
pub none_done : (steps all : List Step) (step : Step) (now : Fraction) (whole : Option Fraction) → all ≡ steps ++ step ∷ [] → None ≡ applied step.operator now (value_of step.right) → finished all (Some now) ≡ whole → None ≡ whole
none_done steps all step now whole more is so_far = sym (finished_none steps) ∙ one_done steps all step now None whole more is so_far

-- ---- steps that are put off

module _ (given : List PlainGiven) (binding : List ℕ) where
  -- the value of an operator between two expressions
  value_joined : (operator : Operator) (one other : Expression) → value given binding (joined operator one other) ≡ both (applied operator) (value given binding one) (value given binding other)
  value_joined Plus one other = refl
  value_joined Minus one other = refl
  value_joined Times one other = refl
  value_joined Over one other = refl

  none_right : (operation : Fraction → Fraction → Option Fraction) (one : Option Fraction) → both operation one None ≡ None
  none_right operation None = refl
  none_right operation (Some one) = refl

  -- an operator whose right operand has no value
  pub none_put_off : (steps : List Step) (operator : Operator) (one other form : Expression) (whole : Option Fraction) → form ≡ joined operator one other → None ≡ value given binding other → finished steps (value given binding form) ≡ whole → None ≡ whole
  none_put_off steps operator one other form whole is none so_far =
      sym (finished_none steps)
      ∙ ap (finished steps) (sym (none_right (applied operator) (value given binding one)) ∙ ap (both (applied operator) (value given binding one)) none ∙ sym (value_joined operator one other) ∙ ap (value given binding) (sym is))
      ∙ so_far

  -- an operator that is put off until its left operand is done
  pub one_put_off : (steps more : List Step) (step : Step) (one other form next : Expression) (whole : Option Fraction) → form ≡ joined step.operator one other → Some (value_of step.right) ≡ value given binding other → more ≡ steps ++ step ∷ [] → one ≡ next → finished steps (value given binding form) ≡ whole → finished more (value given binding next) ≡ whole
  one_put_off steps more step one other form next whole is right longer same so_far =
      ap (λ l. finished l (value given binding next)) longer
      ∙ finished_more steps step (value given binding next)
      ∙ ap (λ e. finished steps (both (applied step.operator) (value given binding e) (Some (value_of step.right)))) (sym same)
      ∙ ap (λ v. finished steps (both (applied step.operator) (value given binding one) v)) right
      ∙ ap (finished steps) (sym (value_joined step.operator one other) ∙ ap (value given binding) (sym is))
      ∙ so_far
