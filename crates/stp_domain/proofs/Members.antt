-- Conditions over objects that get other numbers, by their kinds.
use Rattle.std.proofs.Common.{◌≡◌, ℕ, List, [], ◌∷◌, map, Bor, refl, ap, sym, ◌∙◌}
use Rattle.stp_schema.specs.declared.lifted.Lifted.{Lifted}
use Rattle.stp_schema.specs.declared.lifted.Lifted.TheVariants as lifted
use Rattle.stp_schema.specs.Formula.{formula, And, Or, More, formulas_of}
use Rattle.stp_schema.proofs.Equations.{formula_and, formula_or}
use Rattle.stp_domain.specs.Placed.{placed, all_placed}

members_placed : (places : List ℕ) (cs : List Lifted) → formulas_of (map (λ c. placed places (formula c)) cs) ≡ all_placed places (formulas_of (map formula cs))
members_placed places [] = refl
members_placed places (c ∷ cs) = ap (More (placed places (formula c))) (members_placed places cs)

pub and_placed : (places : List ℕ) (old new : Bor (List Lifted)) → map formula new.now ≡ map (λ c. placed places (formula c)) old.now → formula (lifted.And new) ≡ placed places (formula (lifted.And old))
and_placed places old new h = formula_and new ∙ ap (λ fs. And (formulas_of fs)) h ∙ ap And (members_placed places old.now) ∙ ap (placed places) (sym (formula_and old))

pub or_placed : (places : List ℕ) (old new : Bor (List Lifted)) → map formula new.now ≡ map (λ c. placed places (formula c)) old.now → formula (lifted.Or new) ≡ placed places (formula (lifted.Or old))
or_placed places old new h = formula_or new ∙ ap (λ fs. Or (formulas_of fs)) h ∙ ap Or (members_placed places old.now) ∙ ap (placed places) (sym (formula_or old))
