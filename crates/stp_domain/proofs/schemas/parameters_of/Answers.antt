use Rattle.std.proofs.Common.{◌≡◌, ℕ, ◌<◌, List, [], ◌∷◌, ◌++◌, length, refl, ap, sym, ◌∙◌, arith, drop}
use Rattle.std.proofs.lemmas.List.{append-nil}
use Rattle.stp_condition.specs.Whole.{texts_of, scope_with}
use Rattle.stp_domain.proofs.schemas.parameters_of.Goals as goal

-- where no types are left
no_kinds : (names : List (List ℕ)) (kinds : List ℕ) → length kinds < 1 → scope_with names kinds ≡ []
no_kinds [] kinds h = refl
no_kinds (n ∷ ns) [] h = refl
no_kinds (n ∷ ns) (k ∷ ks) h = absurd (omega (arith, h))

pub returns-in_default : goal.returns-in_default
returns-in_default c =
    sym (append-nil c.loop-name.scope)
    ∙ ap (λ vs. c.loop-name.scope ++ vs) (sym (no_kinds (texts_of (drop c.loop-name.name-index c.args.names.now)) c.loop-name.rest.now c.in_default.len_below))
    ∙ c.loop-name.invariant
