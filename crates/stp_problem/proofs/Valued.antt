-- Items, one by one.
use Rattle.std.proofs.Common.{◌≡◌, ℕ, ◌++◌, ◌∷◌, [], List, Option, Some, None, map, ap, sym, ◌∙◌}
use Rattle.std.specs.Ordering.{is_eq}
use Rattle.stp_refusal.specs.declared.code.Code.TheVariants.{P11}
use Rattle.stp_refusal.specs.declared.offence.Offence.{Offence}
use Rattle.stp_refusal.specs.First.{first_from}
use Rattle.stp_refusal.specs.Read.{IsRead, offence_at, unless}
use Rattle.stp_frac.specs.Fractions.{Fraction, order_of}
use Rattle.stp_tables.specs.Atoms.{Atom}
use Rattle.std.proofs.lemmas.List.{map-append}
use Rattle.stp_schema.specs.declared.problem.Fact.{Fact}
use Rattle.stp_schema.specs.declared.problem.Given.{Given}
use Rattle.stp_schema.specs.Views.{fact_of, given_of}
use Rattle.stp_problem.specs.Views.{state_of}
use Rattle.stp_problem.specs.Facts.{State, value_in, value_read, with_given}

module _ (old : Option Offence) (at : ℕ) (state : State) (value : Fraction) (atom : Atom) where
  -- a place that has a value
  pub again : (new : Option Offence) (after : State) (found : Fraction) → Some found ≡ value_in atom state.values → new ≡ first_from old (unless (is_eq (order_of found value)) (offence_at at P11)) → after ≡ state → IsRead old new after (value_read at value state (Some atom))
  again new after found e h same = rw (sym e) (record { first = h; same = same })

  -- a place that has none
  pub anew : (new : Option Offence) (after : State) → None ≡ value_in atom state.values → new ≡ old → after ≡ with_given state atom value → IsRead old new after (value_read at value state (Some atom))
  anew new after e h same = rw (sym e) (record { first = h; same = same })

-- one value more
pub more : (initial : List Fact) (vs new : List Given) (g : Given) → new ≡ vs ++ g ∷ [] → state_of initial new ≡ record { initial = map fact_of initial; values = map given_of vs ++ given_of g ∷ [] }
more initial vs new g e = ap (state_of initial) e ∙ ap (λ values. (let s : State = record { initial = map fact_of initial; values = values } in s)) (map-append given_of vs (g ∷ []))
