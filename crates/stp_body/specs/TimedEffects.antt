-- What the effect of a durative action says.
use Rattle.std.specs.Prelude.{ℕ, List, [], ◌∷◌}
use Rattle.stp_text.specs.Tree.{Tree, Trees, Word, Node, NoMore, More}
use Rattle.stp_refusal.specs.declared.code.Code.TheVariants.{D22, D23}
use Rattle.stp_refusal.specs.Read.{Read, fine, bad, map_read, given}
use Rattle.stp_schema.specs.Known.{Known}
use Rattle.stp_condition.specs.Scope.{Var}
use Rattle.stp_body.specs.declared.form.Form.{Form}
use Rattle.stp_body.specs.declared.form.Form.TheVariants as forms
use Rattle.stp_body.specs.declared.form.Moment.{Moment}
use Rattle.stp_body.specs.declared.form.Moment.TheVariants.{Start, End}
use Rattle.stp_refusal.specs.Gathering.{all_of, behind_first}
use Rattle.stp_body.specs.Forms.{form_of, at_moment}
use Rattle.stp_body.specs.Effects.{PlainEffects, no_effects, and_then, effect_read}

-- the effects at the start and at the end
pub record PlainTimedEffects : Type 0 where
  pub start : PlainEffects
  pub end : PlainEffects

abbrev pub no_timed_effects : PlainTimedEffects
no_timed_effects = record { start = no_effects; end = no_effects }

-- those of one effect before those of another, at each moment
abbrev pub timed_and_then : PlainTimedEffects → PlainTimedEffects → PlainTimedEffects
timed_and_then one other = record { start = and_then one.start other.start; end = and_then one.end other.end }

-- effects at one moment alone
abbrev pub effects_at : Moment → PlainEffects → PlainTimedEffects
effects_at Start effects = record { start = effects; end = no_effects }
effects_at End effects = record { start = no_effects; end = effects }

abbrev pub moment_read : Known → List Var → Moment × Tree → Read PlainTimedEffects
moment_read k scope timed = map_read (effects_at timed.0) (effect_read k scope timed.1)

-- a list at a place that begins with the word of no connective: it must be `(at start EFFECT)` or `(at end EFFECT)`
abbrev pub at_read : Known → List Var → ℕ → List ℕ → Trees → Read PlainTimedEffects
at_read k scope at word ts = given (bad at D22 no_timed_effects) (moment_read k scope) (at_moment word ts)

-- a list at a place, with its first word and the items behind it, and with what each of these says as a timed effect
abbrev pub timed_by_form : Form → Known → List Var → ℕ → List ℕ → Trees → List (Read PlainTimedEffects) → Read PlainTimedEffects
timed_by_form forms.And k scope at word ts says = all_of timed_and_then no_timed_effects says
timed_by_form forms.Not k scope at word ts says = bad at D22 no_timed_effects
timed_by_form forms.Atom k scope at word ts says = at_read k scope at word ts
timed_by_form forms.Unsupported k scope at word ts says = bad at D23 no_timed_effects
timed_by_form forms.Malformed k scope at word ts says = bad at D22 no_timed_effects

-- a list, by its first item
abbrev pub timed_by_head : Known → List Var → ℕ → Trees → List (Read PlainTimedEffects) → Read PlainTimedEffects
timed_by_head k scope at NoMore says = fine no_timed_effects
timed_by_head k scope at (More (Node place items) ts) says = bad at D22 no_timed_effects
timed_by_head k scope at (More (Word place word) ts) says = timed_by_form (form_of word) k scope at word ts (behind_first says)

unfoldable mutual
  -- what a tree says as the effect of a durative action
  pub timed_effect_read : Known → List Var → Tree → Read PlainTimedEffects
  timed_effect_read k scope (Word at text) = bad at D22 no_timed_effects
  timed_effect_read k scope (Node at items) = timed_by_head k scope at items (timed_effects_read k scope items)

  pub timed_effects_read : Known → List Var → Trees → List (Read PlainTimedEffects)
  timed_effects_read k scope NoMore = []
  timed_effects_read k scope (More t ts) = timed_effect_read k scope t ∷ timed_effects_read k scope ts

-- what several trees say as effects of a durative action
abbrev pub all_timed_effects : Known → List Var → Trees → Read PlainTimedEffects
all_timed_effects k scope ts = all_of timed_and_then no_timed_effects (timed_effects_read k scope ts)
