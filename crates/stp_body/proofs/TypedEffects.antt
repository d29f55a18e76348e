-- Effects that are read without an offence are typed.
use Rattle.std.proofs.Common.{◌≡◌, ℕ, List, [], ◌∷◌, ◌++◌, Option, Some, None}
use Rattle.stp_text.specs.Tree.{Tree, Trees, Word, Node, NoMore, More}
use Rattle.stp_refusal.specs.declared.code.Code.TheVariants.{D22}
use Rattle.stp_refusal.specs.Read.{Read, bad, given}
use Rattle.stp_schema.specs.Known.{Known}
use Rattle.stp_schema.specs.Formula.{PlainAtom}
use Rattle.stp_condition.specs.declared.atom.SymbolKind.TheVariants.{Predicate}
use Rattle.stp_condition.specs.Scope.{Var, kinds_of}
use Rattle.stp_condition.proofs.TypedTerms.{atom_typed}
use Rattle.stp_body.specs.declared.form.Form.{Form}
use Rattle.stp_body.specs.declared.form.Form.TheVariants as forms
use Rattle.stp_body.specs.declared.form.Moment.{Moment}
use Rattle.stp_body.specs.declared.form.Moment.TheVariants.{Start, End}
use Rattle.stp_refusal.specs.Gathering.{behind_first}
use Rattle.stp_body.specs.Forms.{form_of, WrittenAtom, only_atom, at_moment}
use Rattle.stp_body.specs.Effects.{PlainEffects, no_effects, and_then, deleted_read, by_form, by_head, effect_read, effects_read}
use Rattle.stp_body.specs.TimedEffects.{PlainTimedEffects, no_timed_effects, timed_and_then, effects_at, moment_read, timed_by_form, timed_by_head, timed_effect_read, timed_effects_read}
use Rattle.stp_body.specs.TypedEffects.{AreAtomsTyped, AreEffectsTyped, AreTimedEffectsTyped}
use Rattle.stp_refusal.proofs.Saying.{AllSay, all_hold, behind_say}

atoms_typed : (k : Known) (kinds : List ℕ) (xs ys : List PlainAtom) → AreAtomsTyped k kinds xs → AreAtomsTyped k kinds ys → AreAtomsTyped k kinds (xs ++ ys)
atoms_typed k kinds [] ys h i = i
atoms_typed k kinds (x ∷ xs) ys h i = (h.0, atoms_typed k kinds xs ys h.1 i)

none_typed : (k : Known) (kinds : List ℕ) → AreEffectsTyped k kinds no_effects
none_typed k kinds = record { adds = tt; dels = tt }

then_typed : (k : Known) (kinds : List ℕ) (e f : PlainEffects) → AreEffectsTyped k kinds e → AreEffectsTyped k kinds f → AreEffectsTyped k kinds (and_then e f)
then_typed k kinds e f h i = record { adds = atoms_typed k kinds e.adds f.adds h.adds i.adds; dels = atoms_typed k kinds e.dels f.dels h.dels i.dels }

-- ---- effects of simple actions

module _ (k : Known) (scope : List Var) where
  not_typed : (at : ℕ) (atom : Option WrittenAtom) → (given (bad at D22 no_effects) (deleted_read k scope) atom).offences ≡ [] → AreEffectsTyped k (kinds_of scope) (given (bad at D22 no_effects) (deleted_read k scope) atom).value
  not_typed at None none = none_typed k (kinds_of scope)
  not_typed at (Some atom) none = record { adds = tt; dels = (atom_typed Predicate k scope atom.at atom.name atom.items none, tt) }

  form_typed : (form : Form) (at : ℕ) (word : List ℕ) (ts : Trees) (says : List (Read PlainEffects)) → AllSay (AreEffectsTyped k (kinds_of scope)) says → (by_form form k scope at word ts says).offences ≡ [] → AreEffectsTyped k (kinds_of scope) (by_form form k scope at word ts says).value
  form_typed forms.And at word ts says h none = all_hold (AreEffectsTyped k (kinds_of scope)) and_then no_effects (none_typed k (kinds_of scope)) (then_typed k (kinds_of scope)) says h none
  form_typed forms.Not at word ts says h none = not_typed at (only_atom ts) none
  form_typed forms.Atom at word ts says h none = record { adds = (atom_typed Predicate k scope at word ts none, tt); dels = tt }
  form_typed forms.Unsupported at word ts says h none = none_typed k (kinds_of scope)
  form_typed forms.Malformed at word ts says h none = none_typed k (kinds_of scope)

  head_typed : (at : ℕ) (ts : Trees) (says : List (Read PlainEffects)) → AllSay (AreEffectsTyped k (kinds_of scope)) says → (by_head k scope at ts says).offences ≡ [] → AreEffectsTyped k (kinds_of scope) (by_head k scope at ts says).value
  head_typed at NoMore says h none = none_typed k (kinds_of scope)
  head_typed at (More (Node place items) ts) says h none = none_typed k (kinds_of scope)
  head_typed at (More (Word place word) ts) says h none = form_typed (form_of word) at word ts (behind_first says) (behind_say (AreEffectsTyped k (kinds_of scope)) says h) none

mutual
  unfolding effect_read effects_read

  pub effect_typed : (k : Known) (scope : List Var) (tree : Tree) → (effect_read k scope tree).offences ≡ [] → AreEffectsTyped k (kinds_of scope) (effect_read k scope tree).value
  effect_typed k scope (Word at text) = λ none. none_typed k (kinds_of scope)
  effect_typed k scope (Node at items) = λ none. head_typed k scope at items (effects_read k scope items) (effects_typed k scope items) none

  effects_typed : (k : Known) (scope : List Var) (ts : Trees) → AllSay (AreEffectsTyped k (kinds_of scope)) (effects_read k scope ts)
  effects_typed k scope NoMore = tt
  effects_typed k scope (More t ts) = (effect_typed k scope t, effects_typed k scope ts)

-- ---- effects of durative actions

timed_none_typed : (k : Known) (kinds : List ℕ) → AreTimedEffectsTyped k kinds no_timed_effects
timed_none_typed k kinds = record { start = none_typed k kinds; end = none_typed k kinds }

timed_then_typed : (k : Known) (kinds : List ℕ) (e f : PlainTimedEffects) → AreTimedEffectsTyped k kinds e → AreTimedEffectsTyped k kinds f → AreTimedEffectsTyped k kinds (timed_and_then e f)
timed_then_typed k kinds e f h i = record { start = then_typed k kinds e.start f.start h.start i.start; end = then_typed k kinds e.end f.end h.end i.end }

moment_typed : (k : Known) (kinds : List ℕ) (moment : Moment) (e : PlainEffects) → AreEffectsTyped k kinds e → AreTimedEffectsTyped k kinds (effects_at moment e)
moment_typed k kinds Start e h = record { start = h; end = none_typed k kinds }
moment_typed k kinds End e h = record { start = none_typed k kinds; end = h }

module _ (k : Known) (scope : List Var) where
  at_typed : (at : ℕ) (timed : Option (Moment × Tree)) → (given (bad at D22 no_timed_effects) (moment_read k scope) timed).offences ≡ [] → AreTimedEffectsTyped k (kinds_of scope) (given (bad at D22 no_timed_effects) (moment_read k scope) timed).value
  at_typed at None none = timed_none_typed k (kinds_of scope)
  at_typed at (Some timed) none = moment_typed k (kinds_of scope) timed.0 (effect_read k scope timed.1).value (effect_typed k scope timed.1 none)

  timed_form_typed : (form : Form) (at : ℕ) (word : List ℕ) (ts : Trees) (says : List (Read PlainTimedEffects)) → AllSay (AreTimedEffectsTyped k (kinds_of scope)) says → (timed_by_form form k scope at word ts says).offences ≡ [] → AreTimedEffectsTyped k (kinds_of scope) (timed_by_form form k scope at word ts says).value
  timed_form_typed forms.And at word ts says h none = all_hold (AreTimedEffectsTyped k (kinds_of scope)) timed_and_then no_timed_effects (timed_none_typed k (kinds_of scope)) (timed_then_typed k (kinds_of scope)) says h none
  timed_form_typed forms.Not at word ts says h none = timed_none_typed k (kinds_of scope)
  timed_form_typed forms.Atom at word ts says h none = at_typed at (at_moment word ts) none
  timed_form_typed forms.Unsupported at word ts says h none = timed_none_typed k (kinds_of scope)
  timed_form_typed forms.Malformed at word ts says h none = timed_none_typed k (kinds_of scope)

  timed_head_typed : (at : ℕ) (ts : Trees) (says : List (Read PlainTimedEffects)) → AllSay (AreTimedEffectsTyped k (kinds_of scope)) says → (timed_by_head k scope at ts says).offences ≡ [] → AreTimedEffectsTyped k (kinds_of scope) (timed_by_head k scope at ts says).value
  timed_head_typed at NoMore says h none = timed_none_typed k (kinds_of scope)
  timed_head_typed at (More (Node place items) ts) says h none = timed_none_typed k (kinds_of scope)
  timed_head_typed at (More (Word place word) ts) says h none = timed_form_typed (form_of word) at word ts (behind_first says) (behind_say (AreTimedEffectsTyped k (kinds_of scope)) says h) none

mutual
  unfolding timed_effect_read timed_effects_read

  pub timed_effect_typed : (k : Known) (scope : List Var) (tree : Tree) → (timed_effect_read k scope tree).offences ≡ [] → AreTimedEffectsTyped k (kinds_of scope) (timed_effect_read k scope tree).value
  timed_effect_typed k scope (Word at text) = λ none. timed_none_typed k (kinds_of scope)
  timed_effect_typed k scope (Node at items) = λ none. timed_head_typed k scope at items (timed_effects_read k scope items) (timed_effects_typed k scope items) none

  timed_effects_typed : (k : Known) (scope : List Var) (ts : Trees) → AllSay (AreTimedEffectsTyped k (kinds_of scope)) (timed_effects_read k scope ts)
  timed_effects_typed k scope NoMore = tt
  timed_effects_typed k scope (More t ts) = (timed_effect_typed k scope t, timed_effects_typed k scope ts)
