-- Domains that are read are typed.
use Rattle.std.proofs.Common.{◌≡◌, ℕ, ◌<◌, Bool, true, false, if◌then◌else◌, List, [], ◌∷◌, ◌++◌, Option, Some, None, Ok, length, map, refl, ap, subst, arith, length-append}
use Rattle.std.specs.Prelude.{bytes_eq, unwrap_or, codes}
use Rattle.std.specs.List.{list_any}
use Rattle.std.proofs.lemmas.List.Quantifiers.{position-Some}
use Rattle.stp_text.specs.Tree.{Tree, Trees, Word, Node, NoMore, More}
use Rattle.stp_refusal.specs.declared.offence.Offence.{Offence}
use Rattle.stp_refusal.specs.First.{is_before, first_from, first_of}
use Rattle.stp_refusal.specs.Phases.{or_else, chosen}
use Rattle.stp_tables.specs.Names.{number_of, is_new_in, with_name}
use Rattle.stp_domain_parts.specs.Entries.{Plain, is_dash}
use Rattle.stp_domain_parts.specs.Judged.{tree_number, kind_number}
use Rattle.stp_domain_parts.specs.Actions.{Action, Timing, Instant, Controlled, Uncertain}
use Rattle.stp_schema.specs.Rows.{Thing}
use Rattle.stp_schema.specs.Known.{Known}
use Rattle.stp_schema.specs.Schemas.{PlainTiming}
use Rattle.stp_schema.specs.Views.{PlainDomain}
use Rattle.stp_condition.specs.Scope.{Var, kinds_of}
use Rattle.stp_refusal.proofs.Saying.{none_first, none_rest}
use Rattle.stp_condition.specs.TypedConditions.{AreTypes, IsTyped, ReadConditionsAreTyped}
use Rattle.stp_condition.specs.Whole.{scope_with}
use Rattle.stp_condition.specs.TimedConditions.{no_parts, conjunctions, timed_condition_read}
use Rattle.stp_condition.specs.TypedTimedConditions.{AreConditionsTyped, ReadTimedConditionsAreTyped}
use Rattle.stp_body.specs.Effects.{no_effects, effect_read}
use Rattle.stp_body.specs.TimedEffects.{no_timed_effects, timed_effect_read}
use Rattle.stp_body.specs.TypedEffects.{AreEffectsTyped, AreTimedEffectsTyped, ReadEffectsAreTyped}
use Rattle.stp_body.specs.Durations.{PlainBounds, duration_read}
use Rattle.stp_body.specs.TypedDurations.{AreBoundsTyped, ReadDurationsAreTyped}
use Rattle.stp_domain_tables.specs.Symbols.{Signature}
use Rattle.stp_domain_tables.specs.Actions.{ActionSignature}
use Rattle.stp_domain_tables.specs.Types.{with_type, with_types, types_in}
use Rattle.stp_domain_tables.specs.Tables.{kinds_of as kinds_in, words_of, shape, thing, Things, no_things, with_thing, with_things, action_shape}
use Rattle.stp_domain.specs.Bodies.{PlainBody, optional, needs, simple_read, parts_read, chosen_timing, suffered_timing, durative_read, body_by, body_read}
use Rattle.stp_domain.specs.Schemas.{schema_read, schemas_read}
use Rattle.stp_refusal.specs.Phases.{unless_refused}
use Rattle.stp_domain.specs.Reading.{parts_phase, declarations_phase, tables_phase, schemas_phase, phases, domain_of_tree, domain_or_refusal}
use Rattle.stp_domain.specs.Typed.{IsTimingTyped, IsSchemaTyped, AreSchemasTyped, AreShapesTyped, AreThingsTyped, IsDomainTyped}

-- ---- a domain is given where no phase has an offence

-- whichever is kept
kept : (os : List Offence) (x o : Offence) (b : Bool) → ((y : Offence) → first_from (Some y) os ≡ None → ⊥) → first_from (if b then Some x else Some o) os ≡ None → ⊥
kept os x o true f e = f x e
kept os x o false f e = f o e

some_stays : (os : List Offence) (x : Offence) → first_from (Some x) os ≡ None → ⊥
some_stays [] x e = cc
some_stays (o ∷ os) x e = kept os x o (is_before x o) (some_stays os) e

none_found : (os : List Offence) → first_of os ≡ None → os ≡ []
none_found [] e = refl
none_found (o ∷ os) e = absurd (some_stays os o e)

neither : (f g : Option Offence) → or_else f g ≡ None → (f ≡ None) × (g ≡ None)
neither None g e = (refl, e)
neither (Some o) g e = cc

lawful : {A : Type 0} (value d : A) (f : Option Offence) → unless_refused value f ≡ Ok d → (f ≡ None) × (value ≡ d)
lawful value d None e = (refl, cc)
lawful value d (Some o) e = cc

-- ---- types

-- `object` is a type
abbrev longer : List (List ℕ) → Bool → List ℕ → List (List ℕ)
longer seen b text = if b then seen else seen ++ text ∷ []

named_some : (seen : List (List ℕ)) (text : List ℕ) (b : Bool) → 0 < length seen → 0 < length (longer seen b text)
named_some seen text true h = h
named_some seen text false h = let l = length-append seen (text ∷ []) in omega (arith, h, l)

word_some : (seen : List (List ℕ)) (text : List ℕ) (b : Bool) → 0 < length seen → 0 < length (if b then seen else with_name seen text)
word_some seen text true h = h
word_some seen text false h = named_some seen text (list_any (bytes_eq text) seen) h

type_some : (seen : List (List ℕ)) (t : Tree) → 0 < length seen → 0 < length (with_type seen t)
type_some seen (Word at text) h = word_some seen text (is_dash text) h
type_some seen (Node at items) h = h

types_some : (seen : List (List ℕ)) (ts : Trees) → 0 < length seen → 0 < length (with_types seen ts)
types_some seen NoMore h = h
types_some seen (More t ts) h = types_some (with_type seen t) ts (type_some seen t h)

some_type : (items : Trees) → 0 < length (types_in items)
some_type items = types_some (codes "object" ∷ []) items (omega arith)

number_typed : (types : List (List ℕ)) (name : List ℕ) (number : Option ℕ) → 0 < length types → number_of types name ≡ number → unwrap_or number 0 < length types
number_typed types name None some e = some
number_typed types name (Some n) some e = (position-Some (bytes_eq name) types n [] e).0

tree_typed : (types : List (List ℕ)) (kind : Option Tree) → 0 < length types → tree_number types kind < length types
tree_typed types None some = some
tree_typed types (Some (Word at text)) some = number_typed types text (number_of types text) some refl
tree_typed types (Some (Node at items)) some = some

module _ (k : Known) (some : 0 < length k.types) where
  kinds_typed : (es : List Plain) → AreTypes k (kinds_in k.types es)
  kinds_typed [] = tt
  kinds_typed (e ∷ es) = (tree_typed k.types e.kind some, kinds_typed es)

  shapes_typed : (ss : List Signature) → AreShapesTyped k (map (shape k.types) ss)
  shapes_typed [] = tt
  shapes_typed (s ∷ ss) = (kinds_typed s.parameters, shapes_typed ss)

  more_typed : (ts : List Thing) (t : Thing) → AreThingsTyped k ts → t.kind < length k.types → AreThingsTyped k (ts ++ t ∷ [])
  more_typed [] t h i = (i, tt)
  more_typed (u ∷ ts) t h i = (h.0, more_typed ts t h.1 i)

  row_typed : (b : Bool) (ts : List Thing) (t : Thing) → AreThingsTyped k ts → t.kind < length k.types → AreThingsTyped k (if b then ts ++ t ∷ [] else ts)
  row_typed true ts t h i = more_typed ts t h i
  row_typed false ts t h i = h

  things_typed : (found : Things) (es : List Plain) → AreThingsTyped k found.rows → AreThingsTyped k (with_things k.types found es).rows
  things_typed found [] h = h
  things_typed found (e ∷ es) h = things_typed (with_thing k.types found e) es (row_typed (is_new_in found.names e.name) found.rows (thing k.types e) h (tree_typed k.types e.kind some))

-- ---- actions

kinds_scope : (types : List (List ℕ)) (es : List Plain) → kinds_of (scope_with (words_of es) (kinds_in types es)) ≡ kinds_in types es
kinds_scope types [] = refl
kinds_scope types (e ∷ es) = ap (λ kinds. kind_number types e ∷ kinds) (kinds_scope types es)

-- what is read as a part of an action is typed
pub record PartsAreTyped : Type 0 where
  pub conditions : ReadConditionsAreTyped
  pub timed : ReadTimedConditionsAreTyped
  pub effects : ReadEffectsAreTyped
  pub durations : ReadDurationsAreTyped

-- what an action says besides its name and its parameters, in the scope of parameters of these types
record IsBodyTyped (k : Known) (kinds : List ℕ) (b : PlainBody) : Type 0 where
  timing : IsTimingTyped k kinds b.timing
  start_cond : IsTyped k kinds b.start_cond
  over_all : IsTyped k kinds b.over_all
  end_cond : IsTyped k kinds b.end_cond
  start : AreEffectsTyped k kinds b.start
  end : AreEffectsTyped k kinds b.end

module _ (parts : PartsAreTyped) (k : Known) (some : 0 < length k.types) (scope : List Var) where
  needs_typed : (tree : Option Tree) → (needs k scope tree).offences ≡ [] → IsTyped k (kinds_of scope) (needs k scope tree).value
  needs_typed None none = tt
  needs_typed (Some t) none = parts.conditions k t scope some none

  changes_typed : (tree : Option Tree) → (optional no_effects (effect_read k scope) tree).offences ≡ [] → AreEffectsTyped k (kinds_of scope) (optional no_effects (effect_read k scope) tree).value
  changes_typed None none = record { adds = tt; dels = tt }
  changes_typed (Some t) none = parts.effects.simple k scope t none

  timed_needs_typed : (tree : Option Tree) → (optional (conjunctions no_parts) (timed_condition_read k scope) tree).offences ≡ [] → AreConditionsTyped k (kinds_of scope) (optional (conjunctions no_parts) (timed_condition_read k scope) tree).value
  timed_needs_typed None none = record { start = tt; over_all = tt; end = tt }
  timed_needs_typed (Some t) none = parts.timed k scope t some none

  timed_changes_typed : (tree : Option Tree) → (optional no_timed_effects (timed_effect_read k scope) tree).offences ≡ [] → AreTimedEffectsTyped k (kinds_of scope) (optional no_timed_effects (timed_effect_read k scope) tree).value
  timed_changes_typed None none = record { start = record { adds = tt; dels = tt }; end = record { adds = tt; dels = tt } }
  timed_changes_typed (Some t) none = parts.effects.durative k scope t none

  simple_typed : (a : Action) → (simple_read k scope a).offences ≡ [] → IsBodyTyped k (kinds_of scope) (simple_read k scope a).value
  simple_typed a none = record {
    timing = tt;
    start_cond = needs_typed a.condition (none_first (needs k scope a.condition).offences (optional no_effects (effect_read k scope) a.effect).offences none);
    over_all = tt;
    end_cond = tt;
    start = changes_typed a.effect (none_rest (needs k scope a.condition).offences (optional no_effects (effect_read k scope) a.effect).offences none);
    end = record { adds = tt; dels = tt };
  }

  module _ (timing : PlainBounds → PlainTiming) (is_timing : (b : PlainBounds) → AreBoundsTyped k (kinds_of scope) b → IsTimingTyped k (kinds_of scope) (timing b)) where
    durative_typed : (duration : Tree) (a : Action) → (durative_read k scope timing duration a).offences ≡ [] → IsBodyTyped k (kinds_of scope) (durative_read k scope timing duration a).value
    durative_typed duration a none =
        let bounds = is_timing (duration_read k scope duration).value (parts.durations.durations k scope duration (none_first (duration_read k scope duration).offences (parts_read k scope a).offences none)) in
        let behind = none_rest (duration_read k scope duration).offences (parts_read k scope a).offences none in
        let conditions = timed_needs_typed a.condition (none_first (optional (conjunctions no_parts) (timed_condition_read k scope) a.condition).offences (optional no_timed_effects (timed_effect_read k scope) a.effect).offences behind) in
        let effects = timed_changes_typed a.effect (none_rest (optional (conjunctions no_parts) (timed_condition_read k scope) a.condition).offences (optional no_timed_effects (timed_effect_read k scope) a.effect).offences behind) in
        record {
          timing = bounds;
          start_cond = conditions.start;
          over_all = conditions.over_all;
          end_cond = conditions.end;
          start = effects.start;
          end = effects.end;
        }

  by_timing_typed : (timing : Timing) (a : Action) → (body_by timing k scope a).offences ≡ [] → IsBodyTyped k (kinds_of scope) (body_by timing k scope a).value
  by_timing_typed Instant a none = simple_typed a none
  by_timing_typed (Controlled duration) a none = durative_typed chosen_timing (λ b h. (h.low, h.high)) duration a none
  by_timing_typed (Uncertain duration) a none = durative_typed suffered_timing (λ b h. (h.low, h.high)) duration a none

schema_typed : PartsAreTyped → (k : Known) (some : 0 < length k.types) (a : ActionSignature) → (schema_read k (action_shape k.types a)).offences ≡ [] → IsSchemaTyped k (schema_read k (action_shape k.types a)).value
schema_typed parts k some a none =
    let scope = scope_with (words_of a.parameters) (kinds_in k.types a.parameters) in
    let same : kinds_of scope ≡ kinds_in k.types a.parameters = kinds_scope k.types a.parameters in
    let body : IsBodyTyped k (kinds_in k.types a.parameters) (body_read k scope a.action).value = subst (λ kinds. IsBodyTyped k kinds (body_read k scope a.action).value) same (by_timing_typed parts k some scope a.action.timing a.action none) in
    record {
      parameters = kinds_typed k some a.parameters;
      timing = body.timing;
      start_cond = body.start_cond;
      over_all = body.over_all;
      end_cond = body.end_cond;
      start_adds = body.start.adds;
      start_dels = body.start.dels;
      end_adds = body.end.adds;
      end_dels = body.end.dels;
    }

schemas_typed : PartsAreTyped → (k : Known) (some : 0 < length k.types) (as_ : List ActionSignature) → (schemas_read k (map (action_shape k.types) as_)).offences ≡ [] → AreSchemasTyped k (schemas_read k (map (action_shape k.types) as_)).value
schemas_typed parts k some [] none = tt
schemas_typed parts k some (a ∷ as_) none = (
  schema_typed parts k some a (none_first (schema_read k (action_shape k.types a)).offences (schemas_read k (map (action_shape k.types) as_)).offences none),
  schemas_typed parts k some as_ (none_rest (schema_read k (action_shape k.types a)).offences (schemas_read k (map (action_shape k.types) as_)).offences none),
)

-- ---- domains

domain_is_typed : PartsAreTyped → (t : Tree) → (schemas_phase t).offences ≡ [] → IsDomainTyped (domain_of_tree t)
domain_is_typed parts t none =
    let some = some_type (declarations_phase t).value.type_items in
    let k = (tables_phase t).value.known in
    record {
      predicates = shapes_typed k some (declarations_phase t).value.predicates.rows;
      functions = shapes_typed k some (declarations_phase t).value.functions.symbols.rows;
      constants = things_typed k some no_things (declarations_phase t).value.constants tt;
      schemas = schemas_typed parts k some (declarations_phase t).value.actions.rows none;
    }

pub domain_typed : PartsAreTyped → (t : Tree) (d : PlainDomain) → domain_or_refusal t ≡ Ok d → IsDomainTyped d
domain_typed parts t d e =
    let read = lawful (domain_of_tree t) d (chosen (phases t)) e in
    let past_first = neither (first_of (parts_phase t).offences) (chosen ((declarations_phase t).offences ∷ (tables_phase t).offences ∷ (schemas_phase t).offences ∷ [])) read.0 in
    let past_second = neither (first_of (declarations_phase t).offences) (chosen ((tables_phase t).offences ∷ (schemas_phase t).offences ∷ [])) past_first.1 in
    let past_third = neither (first_of (tables_phase t).offences) (chosen ((schemas_phase t).offences ∷ [])) past_second.1 in
    let past_fourth = neither (first_of (schemas_phase t).offences) None past_third.1 in
    subst IsDomainTyped read.1 (domain_is_typed parts t (none_found (schemas_phase t).offences past_fourth.0))
