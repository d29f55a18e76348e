-- Facts and values that fit what is declared.
use Rattle.std.specs.Prelude.{◌≡◌, ℕ, true, List, [], ◌∷◌, Some, slice_get}
use Rattle.stp_text.specs.Tree.{Trees}
use Rattle.stp_types.specs.Forest.{is_below}
use Rattle.stp_schema.specs.Rows.{Shape, Thing}
use Rattle.stp_schema.specs.Known.{Known}
use Rattle.stp_schema.specs.Views.{PlainFact, PlainGiven}
use Rattle.stp_schema.specs.Timed.{PlainLiteral, PlainTimedFact}
use Rattle.stp_problem.specs.Facts.{place_of, value_in, facts_read}
use Rattle.stp_problem.specs.TimedItems.{timed_read}
use Rattle.stp_problem.specs.Events.{events_of}

-- an object of a type that fits this one
pub record IsObjectTyped (k : Known) (kind object : ℕ) : Type 0 where
  pub thing : Thing
  pub is_there : slice_get k.objects object ≡ Some thing
  pub is_fit : is_below k.parents thing.kind kind ≡ true

-- an object for each of these types, and no more
abbrev pub AreObjectsTyped : Known → List ℕ → List ℕ → Type 0
AreObjectsTyped k [] [] = Unit {0}
AreObjectsTyped k [] (object ∷ objects) = ⊥
AreObjectsTyped k (kind ∷ kinds) [] = ⊥
AreObjectsTyped k (kind ∷ kinds) (object ∷ objects) = IsObjectTyped k kind object × AreObjectsTyped k kinds objects

-- one of these symbols, with an object for each of its parameters
pub record IsAtomTyped (k : Known) (shapes : List Shape) (symbol : ℕ) (args : List ℕ) : Type 0 where
  pub shape : Shape
  pub is_declared : slice_get shapes symbol ≡ Some shape
  pub fit_objects : AreObjectsTyped k shape.parameters args

abbrev pub AreFactsTyped : Known → List PlainFact → Type 0
AreFactsTyped k [] = Unit {0}
AreFactsTyped k (f ∷ fs) = IsAtomTyped k k.predicates f.predicate f.args × AreFactsTyped k fs

abbrev pub AreValuesTyped : Known → List PlainGiven → Type 0
AreValuesTyped k [] = Unit {0}
AreValuesTyped k (g ∷ gs) = IsAtomTyped k k.functions g.function g.args × AreValuesTyped k gs

abbrev pub AreLiteralsTyped : Known → List PlainLiteral → Type 0
AreLiteralsTyped k [] = Unit {0}
AreLiteralsTyped k (l ∷ ls) = IsAtomTyped k k.predicates l.predicate l.args × AreLiteralsTyped k ls

abbrev pub AreEventsTyped : Known → List PlainTimedFact → Type 0
AreEventsTyped k [] = Unit {0}
AreEventsTyped k (e ∷ es) = AreLiteralsTyped k e.literals × AreEventsTyped k es

-- each of these values is the one that its function has at its objects
abbrev pub AreFound : List PlainGiven → List PlainGiven → Type 0
AreFound all [] = Unit {0}
AreFound all (g ∷ gs) = (value_in (place_of g) all ≡ Some g.value) × AreFound all gs

-- What is read without an offence is typed, and a function has at most one value at the same objects.
pub record ReadFactsAreTyped : Type 0 where
  pub facts : (k : Known) (items : Trees) → (facts_read k items).offences ≡ [] → AreFactsTyped k (facts_read k items).value.initial
  pub values : (k : Known) (items : Trees) → (facts_read k items).offences ≡ [] → AreValuesTyped k (facts_read k items).value.values
  pub events : (k : Known) (items : Trees) → (timed_read k items).offences ≡ [] → AreEventsTyped k (events_of (timed_read k items).value)
  pub once : (k : Known) (items : Trees) → AreFound (facts_read k items).value.values (facts_read k items).value.values
