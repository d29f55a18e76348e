-- Marks of predicates, put one after the other.
use Rattle.std.specs.Prelude.{ℕ, Bool, ◌||◌, ◌==◌, List, [], ◌∷◌}
use Rattle.stp_schema.specs.Formula.{PlainAtom}
use Rattle.stp_schema.specs.Schemas.{PlainSchema}
use Rattle.stp_schema.specs.Timed.{PlainLiteral, PlainTimedFact}
use Rattle.stp_ground.specs.Problems.{effects_of}

-- marks with one more
abbrev pub with_mark : ℕ → (ℕ → Bool) → ℕ → Bool
with_mark predicate marks n = marks n || predicate == n

-- marks with those of some predicates
abbrev pub with_marks : {A : Type 0} → (A → ℕ) → List A → (ℕ → Bool) → ℕ → Bool
with_marks predicate [] marks = marks
with_marks predicate (a ∷ rest) marks = with_marks predicate rest (with_mark (predicate a) marks)

-- the predicate of an atom, and that of a literal
abbrev pub symbol_of : PlainAtom → ℕ
symbol_of a = a.symbol

abbrev pub predicate_of : PlainLiteral → ℕ
predicate_of l = l.predicate

-- marks with those of all effects of some schemas
abbrev pub with_effects : List PlainSchema → (ℕ → Bool) → ℕ → Bool
with_effects [] marks = marks
with_effects (s ∷ rest) marks = with_effects rest (with_marks symbol_of (effects_of s) marks)

-- marks with those of all literals of some events
abbrev pub with_events : List PlainTimedFact → (ℕ → Bool) → ℕ → Bool
with_events [] marks = marks
with_events (e ∷ rest) marks = with_events rest (with_marks predicate_of e.literals marks)
