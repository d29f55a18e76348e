-- Conditions over objects that get other numbers.
use Rattle.std.specs.Prelude.{ℕ, List, map, slice_get}
use Rattle.stp_refusal.specs.Read.{given}
use Rattle.stp_schema.specs.declared.lifted.Term.{Term}
use Rattle.stp_schema.specs.declared.lifted.Term.TheVariants as terms
use Rattle.stp_schema.specs.Formula.{Formula, Formulas, Atom, Same, Not, And, Or, Every, Any, NoMore, More}

abbrev pub as_object : ℕ → Term
as_object number = terms.Object (record { 0 = number })

-- an object's place in place of its number, where it has one
abbrev pub placed_term : List ℕ → Term → Term
placed_term places (terms.Variable number) = terms.Variable number
placed_term places (terms.Object object) = given (terms.Object object) as_object (slice_get places object.0)

-- a condition in which each object has its place as its number
abbrev mutual
  pub placed : List ℕ → Formula → Formula
  placed places (Atom symbol terms) = Atom symbol (map (placed_term places) terms)
  placed places (Same one other) = Same (placed_term places one) (placed_term places other)
  placed places (Not inner) = Not (placed places inner)
  placed places (And members) = And (all_placed places members)
  placed places (Or members) = Or (all_placed places members)
  placed places (Every kinds body) = Every kinds (placed places body)
  placed places (Any kinds body) = Any kinds (placed places body)

  pub all_placed : List ℕ → Formulas → Formulas
  all_placed places NoMore = NoMore
  all_placed places (More f fs) = More (placed places f) (all_placed places fs)
