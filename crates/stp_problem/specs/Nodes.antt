-- How many nodes a condition has once its quantifiers are expanded.
use Rattle.std.specs.Prelude.{ℕ, ◌+◌, ◌*◌, Bool, nat_lt, min, if◌then◌else◌, Option, option_map, List, [], ◌∷◌}
use Rattle.std.specs.List.{position}
use Rattle.stp_base.specs.declared.limits.TheConstants.{MAX_EXPANDED_NODES}
use Rattle.stp_schema.specs.Formula.{Formula, Formulas, Atom, Same, Not, And, Or, Every, Any, NoMore, More}
use Rattle.stp_schema.specs.Schemas.{PlainSchema, PlainTiming, Instant, Controlled, Uncertain}

-- the number of bindings of variables of these types, where each type has so many objects
abbrev pub bindings : (ℕ → ℕ) → List ℕ → ℕ
bindings size [] = 1
bindings size (kind ∷ kinds) = size kind * bindings size kinds

-- An atom and an equality count 1, the other conditions 1 and what is in them. The body of a quantifier counts once for each binding.
abbrev mutual
  pub nodes : (ℕ → ℕ) → Formula → ℕ
  nodes size (Atom symbol terms) = 1
  nodes size (Same one other) = 1
  nodes size (Not inner) = 1 + nodes size inner
  nodes size (And members) = 1 + nodes_of_all size members
  nodes size (Or members) = 1 + nodes_of_all size members
  nodes size (Every kinds body) = 1 + bindings size kinds * nodes size body
  nodes size (Any kinds body) = 1 + bindings size kinds * nodes size body

  pub nodes_of_all : (ℕ → ℕ) → Formulas → ℕ
  nodes_of_all size NoMore = 0
  nodes_of_all size (More first rest) = nodes size first + nodes_of_all size rest

-- the nodes of a condition whose parts stand side by side: the conjunction that holds them counts nothing
abbrev pub nodes_of_parts : (ℕ → ℕ) → Formula → ℕ
nodes_of_parts size (Atom symbol terms) = nodes size (Atom symbol terms)
nodes_of_parts size (Same one other) = nodes size (Same one other)
nodes_of_parts size (Not inner) = nodes size (Not inner)
nodes_of_parts size (And members) = nodes_of_all size members
nodes_of_parts size (Or members) = nodes size (Or members)
nodes_of_parts size (Every kinds body) = nodes size (Every kinds body)
nodes_of_parts size (Any kinds body) = nodes size (Any kinds body)

-- the nodes of these conditions of an action: of its one condition, or of the parts of its three
abbrev pub nodes_by_timing : (ℕ → ℕ) → PlainTiming → Bool → Formula → Formula → Formula → ℕ
nodes_by_timing size Instant has_condition start over_all end = if has_condition then nodes size start else 0
nodes_by_timing size (Controlled low high) has_condition start over_all end = nodes_of_parts size start + nodes_of_parts size over_all + nodes_of_parts size end
nodes_by_timing size (Uncertain low high) has_condition start over_all end = nodes_of_parts size start + nodes_of_parts size over_all + nodes_of_parts size end

-- A simple action's condition counts nothing where it is missing, and 1 where it is `()`.
abbrev pub nodes_of_schema : (ℕ → ℕ) → PlainSchema → ℕ
nodes_of_schema size s = nodes_by_timing size s.timing s.has_condition s.start_cond s.over_all s.end_cond

-- whether there are more nodes than are accepted
abbrev pub are_too_many : ℕ → Bool
are_too_many count = nat_lt MAX_EXPANDED_NODES count

-- a count, or one more than is accepted where it is greater
abbrev pub cut : ℕ → ℕ
cut count = min count (MAX_EXPANDED_NODES + 1)

-- the number, from 1, of the first action with more nodes than are accepted
abbrev pub first_too_large : (ℕ → ℕ) → List PlainSchema → Option ℕ
first_too_large size schemas = option_map (λ place. place + 1) (position (λ s. are_too_many (nodes_of_schema size s)) schemas)
