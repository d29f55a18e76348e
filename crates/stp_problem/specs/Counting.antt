-- Laws of counts of nodes.
use Rattle.std.specs.Prelude.{◌≡◌, ℕ, ◌+◌, ◌<◌, List, [], ◌∷◌, map, length, filter, slice_index}
use Rattle.std.specs.List.{flat_map}
use Rattle.stp_base.specs.declared.limits.TheConstants.{MAX_EXPANDED_NODES}
use Rattle.stp_types.specs.Forest.{is_below}
use Rattle.stp_schema.specs.Rows.{Thing}
use Rattle.stp_schema.specs.Formula.{Formula}
use Rattle.stp_schema.specs.Schemas.{PlainSchema}
use Rattle.stp_problem.specs.Sizes.{size_of, AreSizes}
use Rattle.stp_problem.specs.Nodes.{bindings, nodes, nodes_of_schema, are_too_many, cut}

-- a count that is cut decides as the count does
pub record CutDecides : Type 0 where
  pub same : (count : ℕ) → are_too_many (cut count) ≡ are_too_many count
  pub exact : (count : ℕ) → cut count < MAX_EXPANDED_NODES + 1 → cut count ≡ count

-- a list of the sizes of the types counts as the definition of a size does
pub record ListsOfSizesCount : Type 0 where
  pub conditions : (parents : List ℕ) (objects : List Thing) (sizes : List ℕ) → AreSizes parents objects sizes → (condition : Formula) → nodes (slice_index sizes) condition ≡ nodes (size_of parents objects) condition
  pub schemas : (parents : List ℕ) (objects : List Thing) (sizes : List ℕ) → AreSizes parents objects sizes → (schema : PlainSchema) → nodes_of_schema (slice_index sizes) schema ≡ nodes_of_schema (size_of parents objects) schema

-- each list of objects that are of these types, one for each
abbrev pub all_bindings : List ℕ → List Thing → List ℕ → List (List Thing)
all_bindings parents objects [] = [] ∷ []
all_bindings parents objects (kind ∷ kinds) = flat_map (λ o. map (λ binding. o ∷ binding) (all_bindings parents objects kinds)) (filter (λ o. is_below parents o.kind kind) objects)

-- the number of bindings is that of the lists of objects that the variables may stand for
pub record BindingsAreCounted : Type 0 where
  pub number : (parents : List ℕ) (objects : List Thing) (kinds : List ℕ) → bindings (size_of parents objects) kinds ≡ length (all_bindings parents objects kinds)
