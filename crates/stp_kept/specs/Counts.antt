-- Counts of bindings and of nodes.
use Rattle.std.specs.Prelude.{ℕ, ◌+◌, min, List, length}
use Rattle.std.specs.List.{sum_by}
use Rattle.stp_base.specs.declared.limits.TheConstants.{MAX_ACTION_NODES}
use Rattle.stp_schema.specs.Schemas.{PlainSchema}
use Rattle.stp_schema.specs.Views.{PlainProblem}
use Rattle.stp_instance.specs.Typing.{Typing, objects_in}
use Rattle.stp_ground.specs.Typing.{typing_of}
use Rattle.stp_problem.specs.Nodes.{bindings, nodes_of_schema}
use Rattle.stp_kept.specs.Instances.{PlainInstance, kept}

-- how many objects a type has, those of the types below it counted
abbrev pub size_in : Typing → ℕ → ℕ
size_in typing kind = length (objects_in typing kind)

-- the bindings of all of these schemas
abbrev pub bindings_of_schemas : Typing → List PlainSchema → ℕ
bindings_of_schemas typing schemas = sum_by (λ s. bindings (size_in typing) s.parameters) schemas

-- the nodes of the schemas of all of these instances
abbrev pub nodes_of_instances : Typing → List PlainInstance → ℕ
nodes_of_instances typing instances = sum_by (λ i. nodes_of_schema (size_in typing) i.schema) instances

-- the typed bindings of a problem's schemas
abbrev pub binding_count : PlainProblem → ℕ
binding_count p = bindings_of_schemas (typing_of p) p.domain.schemas

-- the nodes of the kept instances
abbrev pub node_count : PlainProblem → ℕ
node_count p = nodes_of_instances (typing_of p) (kept p)

-- a count, or one more than the greatest limit of a count where it is greater
abbrev pub cut : ℕ → ℕ
cut count = min count (MAX_ACTION_NODES + 1)
