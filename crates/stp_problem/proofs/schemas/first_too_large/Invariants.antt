use Rattle.std.proofs.Common.{◌≡◌, ℕ, ◌<◌, false, get_or, slice_index}
use Rattle.stp_schema.specs.declared.domain.Schema.{Schema}
use Rattle.stp_schema.specs.Schemas.{schema_of}
use Rattle.stp_problem.specs.Nodes.{nodes_of_schema, are_too_many}
use Rattle.stp_problem.proofs.schemas.first_too_large.Given as goal

abbrev pub invariant-loop-schema : goal.invariant-loop-schema
invariant-loop-schema l = record {
  number : l.number ≡ l.schema-index;
  before : (k : ℕ) (d : Schema) → k < l.schema-index → are_too_many (nodes_of_schema (slice_index l.sizes) (schema_of (get_or l.schemas k d))) ≡ false;
}
