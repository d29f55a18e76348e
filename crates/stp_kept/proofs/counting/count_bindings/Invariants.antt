-- The bindings so far, and those of what is left, are those of all.
use Rattle.std.proofs.Common.{◌≡◌, ◌+◌, ◌≤◌, map, drop}
use Rattle.stp_schema.specs.Schemas.{schema_of}
use Rattle.stp_kept.specs.Counts.{bindings_of_schemas, cut}
use Rattle.stp_kept.proofs.counting.count_bindings.Given as goal

abbrev pub invariant-loop-schema : goal.invariant-loop-schema
invariant-loop-schema l = record {
  low : l.count ≤ 10000001;
  same : cut (l.count + bindings_of_schemas l.fn.members (map schema_of (drop l.schema-index l.schemas))) ≡ cut (bindings_of_schemas l.fn.members (map schema_of l.schemas));
  members : l.members ≡ l.fn.members;
}
