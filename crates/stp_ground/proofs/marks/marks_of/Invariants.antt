-- The marks so far, once the schemas that are left are marked, are those in the end.
use Rattle.std.proofs.Common.{◌≡◌, [], map, drop}
use Rattle.stp_schema.specs.Schemas.{schema_of}
use Rattle.stp_instance.specs.Numbered.{is_fluent}
use Rattle.stp_ground.specs.Marks.{with_effects}
use Rattle.stp_ground.proofs.marks.marks_of.Given as goal

abbrev pub invariant-loop-schema : goal.invariant-loop-schema
invariant-loop-schema l = with_effects (map schema_of (drop l.schema-index l.schemas)) (is_fluent l.marks.items) ≡ with_effects (map schema_of l.schemas) (is_fluent [])
