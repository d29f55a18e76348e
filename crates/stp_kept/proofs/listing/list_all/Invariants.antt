-- What is listed so far, and what the schemas that are left give, is all.
use Rattle.std.proofs.Common.{◌≡◌, ◌≤◌, ◌++◌, map, drop, length}
use Rattle.stp_base.specs.declared.limits.TheConstants.{MAX_ACTIONS}
use Rattle.stp_schema.specs.Schemas.{schema_of}
use Rattle.stp_ground.specs.Worlds.{problem_in}
use Rattle.stp_kept.specs.Instances.{kept_from}
use Rattle.stp_kept.specs.Views.{instance_views}
use Rattle.stp_kept.proofs.listing.list_all.Given as goal

abbrev pub invariant-loop-schema : goal.invariant-loop-schema
invariant-loop-schema l = record {
  listed : instance_views l.out ++ kept_from (problem_in l.fn.world) l.number (map schema_of (drop l.schema-index l.schemas)) ≡ kept_from (problem_in l.fn.world) 0 (map schema_of l.schemas);
  number : l.number ≡ l.schema-index;
  few : length (instance_views l.out) ≤ MAX_ACTIONS;
  same : problem_in l.world ≡ problem_in l.fn.world;
}
