-- What is listed so far, and what the objects that are left give, is all; the binding is as it was.
use Rattle.std.proofs.Common.{◌≡◌, ◌+◌, ◌*◌, ◌++◌, [], ◌∷◌, drop, flat_map, length}
use Rattle.stp_schema.specs.Schemas.{schema_of}
use Rattle.stp_instance.specs.Bindings.{numbers_of}
use Rattle.stp_ground.specs.Worlds.{problem_in}
use Rattle.stp_kept.specs.Instances.{kept_with}
use Rattle.stp_kept.specs.Views.{instance_views}
use Rattle.stp_kept.proofs.listing.+list.Given as goal

abbrev pub decreases-list : goal.decreases-list
decreases-list l = 3 * length l.kinds.now

abbrev pub decreases-list_with : goal.decreases-list_with
decreases-list_with l = 3 * length l.kinds.now + 1

abbrev pub decreases-list_each : goal.decreases-list_each
decreases-list_each l = 3 * length l.kinds.now + 2

abbrev pub invariant-list_each-loop-object : goal.invariant-list_each-loop-object
invariant-list_each-loop-object l = record {
  listed : instance_views l.out ++ flat_map (λ o. kept_with (problem_in l.fn.world) l.row.number (schema_of l.row.schema.now) (numbers_of l.fn.binding.items ++ o.0 ∷ []) l.kinds) (drop l.object-index l.objects) ≡ instance_views l.fn.out ++ flat_map (λ o. kept_with (problem_in l.fn.world) l.row.number (schema_of l.row.schema.now) (numbers_of l.fn.binding.items ++ o.0 ∷ []) l.kinds) l.objects;
  binding : numbers_of l.binding.items ≡ numbers_of l.fn.binding.items;
  same : problem_in l.world ≡ problem_in l.fn.world;
}
