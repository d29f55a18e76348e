-- What instances stand for.
use Rattle.std.specs.Prelude.{◌≡◌, ◌≤◌, ◌<◌, Bool, true, false, List, ◌++◌, length, map}
use Rattle.stp_base.specs.declared.limits.TheConstants.{MAX_ACTIONS}
use Rattle.stp_schema.specs.Schemas.{schema_of}
use Rattle.stp_task.specs.Durations.{plain_duration}
use Rattle.stp_instance.specs.Bindings.{numbers_of}
use Rattle.stp_kept.specs.declared.instance.Instance.{Instance}
use Rattle.stp_kept.specs.Instances.{PlainInstance, instance_with}

abbrev pub instance_view : Instance → PlainInstance
instance_view i = instance_with i.number (schema_of i.schema.now) (numbers_of i.args.now) (plain_duration i.duration)

abbrev pub instance_views : List Instance → List PlainInstance
instance_views is = map instance_view is

-- These are put behind others; or there are more than are accepted.
abbrev pub Lists : Bool → List PlainInstance → List PlainInstance → List PlainInstance → Type 0
Lists true old new more = (new ≡ old ++ more) × (length new ≤ MAX_ACTIONS)
Lists false old new more = MAX_ACTIONS < length (old ++ more)
