-- The objects of the type so far.
use Rattle.std.proofs.Common.{◌≡◌}
use Rattle.stp_types.specs.Forest.{is_below}
use Rattle.stp_schema.specs.Rows.{parents_of}
use Rattle.stp_instance.specs.Bindings.{numbers_of}
use Rattle.stp_instance.proofs.OfType.{passing, kind_at}
use Rattle.stp_instance.proofs.members.objects_of_type.Given as goal

abbrev pub invariant-loop-number : goal.invariant-loop-number
invariant-loop-number l = numbers_of l.found.items ≡ passing (λ n. is_below (parents_of l.declared.types.now) (kind_at l.objects n) l.kind) l.number
