-- The objects so far are those of the terms so far.
use Rattle.std.proofs.Common.{◌≡◌, take}
use Rattle.stp_instance.specs.Bindings.{numbers_of, objects_of}
use Rattle.stp_instance.proofs.binding.objects_under.Given as goal

abbrev pub invariant-loop-term : goal.invariant-loop-term
invariant-loop-term l = numbers_of l.objects.items ≡ objects_of (numbers_of l.binding) (take l.term-index l.terms)
