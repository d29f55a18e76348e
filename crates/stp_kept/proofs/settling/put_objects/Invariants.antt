-- The objects so far, and those of the terms that are left, are all.
use Rattle.std.proofs.Common.{◌≡◌, ◌++◌, drop}
use Rattle.stp_instance.specs.Bindings.{numbers_of, objects_of}
use Rattle.stp_kept.proofs.settling.put_objects.Given as goal

abbrev pub invariant-loop-term : goal.invariant-loop-term
invariant-loop-term l = numbers_of l.args.items ++ objects_of (numbers_of l.binding) (drop l.term-index l.terms) ≡ numbers_of l.fn.args.items ++ objects_of (numbers_of l.binding) l.terms
