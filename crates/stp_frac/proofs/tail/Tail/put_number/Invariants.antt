-- The digits left to put and those that stand are the number's.
use Rattle.std.proofs.Common.{◌≡◌, ◌<◌, ◌^◌, ◌++◌, decimal}
use Rattle.stp_frac.proofs.tail.Tail.put_number.Given as goal

abbrev pub invariant-loop-rest : goal.invariant-loop-rest
invariant-loop-rest l = record {
  size : l.rest < 10 ^ 18;
  text : decimal l.rest ++ l.self ≡ decimal l.number ++ l.fn.self;
}

abbrev pub decreases-loop-rest : goal.decreases-loop-rest
decreases-loop-rest l = l.rest
