use Rattle.std.proofs.Common.{◌-◌, length}
use Rattle.stp_tests_boxes.proofs.families.+first_failing.Given as goal

abbrev pub decreases-first_failing : goal.decreases-first_failing
decreases-first_failing l = length l.boxed.now.owners - l.at
