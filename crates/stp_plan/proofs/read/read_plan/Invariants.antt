-- What is kept so far, and what comes of the lines from this one on, is what comes of all lines.
use Rattle.std.proofs.Common.{◌≡◌, ◌+◌, map, drop}
use Rattle.stp_plan.specs.Plans.{plan_of}
use Rattle.stp_plan.specs.Views.{so_far_of}
use Rattle.stp_plan.proofs.LineByLine.{read_on, kind_at}
use Rattle.stp_plan.proofs.read.read_plan.Given as goal

abbrev pub invariant-loop-index : goal.invariant-loop-index
invariant-loop-index l = read_on (l.index + 1) (so_far_of l.kept) (map (kind_at l.bytes) (drop l.index l.line-items)) ≡ plan_of l.bytes
