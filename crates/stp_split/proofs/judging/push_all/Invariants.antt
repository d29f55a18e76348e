-- The steps so far.
use Rattle.std.proofs.Common.{◌≡◌, ◌++◌, take}
use Rattle.stp_split.proofs.judging.push_all.Given as goal

abbrev pub invariant-loop-step : goal.invariant-loop-step
invariant-loop-step l = l.steps ≡ l.fn.steps ++ take l.step-index l.more
