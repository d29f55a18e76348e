-- No step so far is too late.
use Rattle.std.proofs.Common.{◌≡◌, ◌+◌, map, drop}
use Rattle.stp_exec.specs.Timed.{plain_timed, late_from, first_too_late}
use Rattle.stp_exec.proofs.late.first_late.Given as goal

abbrev pub invariant-loop-index : goal.invariant-loop-index
invariant-loop-index l = late_from (l.index + 1) (map plain_timed (drop l.index l.steps)) ≡ first_too_late (map plain_timed l.steps)
