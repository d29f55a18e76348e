-- No step so far is of the same action.
use Rattle.std.proofs.Common.{◌≡◌, ◌+◌, map, drop}
use Rattle.std.specs.List.{position_or_len}
use Rattle.stp_exec.specs.Plans.{is_one_action}
use Rattle.stp_exec.specs.Views.{plain_placed}
use Rattle.stp_exec.proofs.keys.key_of.Given as goal

abbrev pub invariant-loop-index : goal.invariant-loop-index
invariant-loop-index l = l.index + position_or_len (is_one_action (plain_placed l.step)) (map plain_placed (drop l.index l.placed)) ≡ position_or_len (is_one_action (plain_placed l.step)) (map plain_placed l.placed)
