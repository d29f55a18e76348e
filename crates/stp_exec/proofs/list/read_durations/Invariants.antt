-- The durations so far and the numbers of the words that are left are the numbers of all words.
use Rattle.std.proofs.Common.{length}
use Rattle.stp_exec.proofs.Entries.{IsSoFar}
use Rattle.stp_exec.proofs.list.read_durations.Given as goal

abbrev pub invariant-loop-word : goal.invariant-loop-word
invariant-loop-word l = IsSoFar l.text (length l.yielded) l.durations
