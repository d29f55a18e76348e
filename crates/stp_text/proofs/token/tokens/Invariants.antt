use Rattle.std.proofs.Common.{◌≡◌, [], length}
use Rattle.stp_text.specs.Signs.{signs_of}
use Rattle.stp_text.specs.Pieces.{signs_left}
use Rattle.stp_text.proofs.Continuing.{tokens_on}
use Rattle.stp_text.proofs.token.tokens.Given as goal

abbrev pub invariant-loop-found : goal.invariant-loop-found
invariant-loop-found l = tokens_on [] (signs_of l.bytes) ≡ tokens_on l.found (signs_left l.reader)

abbrev pub decreases-loop-found : goal.decreases-loop-found
decreases-loop-found l = length l.reader.1
