use Rattle.std.proofs.Common.{◌≡◌, [], length, map}
use Rattle.stp_text.specs.Tree.{view}
use Rattle.stp_text.specs.Signs.{signs_of}
use Rattle.stp_text.specs.Reading.{read_on}
use Rattle.stp_text.specs.Pieces.{signs_left}
use Rattle.stp_text.proofs.parser.tree.Given as goal

abbrev pub invariant-loop-found : goal.invariant-loop-found
invariant-loop-found l = read_on [] [] (signs_of l.bytes) ≡ read_on [] (map view l.found) (signs_left l.reader)

abbrev pub decreases-loop-found : goal.decreases-loop-found
decreases-loop-found l = length l.reader.1
