use Rattle.std.proofs.Common.{◌≡◌, ◌+◌, ◌-◌, ◌*◌, ◌≤◌, List, [], ◌∷◌, length, map}
use Rattle.stp_text.specs.Tree.{Tree, view}
use Rattle.stp_text.specs.Reading.{Frame, read_on}
use Rattle.stp_text.specs.Pieces.{signs_left}
use Rattle.stp_text.proofs.parser.+parser.Given as goal

abbrev pub decreases-item : goal.decreases-item
decreases-item l = 2 * (100 - l.depth)

abbrev pub decreases-items : goal.decreases-items
decreases-items l = 2 * (100 - l.depth) + 1

abbrev pub invariant-items-loop-found : goal.invariant-items-loop-found
invariant-items-loop-found l = record {
  same : (frames : List Frame) (items : List Tree) → length frames + 1 ≡ l.depth → read_on ((l.at, items) ∷ frames) [] (signs_left l.fn.reader) ≡ read_on ((l.at, items) ∷ frames) (map view l.found) (signs_left l.reader);
  shorter : length l.reader.1 ≤ length l.fn.reader.1;
}

abbrev pub decreases-items-loop-found : goal.decreases-items-loop-found
decreases-items-loop-found l = length l.reader.1
