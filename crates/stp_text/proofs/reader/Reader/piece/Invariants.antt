use Rattle.std.proofs.Common.{◌≡◌, ◌≤◌, length}
use Rattle.stp_text.specs.Pieces.{signs_left}
use Rattle.stp_text.proofs.reader.Reader.piece.Given as goal

abbrev pub invariant-loop-byte : goal.invariant-loop-byte
invariant-loop-byte l = (signs_left l.self ≡ signs_left l.fn.self) × (length l.self.1 ≤ length l.fn.self.1)

abbrev pub decreases-loop-byte : goal.decreases-loop-byte
decreases-loop-byte l = length l.self.1
