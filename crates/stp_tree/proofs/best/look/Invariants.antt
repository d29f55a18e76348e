use Rattle.std.proofs.Common.{◌≡◌}
use Rattle.stp_tree.proofs.best.look.Given as goal

abbrev pub invariant-loop-next : goal.invariant-loop-next
invariant-loop-next g l = (l.number ≡ l.next-index) × g.S.Space.fits l.space l.work
