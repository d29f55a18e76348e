use Rattle.stp_tree.proofs.best.best_first.Given as goal

abbrev pub invariant-loop : goal.invariant-loop
invariant-loop g l = g.S.Space.fits l.space l.work
