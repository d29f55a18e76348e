use Rattle.std.proofs.Common.{◌≤◌, ◌-◌, [], length, map}
use Rattle.stp_tree.specs.Queues.{IsQueue}
use Rattle.stp_tree.specs.Rests.{AreMet}
use Rattle.stp_tree.proofs.breadth.breadth_first.Given as goal

abbrev pub invariant-loop-at : goal.invariant-loop-at
invariant-loop-at g l =
    (l.at ≤ length l.nodes.items)
    × IsQueue (g.S.Space.nodes l.space) (g.S.Space.valid l.space) (g.S.Space.skips l.space) (g.S.Space.moves l.space) (g.S.Space.limit l.space) l.most l.cut l.at [] (map g.S.Space.path l.nodes.items)
    × AreMet (g.S.Space.state l.space) (map g.S.Space.path l.nodes.items) (g.S.Space.met l.rests)
    × g.S.Space.fits l.space l.work

abbrev pub decreases-loop-at : goal.decreases-loop-at
decreases-loop-at g l = l.most - l.at
