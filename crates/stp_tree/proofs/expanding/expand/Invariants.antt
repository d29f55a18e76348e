use Rattle.std.proofs.Common.{◌<◌, length, map, take}
use Rattle.stp_tree.specs.Queues.{IsQueue}
use Rattle.stp_tree.specs.Rests.{AreMet}
use Rattle.stp_tree.proofs.expanding.expand.Given as goal

abbrev pub invariant-loop-next : goal.invariant-loop-next
invariant-loop-next g l =
    (l.at < length l.nodes.items)
    × IsQueue (g.S.Space.nodes l.space) (g.S.Space.valid l.space) (g.S.Space.skips l.space) (g.S.Space.moves l.space) (g.S.Space.limit l.space) l.most l.cut l.at (take l.next-index (g.S.Space.moves l.space)) (map g.S.Space.path l.nodes.items)
    × AreMet (g.S.Space.state l.space) (map g.S.Space.path l.nodes.items) (g.S.Space.met l.rests)
    × g.S.Space.fits l.space l.work
