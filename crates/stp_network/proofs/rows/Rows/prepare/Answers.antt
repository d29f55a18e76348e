-- Neither step takes room away.
use Rattle.stp_network.proofs.rows.Rows.prepare.Goals as goal

pub returns-then-is_empty-clause-kept : goal.returns-then-is_empty-clause-kept
returns-then-is_empty-clause-kept c = λ n room. c.put_point.ensures.room n (c.take_room.ensures.kept n room)
