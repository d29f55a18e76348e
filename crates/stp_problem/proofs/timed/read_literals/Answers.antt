use Rattle.std.proofs.Common.{sym, drop, map, [], arith, ◌+◌}
use Rattle.stp_text.specs.Tree.{view, views}
use Rattle.stp_text.proofs.Items.{views_more}
use Rattle.stp_schema.specs.Known.{known}
use Rattle.stp_schema.specs.Timed.{literal_of}
use Rattle.stp_problem.specs.TimedItems.{literal_read, literals_read}
use Rattle.stp_problem.proofs.Going.{goes_next}
use Rattle.stp_problem.proofs.timed.read_literals.Goals as goal

pub loop-item-preserved : goal.loop-item-preserved
loop-item-preserved c =
    let k = known c.args.declared.now c.args.objects.now.rows.now in
    goes_next (literal_read k (map literal_of c.loop-item.literals) (view c.item-item.result)) (λ literals. literals_read k literals (views (drop (c.loop-item.item-index + 1) c.args.items.now))) (literals_read k [] (views c.args.items.now))
    (rw (views_more c.args.items.now c.loop-item.item-index c.item-item.result (omega arith) (sym c.item-item.is)) at c.loop-item.invariant)
    c.in_ok-read_literal.ensures
