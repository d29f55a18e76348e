use Rattle.std.proofs.Common.{drop}
use Rattle.stp_text.specs.Tree.{views}
use Rattle.stp_refusal.specs.Read.{fine}
use Rattle.stp_schema.specs.Known.{known}
use Rattle.stp_schema.specs.Expression.{expression}
use Rattle.stp_body.specs.Expressions.{each_read, from_left, chained}
use Rattle.stp_body.proofs.Equations.{Joining}
use Rattle.stp_body.proofs.expression.+expressions.Given as goal

abbrev pub invariant-read_chain-loop-item : goal.invariant-read_chain-loop-item
invariant-read_chain-loop-item l = Joining l.fn.first l.first (from_left l.operator (fine (expression l.value)) (each_read (known l.declared l.objects.rows.now) l.scope (views (drop l.item-index l.rest)))) (chained l.operator l.at (each_read (known l.declared l.objects.rows.now) l.scope (views l.items)))
