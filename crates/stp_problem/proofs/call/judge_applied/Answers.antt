use Rattle.std.proofs.Common.{arith}
use Rattle.stp_schema.specs.Rows.{shape_of}
use Rattle.stp_schema.specs.Known.{known}
use Rattle.stp_problem.proofs.Called.{wrong_count, right_count}
use Rattle.stp_problem.proofs.call.judge_applied.Goals as goal

pub returns-then-call-symbol : goal.returns-then-call-symbol
returns-then-call-symbol c = wrong_count (known c.args.declared.now c.args.objects.now.rows.now) c.args.call.now.at c.args.call.now.name.now c.args.call.now.args.now (shape_of c.args.symbol.now) c.args.first.now c.note.new.first c.if-call-symbol.true c.note.ensures

pub returns : goal.returns
returns c = right_count (known c.args.declared.now c.args.objects.now.rows.now) c.args.call.now.at c.args.call.now.name.now c.args.call.now.args.now (shape_of c.args.symbol.now) c.args.first.now c.judge_args.new.first (omega arith) c.judge_args.ensures
