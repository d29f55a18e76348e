use Rattle.std.proofs.Common.{arith}
use Rattle.std.proofs.lemmas.List.{drop_more}
use Rattle.stp_text.proofs.Items.{views_none}
use Rattle.stp_problem.proofs.call.judge_args.Goals as goal

pub returns-in_default : goal.returns-in_default
returns-in_default c = rw (drop_more c.args.kinds.now c.loop-kind.kind-index 0 (omega arith), views_none c.loop-kind.rest.now c.in_default.len_below) at c.loop-kind.invariant
