use Rattle.std.proofs.Common.{◌≡◌, drop}
use Rattle.stp_text.specs.Tree.{views}
use Rattle.stp_refusal.specs.First.{first_from}
use Rattle.stp_schema.specs.Known.{known}
use Rattle.stp_problem.specs.Calls.{args_wrong}
use Rattle.stp_problem.proofs.call.judge_args.Given as goal

abbrev pub invariant-loop-kind : goal.invariant-loop-kind
invariant-loop-kind l = first_from l.first (args_wrong (known l.declared l.objects.rows.now) l.at (drop l.kind-index l.kinds) (views l.rest)) ≡ first_from l.fn.first (args_wrong (known l.declared l.objects.rows.now) l.at l.kinds (views l.items))
