-- The arguments so far, and those that are left, are all arguments.
use Rattle.std.proofs.Common.{◌≡◌, ◌++◌, drop}
use Rattle.stp_plan.specs.Printing.{args_text}
use Rattle.stp_plan.proofs.print.print_args.Given as goal

abbrev pub invariant-loop-arg : goal.invariant-loop-arg
invariant-loop-arg l = l.into ++ args_text (drop l.arg-index l.args) ≡ l.fn.into ++ args_text l.args
