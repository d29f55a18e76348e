-- The numbers that the process ends with.
use Rattle.std.specs.Prelude.{ℕ}
use Rattle.stp_cli.specs.declared.status.Status.{Status}
use Rattle.stp_cli.specs.declared.status.Status.TheVariants.{Done, No, Refused, BudgetSpent, OutsideFault, Memory, Usage}

abbrev pub exit_number : Status → ℕ
exit_number Done = 0
exit_number No = 1
exit_number Refused = 2
exit_number BudgetSpent = 3
exit_number OutsideFault = 4
exit_number Memory = 5
exit_number Usage = 6
