-- What a function answers.
use Rattle.std.specs.Prelude.{◌≡◌, ◌≢◌, MatchResult, Result, Ok, Err}
use Rattle.stp_task.specs.declared.task.Task.{Task}
use Rattle.stp_task.specs.Tasks.{PlainTask, plain_task}
use Rattle.stp_kept.specs.declared.fault.GroundFault.{GroundFault}
use Rattle.stp_kept.specs.declared.fault.GroundFault.TheVariants.{Memory}

-- This is what is right, or memory is wanting.
abbrev pub Answers : Result Task GroundFault → Result PlainTask GroundFault → Type 0
Answers result right = MatchResult result (λ t. right ≡ Ok (plain_task t)) (λ fault. fault ≢ Memory → right ≡ Err fault)
