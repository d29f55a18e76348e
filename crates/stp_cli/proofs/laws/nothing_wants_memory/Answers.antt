use Rattle.stp_cli.proofs.NoWant.{no_case_is_want, no_list_is_want, no_task_is_want}
use Rattle.stp_cli.proofs.laws.nothing_wants_memory.Goals as goal

pub returns : goal.returns
returns c = record { cases = no_case_is_want; lists = no_list_is_want; tasks = no_task_is_want }
