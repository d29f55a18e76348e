use Rattle.std.proofs.Common.{map, string_bytes}
use Rattle.stp_cli.proofs.Headlines.{steady_outcome}
use Rattle.stp_cli.proofs.steady.run_steadily.Goals as goal

-- no name is unsteady and no write fails
pub returns-clause-never : goal.returns-clause-never
returns-clause-never c = steady_outcome c.args.store.now (map string_bytes c.args.words.now) c.run.result c.run.ensures.outcome
