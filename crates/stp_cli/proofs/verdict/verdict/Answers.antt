use Rattle.stp_cli.proofs.Verdicts.{few_events}
use Rattle.stp_cli.proofs.verdict.verdict.Goals as goal

pub strong-requires-clause-few_events : goal.strong-requires-clause-few_events
strong-requires-clause-few_events c = few_events c.args.boxed.now
