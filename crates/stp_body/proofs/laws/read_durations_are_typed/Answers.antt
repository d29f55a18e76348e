use Rattle.stp_body.proofs.TypedDurations.{expression_typed, duration_typed}
use Rattle.stp_body.proofs.laws.read_durations_are_typed.Goals as goal

pub returns : goal.returns
returns c = record { expressions = λ k scope tree none. expression_typed k scope tree none; durations = λ k scope tree none. duration_typed k scope tree none }
