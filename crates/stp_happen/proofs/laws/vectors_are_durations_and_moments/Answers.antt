use Rattle.stp_happen.proofs.VectorParts.{vectors_are_durations_and_moments}
use Rattle.stp_happen.proofs.laws.vectors_are_durations_and_moments.Goals as goal

pub returns : goal.returns
returns c = vectors_are_durations_and_moments
