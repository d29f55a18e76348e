use Rattle.stp_body.proofs.TypedEffects.{effect_typed, timed_effect_typed}
use Rattle.stp_body.proofs.laws.read_effects_are_typed.Goals as goal

pub returns : goal.returns
returns c = record { simple = effect_typed; durative = timed_effect_typed }
