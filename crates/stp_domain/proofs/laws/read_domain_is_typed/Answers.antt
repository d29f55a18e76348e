use Rattle.stp_domain.proofs.Typed.{domain_typed}
use Rattle.stp_domain.proofs.laws.read_domain_is_typed.Goals as goal

pub returns : goal.returns
returns c = domain_typed (record {
  conditions = c.read_condition_is_typed.ensures;
  timed = c.read_timed_conditions_are_typed.ensures;
  effects = c.read_effects_are_typed.ensures;
  durations = c.read_durations_are_typed.ensures;
})
