use Rattle.stp_condition.proofs.TypedTerms.{term_typed, atom_typed}
use Rattle.stp_condition.proofs.laws.read_terms_are_typed.Goals as goal

pub returns : goal.returns
returns c = record { terms = term_typed; atoms = atom_typed }
