use Rattle.stp_domain_tables.specs.Types.{types_in}
use Rattle.stp_domain_tables.proofs.Numbering.{types_some, parents_kept}
use Rattle.stp_domain_tables.proofs.laws.parents_are_kept.Goals as goal

pub returns : goal.returns
returns c = λ d none. parents_kept (types_in d.type_items) d.types (types_some d.type_items) none
