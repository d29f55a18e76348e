use Rattle.std.proofs.Common.{◌∙◌, ap}
use Rattle.stp_tables.proofs.NameKeys.{position_names}
use Rattle.stp_tables.specs.Names.{number_of}
use Rattle.stp_tables.proofs.names.Names.place.Goals as goal

-- the look-up among the keys is one among the names
pub returns-clause-number : goal.returns-clause-number
returns-clause-number c = c.get_index_of.ensures.index ∙ position_names c.args.name.now c.self.inside.set.keys ∙ ap (λ names. number_of names c.args.name.now) c.self.view_is
