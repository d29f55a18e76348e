use Rattle.std.proofs.Common.{◌∙◌, rules, tests}
use Rattle.std.proofs.lemmas.Iterator.{YieldsList-from_slice}
use Rattle.std.proofs.lemmas.Iterator.Search.{position_from_yields_List}
use Rattle.stp_tables.proofs.AtomKeys.{position_atoms, is_key}
use Rattle.stp_tables.proofs.atoms.place_among.Goals as goal

-- the first key that passes is that of the atom
pub returns : goal.returns
returns c =
    position_from_yields_List (λ key. is_key c.args.predicate c.args.args.now key) _ _ c.position.result c.position.ensures.ran (YieldsList-from_slice c.args.keys.now cc) (λ x b q k. search (rules, tests))
    ∙ position_atoms c.args.predicate c.args.args.now c.args.keys.now
