use Rattle.std.proofs.Common.{◌==◌, rules, sym, ◌∙◌}
use Rattle.std.proofs.lemmas.Iterator.{YieldsList-from_slice}
use Rattle.std.proofs.lemmas.Iterator.Search.{any_from_yields_List}
use Rattle.stp_cond.proofs.Among.{any_of_atoms}
use Rattle.stp_expand.proofs.sets.is_in.Goals as goal

pub returns : goal.returns
returns c =
    any_from_yields_List (λ x. x.0 == c.args.atom.0) _ _ _ c.any.ensures.ran (YieldsList-from_slice c.args.atoms.now cc) (λ x b q k. search rules)
    ∙ sym (any_of_atoms (λ b. b == c.args.atom.0) c.args.atoms.now)
