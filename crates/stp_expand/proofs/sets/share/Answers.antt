use Rattle.std.proofs.Common.{rules, sym, ◌∙◌}
use Rattle.std.proofs.lemmas.Iterator.{YieldsList-from_slice}
use Rattle.std.proofs.lemmas.Iterator.Search.{any_from_yields_List}
use Rattle.stp_cond.specs.Atoms.{has}
use Rattle.stp_cond.specs.Views.{atoms_of}
use Rattle.stp_cond.proofs.Among.{any_of_atoms}
use Rattle.stp_expand.proofs.sets.share.Goals as goal

pub returns : goal.returns
returns c =
    any_from_yields_List (λ x. has (atoms_of c.args.other.now) x.0) _ _ _ c.any.ensures.ran (YieldsList-from_slice c.args.one.now cc) (λ x b q k. search rules)
    ∙ sym (any_of_atoms (has (atoms_of c.args.other.now)) c.args.one.now)
