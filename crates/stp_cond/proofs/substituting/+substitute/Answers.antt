use Rattle.std.proofs.Common.{ap, ◌∙◌}
use Rattle.stp_cond.specs.Formulas.{view}
use Rattle.stp_cond.specs.Views.{atoms_of}
use Rattle.stp_cond.specs.Substituted.{image_of}
use Rattle.stp_cond.proofs.Images.{substituted_negation, substituted_conjunction, substituted_disjunction}
use Rattle.stp_cond.proofs.substituting.+substitute.Goals as goal

pub substitute-returns-in_ok-try_alloc-in-Not : goal.substitute-returns-in_ok-try_alloc-in-Not
substitute-returns-in_ok-try_alloc-in-Not t c =
    substituted_negation (image_of (atoms_of c.args.from.now) (atoms_of c.args.to.now)) c.args.cond.now c.in-Not.part _ c.in-Not.is
    (ap view c.in_ok-try_alloc-in-Not.ensures ∙ c.in_ok-replaced-in-Not.ensures)

pub substitute-returns-in_ok-substitute_all-in-And : goal.substitute-returns-in_ok-substitute_all-in-And
substitute-returns-in_ok-substitute_all-in-And t c =
    substituted_conjunction (image_of (atoms_of c.args.from.now) (atoms_of c.args.to.now)) c.args.cond.now c.in-And.parts c.in_ok-substitute_all-in-And.field-0 c.in-And.is c.in_ok-substitute_all-in-And.ensures

pub substitute-returns-in_ok-substitute_all-in-Or : goal.substitute-returns-in_ok-substitute_all-in-Or
substitute-returns-in_ok-substitute_all-in-Or t c =
    substituted_disjunction (image_of (atoms_of c.args.from.now) (atoms_of c.args.to.now)) c.args.cond.now c.in-Or.parts c.in_ok-substitute_all-in-Or.field-0 c.in-Or.is c.in_ok-substitute_all-in-Or.ensures
