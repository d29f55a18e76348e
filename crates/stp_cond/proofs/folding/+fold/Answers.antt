use Rattle.std.proofs.Common.{◌≡◌, IfOk, subst}
use Rattle.stp_cond.specs.Formulas.{view}
use Rattle.stp_cond.specs.Folded.{known_of}
use Rattle.stp_cond.proofs.FoldedParts.{folded_conjunction, folded_disjunction}
use Rattle.stp_cond.proofs.folding.+fold.Goals as goal

pub fold-returns-in_ok-fold_all-in-And : goal.fold-returns-in_ok-fold_all-in-And
fold-returns-in_ok-fold_all-in-And t c =
    subst (λ f. IfOk c.fold_and.result (λ r. view r ≡ f))
    (folded_conjunction (known_of c.args.known.now) c.args.cond.now c.in-And.parts c.in_ok-fold_all-in-And.field-0.items c.in-And.is c.in_ok-fold_all-in-And.ensures)
    c.fold_and.ensures

pub fold-returns-in_ok-fold_all-in-Or : goal.fold-returns-in_ok-fold_all-in-Or
fold-returns-in_ok-fold_all-in-Or t c =
    subst (λ f. IfOk c.fold_or.result (λ r. view r ≡ f))
    (folded_disjunction (known_of c.args.known.now) c.args.cond.now c.in-Or.parts c.in_ok-fold_all-in-Or.field-0.items c.in-Or.is c.in_ok-fold_all-in-Or.ensures)
    c.fold_or.ensures
