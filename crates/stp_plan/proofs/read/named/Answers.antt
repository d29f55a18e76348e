use Rattle.std.proofs.Common.{◌∙◌, sym, true, false}
use Rattle.stp_plan.specs.Names.{named_of, only_atom}
use Rattle.stp_plan.proofs.Following.{goes_on, only_atom_before}
use Rattle.stp_plan.proofs.read.named.Goals as goal

pub returns-then-not-is_blank : goal.returns-then-not-is_blank
unfolding named_of
returns-then-not-is_blank c =
    sym (goes_on only_atom _ _ (rw c.in-Some.is at c.in_ok-named.ensures)
    ∙ only_atom_before c.in-Some.named c.in-Some.rest.now false (sym c.if-not-is_blank.true ∙ c.is_blank.ensures))

pub returns : goal.returns
unfolding named_of
returns c =
    sym (goes_on only_atom _ _ (rw c.in-Some.is at c.in_ok-named.ensures)
    ∙ only_atom_before c.in-Some.named c.in-Some.rest.now true (sym c.if-not-is_blank.false ∙ c.is_blank.ensures))
