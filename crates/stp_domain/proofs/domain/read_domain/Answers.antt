use Rattle.std.proofs.Common.{ap, sym, ◌∙◌, Err}
use Rattle.stp_text.specs.Tree.{view}
use Rattle.stp_domain_tables.specs.DeclarationViews.{declarations_of}
use Rattle.stp_domain.proofs.Constants.{tables_have_type, tables_have_kinds}
use Rattle.stp_domain.proofs.Phases.{refused_second, refused_third, refused_fourth, accepted}
use Rattle.stp_domain.proofs.domain.read_domain.Goals as goal

pub returns-in_err-end_phase-2-clause-refused : goal.returns-in_err-end_phase-2-clause-refused
returns-in_err-end_phase-2-clause-refused c = λ code at e. refused_second (view c.args.tree.now) _ _ c.in_ok-parts.ensures (sym c.end_phase.ensures ∙ c.in_ok-end_phase.was) _ _ c.in_ok-declarations.ensures _ (sym c.end_phase-2.ensures ∙ c.in_err-end_phase-2.was ∙ ap Err (sym (rw e at c.from_residual-in_err-end_phase-2.ensures).1))

pub returns-in_err-end_phase-3-clause-refused : goal.returns-in_err-end_phase-3-clause-refused
returns-in_err-end_phase-3-clause-refused c = λ code at e. refused_third (view c.args.tree.now) _ _ c.in_ok-parts.ensures (sym c.end_phase.ensures ∙ c.in_ok-end_phase.was) _ _ c.in_ok-declarations.ensures (sym c.end_phase-2.ensures ∙ c.in_ok-end_phase-2.was) _ _ c.in_ok-tables.ensures _ (sym c.end_phase-3.ensures ∙ c.in_err-end_phase-3.was ∙ ap Err (sym (rw e at c.from_residual-in_err-end_phase-3.ensures).1))

pub returns-in_err-end_phase-4-clause-refused : goal.returns-in_err-end_phase-4-clause-refused
returns-in_err-end_phase-4-clause-refused c = λ code at e. refused_fourth (view c.args.tree.now) _ _ c.in_ok-parts.ensures (sym c.end_phase.ensures ∙ c.in_ok-end_phase.was) _ _ c.in_ok-declarations.ensures (sym c.end_phase-2.ensures ∙ c.in_ok-end_phase-2.was) _ _ c.in_ok-tables.ensures (sym c.end_phase-3.ensures ∙ c.in_ok-end_phase-3.was) _ _ c.in_ok-schemas.ensures.value _ (sym c.end_phase-4.ensures ∙ c.in_err-end_phase-4.was ∙ ap Err (sym (rw e at c.from_residual-in_err-end_phase-4.ensures).1))

pub returns-clause-ok : goal.returns-clause-ok
returns-clause-ok c = accepted (view c.args.tree.now) _ _ c.in_ok-parts.ensures (sym c.end_phase.ensures ∙ c.in_ok-end_phase.was) _ _ c.in_ok-declarations.ensures (sym c.end_phase-2.ensures ∙ c.in_ok-end_phase-2.was) _ _ c.in_ok-tables.ensures (sym c.end_phase-3.ensures ∙ c.in_ok-end_phase-3.was) _ _ c.in_ok-schemas.ensures.value (sym c.end_phase-4.ensures ∙ c.in_ok-end_phase-4.was)

-- a type and the types of the constants are those of the tables
pub invariant_of-result-clause-has_type : goal.invariant_of-result-clause-has_type
invariant_of-result-clause-has_type c = tables_have_type (declarations_of c.in_ok-declarations.declarations) c.in_ok-tables.tables _ _ c.in_ok-tables.ensures

pub invariant_of-result-clause-typed_constants : goal.invariant_of-result-clause-typed_constants
invariant_of-result-clause-typed_constants c = tables_have_kinds (declarations_of c.in_ok-declarations.declarations) c.in_ok-tables.tables _ _ c.in_ok-tables.ensures
