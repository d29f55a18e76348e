use Rattle.std.proofs.Common.{map, ◌++◌}
use Rattle.stp_text.specs.Tree.{view}
use Rattle.stp_refusal.specs.declared.code.Code.TheVariants.{D13}
use Rattle.stp_refusal.proofs.Reading.{finds_after}
use Rattle.stp_domain_parts.specs.Entries.{plains}
use Rattle.stp_domain_parts.specs.Judged.{kinds_unknown}
use Rattle.stp_domain_tables.specs.Views.{signature_of}
use Rattle.stp_domain_tables.specs.ActionViews.{action_signature_of}
use Rattle.stp_domain_tables.specs.Tables.{symbols_unknown, numbers_wrong, actions_unknown}
use Rattle.stp_domain_tables.proofs.declaring.judge_types.Goals as goal

pub returns : goal.returns
returns c =
    let d = c.args.declarations.now in
    let types = c.args.types.now in
    let constants = kinds_unknown D13 types (plains d.constants) in
    let predicates = symbols_unknown types (map signature_of d.predicates.rows) in
    let functions = symbols_unknown types (map signature_of d.functions.symbols.rows) in
    let numbers = numbers_wrong (map view d.functions.kinds) in
    let actions = actions_unknown types (map action_signature_of d.actions.rows) in
    finds_after _ _ _ constants (predicates ++ (functions ++ (numbers ++ actions))) (rw c.as_slice.ensures at c.judge_kinds.ensures)
    (finds_after _ _ _ predicates (functions ++ (numbers ++ actions)) (rw c.as_slice-2.ensures at c.judge_symbols.ensures)
    (finds_after _ _ _ functions (numbers ++ actions) (rw c.as_slice-3.ensures at c.judge_symbols-2.ensures)
    (finds_after _ _ _ numbers actions (rw c.as_slice-4.ensures at c.judge_numbers.ensures) (rw c.as_slice-5.ensures at c.judge_actions.ensures))))
