use Rattle.stp_text.specs.Tree.{views}
use Rattle.stp_text.proofs.Equations.{view_items}
use Rattle.stp_schema.specs.Rows.{type_names_of}
use Rattle.stp_condition.specs.Scope.{kinds_of}
use Rattle.stp_condition.specs.Variables.{names_read, typed_read}
use Rattle.stp_condition.proofs.Then.{then_mapped}
use Rattle.stp_condition.proofs.variables.read_variables.Goals as goal

pub returns-in_ok-kinds-in-Items-clause-kinds : goal.returns-in_ok-kinds-in-Items-clause-kinds
returns-in_ok-kinds-in-Items-clause-kinds c =
    rw (c.in-Items.is, view_items)
    (then_mapped (typed_read (type_names_of c.args.declared.now.types.now)) kinds_of c.args.first.now c.read_names.new.first c.add_variables.new.first _ _ (names_read (views c.in-Items.items.now)) c.in_ok-entries-in-Items.ensures
    (rw c.as_slice.ensures at c.in_ok-kinds-in-Items.ensures.kinds))
