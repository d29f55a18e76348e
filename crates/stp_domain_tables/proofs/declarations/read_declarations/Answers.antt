use Rattle.std.proofs.Common.{[], map}
use Rattle.stp_text.specs.Tree.{views}
use Rattle.stp_domain_parts.specs.Entries.{plains}
use Rattle.stp_domain_parts.specs.Views.{action_of}
use Rattle.stp_domain_tables.specs.Symbols.{no_symbols, symbols_read}
use Rattle.stp_domain_tables.specs.Functions.{functions_read}
use Rattle.stp_domain_tables.specs.Actions.{no_actions, actions_read}
use Rattle.stp_domain_tables.specs.Declarations.{names_read, types_read, declarations_with}
use Rattle.stp_domain_tables.specs.Views.{table_of}
use Rattle.stp_domain_tables.specs.FunctionViews.{functions_of}
use Rattle.stp_domain_tables.specs.ActionViews.{action_table_of}
use Rattle.stp_domain_tables.proofs.Going.{five_are}
use Rattle.stp_domain_tables.proofs.declarations.read_declarations.Goals as goal

pub returns : goal.returns
returns c =
    five_are (declarations_with (views c.args.parts.types.now))
    (types_read (views c.args.parts.types.now)) (names_read [] (views c.args.parts.constants.now)) (symbols_read no_symbols (views c.args.parts.predicates.now)) (functions_read (views c.args.parts.functions.now)) (actions_read no_actions (map action_of c.args.parts.actions.now))
    _ _ _ _ _ _ (plains c.in_ok-types.types) (plains c.in_ok-constants.constants) (table_of c.in_ok-predicates.predicates) (functions_of c.in_ok-functions.functions) (action_table_of c.in_ok-actions.actions)
    c.in_ok-types.ensures (rw c.new.ensures at c.in_ok-constants.ensures) c.in_ok-predicates.ensures c.in_ok-functions.ensures c.in_ok-actions.ensures
