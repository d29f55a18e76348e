use Rattle.stp_condition.proofs.Found.{symbol_named}
use Rattle.stp_condition.proofs.atom.find_symbol.Goals as goal

pub returns-in-Predicate : goal.returns-in-Predicate
returns-in-Predicate c = rw c.in-Predicate.is (symbol_named c.args.declared.now.predicates.now c.args.name.now _ _ c.symbol_at.ensures c.find_predicate.ensures.number)

pub returns-in-Function : goal.returns-in-Function
returns-in-Function c = rw c.in-Function.is (symbol_named c.args.declared.now.functions.now c.args.name.now _ _ c.symbol_at-in-Function.ensures c.find_function.ensures.number)
