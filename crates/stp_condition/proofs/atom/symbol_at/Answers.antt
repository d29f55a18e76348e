use Rattle.std.proofs.Common.{Some}
use Rattle.stp_condition.proofs.Found.{symbol_there}
use Rattle.stp_condition.proofs.atom.symbol_at.Goals as goal

pub returns : goal.returns
returns c = rw c.in_ok-number.was (symbol_there c.args.symbols.now _ (Some c.in_ok-symbol.symbol) c.in_ok-symbol.ensures)
