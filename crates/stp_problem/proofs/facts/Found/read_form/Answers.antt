use Rattle.stp_condition.specs.declared.atom.SymbolKind.TheVariants.{Function}
use Rattle.stp_frac.specs.Fractions.{value_of}
use Rattle.stp_schema.specs.Known.{known}
use Rattle.stp_problem.specs.Calls.{call_read}
use Rattle.stp_problem.specs.Facts.{value_read}
use Rattle.stp_problem.specs.Views.{call_view, state_of}
use Rattle.stp_problem.proofs.Going.{then_is}
use Rattle.stp_problem.proofs.facts.Found.read_form.Goals as goal

pub returns-in_ok-read_value-in-Value-clause-read : goal.returns-in_ok-read_value-in-Value-clause-read
returns-in_ok-read_value-in-Value-clause-read c =
    rw c.in-Value.is
    (then_is (call_read Function (known c.args.declared.now c.args.objects.now.rows.now) (call_view c.in-Value.call)) (value_read c.args.at (value_of c.in-Value.value) (state_of c.args.self.now.initial c.args.self.now.values)) c.in_ok-place-in-Value.ensures c.in_ok-read_value-in-Value.ensures.read)
