use Rattle.stp_problem.specs.Facts.{nothing}
use Rattle.stp_problem.proofs.Typed.{items_typed}
use Rattle.stp_problem.proofs.TypedEvents.{timed_typed}
use Rattle.stp_problem.proofs.Once.{items_once}
use Rattle.stp_problem.proofs.laws.read_facts_are_typed.Goals as goal

pub returns : goal.returns
returns c = record {
  facts = λ k items none. (items_typed k nothing items (record { facts = tt; values = tt }) none).facts;
  values = λ k items none. (items_typed k nothing items (record { facts = tt; values = tt }) none).values;
  events = λ k items none. timed_typed k items none;
  once = λ k items. items_once k nothing items tt;
}
