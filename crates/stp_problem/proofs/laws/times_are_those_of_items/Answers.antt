use Rattle.stp_problem.proofs.AllTimes as times
use Rattle.stp_problem.proofs.laws.times_are_those_of_items.Goals as goal

pub returns : goal.returns
returns c = times.times_are_those_of_items
