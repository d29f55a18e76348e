use Rattle.stp_problem.proofs.Reading.{problem_typed}
use Rattle.stp_problem.proofs.laws.read_problems_are_typed.Goals as goal

pub returns : goal.returns
returns c = λ u d p e i. problem_typed u d p e i
