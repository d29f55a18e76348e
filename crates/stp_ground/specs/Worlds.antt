-- The problem that tables are of.
use Rattle.stp_schema.specs.Views.{PlainProblem, problem_of}
use Rattle.stp_ground.specs.declared.world.World.{World}

abbrev pub problem_in : World → PlainProblem
problem_in world = problem_of world.problem.now
