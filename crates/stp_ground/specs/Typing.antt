-- The types and the objects of a problem.
use Rattle.stp_schema.specs.Views.{PlainProblem}
use Rattle.stp_instance.specs.Typing.{Typing}

abbrev pub typing_of : PlainProblem → Typing
typing_of p = record { parents = p.domain.parents; objects = p.objects }
