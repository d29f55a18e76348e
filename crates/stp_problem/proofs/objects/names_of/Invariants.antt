use Rattle.std.proofs.Common.{◌≡◌, [], drop, map}
use Rattle.stp_schema.specs.Rows.{thing_of}
use Rattle.stp_problem.specs.Objects.{names_with}
use Rattle.stp_problem.proofs.objects.names_of.Given as goal

abbrev pub invariant-loop-row : goal.invariant-loop-row
invariant-loop-row l = names_with l.names (map thing_of (drop l.row-index l.rows)) ≡ names_with [] (map thing_of l.rows)
