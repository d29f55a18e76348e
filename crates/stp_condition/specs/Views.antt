-- Symbols that were found, and timed conditions, without pointers.
use Rattle.std.specs.Prelude.{ℕ, map}
use Rattle.stp_schema.specs.declared.rows.Symbol.{Symbol}
use Rattle.stp_schema.specs.Rows.{Shape, shape_of}
use Rattle.stp_schema.specs.Formula.{formula}
use Rattle.stp_condition.specs.declared.gather.Gathered.{Gathered}
use Rattle.stp_condition.specs.declared.timed.TimedConditions.{TimedConditions}
use Rattle.stp_condition.specs.TimedConditions.{Parts, TimedFormulas}

abbrev pub found_shape : ℕ × Symbol → ℕ × Shape
found_shape found = (found.0, shape_of found.1)

abbrev pub gathered_of : Gathered → Parts
gathered_of g = record { start = map formula g.start; over_all = map formula g.over_all; end = map formula g.end }

abbrev pub timed_conditions_of : TimedConditions → TimedFormulas
timed_conditions_of c = record { start = formula c.start; over_all = formula c.over_all; end = formula c.end }
