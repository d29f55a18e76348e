-- The table so far and the values that are left give what all values give, and the table has a value for each of its places.
use Rattle.std.proofs.Common.{map, drop}
use Rattle.stp_frac.specs.Fractions.{value_of}
use Rattle.stp_schema.specs.Views.{given_of}
use Rattle.stp_instance.proofs.ValueTables.{IsFront}
use Rattle.stp_instance.proofs.values.Values.new.Given as goal

abbrev pub invariant-loop-one : goal.invariant-loop-one
invariant-loop-one l = IsFront l.places (map value_of l.amounts) (map given_of (drop l.one-index l.given)) (map given_of l.given)
