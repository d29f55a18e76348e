-- Parts and bounds of durations without pointers.
use Rattle.stp_text.specs.Tree.{view}
use Rattle.stp_schema.specs.Expression.{expression}
use Rattle.stp_body.specs.declared.duration.Part.{Part}
use Rattle.stp_body.specs.declared.duration.Parts.{Parts}
use Rattle.stp_body.specs.declared.duration.Parts.TheVariants as parts
use Rattle.stp_body.specs.declared.duration.Bounds.{Bounds}
use Rattle.stp_body.specs.Durations.{PlainPart, PlainParts, NoParts, One, Two, PlainBounds, between}

abbrev pub part_view : Part → PlainPart
part_view p = record { relation = p.relation; bound = view p.bound }

abbrev pub parts_view : Parts → PlainParts
parts_view parts.Neither = NoParts
parts_view (parts.One part) = One (part_view part)
parts_view (parts.Two one other) = Two (part_view one) (part_view other)

abbrev pub bounds_of : Bounds → PlainBounds
bounds_of b = between (expression b.low) (expression b.high)
