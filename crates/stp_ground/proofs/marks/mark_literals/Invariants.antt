-- The marks so far, once the literals that are left are marked, are those in the end.
use Rattle.std.proofs.Common.{◌≡◌, map, drop}
use Rattle.stp_schema.specs.Timed.{literal_of}
use Rattle.stp_instance.specs.Numbered.{is_fluent}
use Rattle.stp_ground.specs.Marks.{predicate_of, with_marks}
use Rattle.stp_ground.proofs.marks.mark_literals.Given as goal

abbrev pub invariant-loop-literal : goal.invariant-loop-literal
invariant-loop-literal l = with_marks predicate_of (map literal_of (drop l.literal-index l.literals)) (is_fluent l.marks.items) ≡ with_marks predicate_of (map literal_of l.literals) (is_fluent l.fn.marks.items)
