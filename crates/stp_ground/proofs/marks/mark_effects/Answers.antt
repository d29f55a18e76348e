use Rattle.std.proofs.Common.{◌∙◌, ap}
use Rattle.stp_schema.specs.Formula.{atoms_of}
use Rattle.stp_schema.specs.Schemas.{schema_of}
use Rattle.stp_instance.specs.Numbered.{is_fluent}
use Rattle.stp_ground.specs.Marks.{symbol_of, with_marks}
use Rattle.stp_ground.proofs.Marking.{of_effects}
use Rattle.stp_ground.proofs.marks.mark_effects.Goals as goal

pub returns : goal.returns
returns c =
    let s = c.args.schema.now in
    c.in_ok-mark_all-4.ensures
    ∙ ap (with_marks symbol_of (atoms_of s.end_dels.now)) (c.in_ok-mark_all-3.ensures ∙ ap (with_marks symbol_of (atoms_of s.end_adds.now)) (c.in_ok-mark_all-2.ensures ∙ ap (with_marks symbol_of (atoms_of s.start_dels.now)) c.in_ok-mark_all.ensures))
    ∙ of_effects (schema_of s) (is_fluent c.args.marks.now.items)
