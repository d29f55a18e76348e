use Rattle.std.proofs.Common.{◌∙◌, ap}
use Rattle.stp_schema.specs.Formula.{formula}
use Rattle.stp_instance.specs.Bindings.{numbers_of}
use Rattle.stp_instance.specs.Expanded.{expanded}
use Rattle.stp_instance.specs.Numbered.{is_fluent, is_in}
use Rattle.stp_instance.specs.Typing.{objects_in}
use Rattle.stp_ground.specs.Worlds.{problem_in}
use Rattle.stp_kept.specs.Settled.{is_no, settled}
use Rattle.stp_kept.proofs.FoldedValues.{refuted}
use Rattle.stp_kept.proofs.listing.is_refuted.Goals as goal

pub returns-clause-value : goal.returns-clause-value
returns-clause-value c =
    let w = c.args.world.now in
    let binding = numbers_of c.args.binding.now.items in
    let f = formula c.args.cond.now in
    c.is_no.ensures
    ∙ ap is_no c.in_ok-value.ensures.value
    ∙ ap (λ l. is_no (settled (is_fluent l) (is_in w.facts) (expanded (objects_in w.members) binding f))) c.deref.ensures.value
    ∙ refuted (problem_in w) (is_fluent w.fluent.items) (is_in w.facts) w.members binding f w.marked w.known w.typed
