use Rattle.std.proofs.Common.{map, drop, ◌+◌, ap, sym, ◌∙◌, arith}
use Rattle.stp_instance.specs.Numbered.{with_atoms}
use Rattle.stp_ground.specs.Views.{chosen_view}
use Rattle.stp_ground.specs.Worlds.{problem_in}
use Rattle.stp_kept.specs.Instances.{chosen_of}
use Rattle.stp_kept.specs.KeptTasks.{atoms_of_instances}
use Rattle.stp_kept.specs.Views.{instance_view, instance_views}
use Rattle.stp_kept.proofs.NumberedInstances.{numbered_more, made_more, too_many}
use Rattle.stp_kept.proofs.numbering.number_instances.Goals as goal

pub loop-instance-preserved : goal.loop-instance-preserved
loop-instance-preserved c =
    let i = c.loop-instance.invariant in
    let p = problem_in c.args.world.now in
    let xs = c.args.instances.now in
    let x = c.instance-item.result in
    let one = c.in_ok-chosen.ensures.chosen ∙ ap (λ q. chosen_of q (instance_view x)) i.same in
    record {
      atoms = numbered_more p (problem_in c.choose.new.world) xs c.loop-instance.instance-index x (chosen_view c.in_ok-chosen.chosen) c.loop-instance.table c.number_chosen.new.table (with_atoms c.args.table.now (atoms_of_instances p (instance_views xs))) (omega arith) c.instance-item.is (c.in_ok-chosen.ensures.same ∙ i.same) one c.in_ok-number_chosen.ensures.atoms i.atoms;
      chosen = made_more chosen_view (chosen_of p) instance_view xs c.loop-instance.instance-index x c.loop-instance.out c.push.new.self c.in_ok-chosen.chosen (map (chosen_of p) (instance_views xs)) (omega arith) c.instance-item.is one c.in_ok-push.ensures.ok i.chosen;
      same = c.in_ok-chosen.ensures.same ∙ i.same;
    }

pub returns-then-are_too_many-clause-numbered : goal.returns-then-are_too_many-clause-numbered
returns-then-are_too_many-clause-numbered c =
    let i = c.loop-instance.invariant in
    let p = problem_in c.args.world.now in
    let xs = c.args.instances.now in
    let x = c.instance-item.result in
    let one = c.in_ok-chosen.ensures.chosen ∙ ap (λ q. chosen_of q (instance_view x)) i.same in
    too_many c.number_chosen.new.table (atoms_of_instances p (instance_views (drop (c.loop-instance.instance-index + 1) xs))) (with_atoms c.args.table.now (atoms_of_instances p (instance_views xs)))
    (sym c.are_too_many.ensures ∙ c.if-are_too_many.true)
    (numbered_more p (problem_in c.choose.new.world) xs c.loop-instance.instance-index x (chosen_view c.in_ok-chosen.chosen) c.loop-instance.table c.number_chosen.new.table (with_atoms c.args.table.now (atoms_of_instances p (instance_views xs))) (omega arith) c.instance-item.is (c.in_ok-chosen.ensures.same ∙ i.same) one c.in_ok-number_chosen.ensures.atoms i.atoms)
