use Rattle.std.proofs.Common.{length, All, sym, ◌∙◌, subst, arith}
use Rattle.stp_happen.proofs.OwnerSteps.{fact_at}
use Rattle.stp_task.specs.SoundTask.{IsActionInRange}
use Rattle.stp_relax.proofs.Parts.{actions_in_range}
use Rattle.stp_relax.proofs.Readers.{watched_more}
use Rattle.stp_relax.proofs.watching.readers.Goals as goal

pub watch-requires : goal.watch-requires
watch-requires c =
    let task = c.args.task.now in
    let actions = c.as_slice-action-items.result.now in
    subst (λ n. IsActionInRange n c.action-item.result) (sym c.loop-number.invariant.size)
    (fact_at (IsActionInRange (length task.initial)) actions c.loop-number.number c.action-item.result (omega arith) c.action-item.is
    (subst (All (IsActionInRange (length task.initial))) (sym c.as_slice-action-items.ensures) (actions_in_range task)))

pub loop-number-preserved : goal.loop-number-preserved
loop-number-preserved c = record {
  size = c.in_ok-watch.ensures.size ∙ c.loop-number.invariant.size;
  watched = watched_more c.as_slice-action-items.result.now c.loop-number.number c.action-item.result c.loop-number.readers.items c.watch.new.readers.items c.action-item.is (omega arith) c.in_ok-watch.ensures c.loop-number.invariant.watched;
}
