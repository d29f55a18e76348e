use Rattle.std.proofs.Common.{length, All, ap, sym, subst}
use Rattle.stp_cond.specs.Events.{IsEventInRange}
use Rattle.stp_relax.proofs.Closing.{begun_from}
use Rattle.stp_relax.proofs.Parts.{timed_in_range}
use Rattle.stp_relax.proofs.reaching.begun.Goals as goal

pub admit_all-requires-clause-in_range : goal.admit_all-requires-clause-in_range
admit_all-requires-clause-in_range c =
    let task = c.args.task.now in
    subst (λ n. All (λ t. IsEventInRange n t.event) c.as_slice.result.now) (ap length (sym c.in_ok-copy.ensures))
    (subst (All (λ t. IsEventInRange (length task.initial) t.event)) (sym c.as_slice.ensures) (timed_in_range task))

pub returns : goal.returns
returns c = begun_from c.args.task.now c.as_slice.result.now _ c.admit_all.new.progress c.as_slice.ensures c.in_ok-copy.ensures c.in_ok-copy-2.ensures c.in_ok-admit_all.ensures
