use Rattle.std.proofs.Common.{◌<◌, length, take, sym, subst, All, arith}
use Rattle.std.proofs.lemmas.List.{take_all}
use Rattle.std.proofs.lemmas.List.Elements.{All-more, All-weaker}
use Rattle.stp_cond.specs.Events.{IsEventInRange}
use Rattle.stp_happen.proofs.OwnerSteps.{fact_at}
use Rattle.stp_task.specs.Certificates.{IsAllowed}
use Rattle.stp_task.specs.Tasks.{timed_event_of}
use Rattle.stp_relax.specs.Taken.{pair_so_far}
use Rattle.stp_relax.proofs.Growing.{allowed_grows}
use Rattle.stp_relax.proofs.Takes.{grown_more, size_kept}
use Rattle.stp_relax.proofs.reaching.admit_all.Goals as goal

pub admit-requires-clause-size : goal.admit-requires-clause-size
admit-requires-clause-size c = size_kept c.args.progress.now c.loop-timed_event.progress c.requires.size c.loop-timed_event.invariant.grown

pub admit-requires-clause-in_range : goal.admit-requires-clause-in_range
admit-requires-clause-in_range c =
    let n = length c.args.progress.now.may in
    let s = c.loop-timed_event.invariant.grown.size n c.requires.size in
    subst (λ m. IsEventInRange m c.timed_event-item.result.event) (sym s.may) (fact_at (λ t. IsEventInRange n t.event) c.args.timed.now c.loop-timed_event.timed_event-index c.timed_event-item.result (omega arith) c.timed_event-item.is c.requires.in_range)

pub loop-timed_event-preserved : goal.loop-timed_event-preserved
loop-timed_event-preserved c =
    let timed = c.args.timed.now in
    let i = c.loop-timed_event.timed_event-index in
    let t = c.timed_event-item.result in
    let r = c.loop-timed_event.progress in
    let s = c.admit.new.progress in
    let so_far = c.loop-timed_event.invariant in
    let new = c.in_ok-admit.ensures in
    let l : i < length timed = omega arith in
    record {
      grown = grown_more c.args.progress.now r s so_far.grown new.grown;
      allowed = All-more (λ t. IsAllowed (pair_so_far s) (timed_event_of t).event) timed i t l
          (All-weaker (λ t. IsAllowed (pair_so_far r) (timed_event_of t).event) (λ t. IsAllowed (pair_so_far s) (timed_event_of t).event) (λ t h. allowed_grows (pair_so_far r) (pair_so_far s) new.grown.within (timed_event_of t).event h) (take i timed) so_far.allowed)
          (subst (λ t. IsAllowed (pair_so_far s) (timed_event_of t).event) c.timed_event-item.is new.allowed);
      least = λ other w all. new.least other (so_far.least other w all) (fact_at (λ t. IsAllowed other (timed_event_of t).event) timed i t l c.timed_event-item.is all);
    }

pub returns : goal.returns
returns c =
    let timed = c.args.timed.now in
    let so_far = c.loop-timed_event.invariant in
    record {
      grown = so_far.grown;
      allowed = subst (All (λ t. IsAllowed (pair_so_far c.loop-timed_event.progress) (timed_event_of t).event)) (take_all c.loop-timed_event.timed_event-index timed (omega arith)) so_far.allowed;
      least = so_far.least;
    }
