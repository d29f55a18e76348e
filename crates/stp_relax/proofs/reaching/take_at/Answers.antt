use Rattle.std.proofs.Common.{get_or, sym, subst}
use Rattle.stp_relax.specs.Seen.{IsSeen}
use Rattle.stp_relax.specs.Taken.{pair_so_far}
use Rattle.stp_relax.proofs.LookedAt.{seen_at}
use Rattle.stp_relax.proofs.reaching.take_at.Goals as goal

pub take-requires-clause-seen : goal.take-requires-clause-seen
take-requires-clause-seen c =
    let p = pair_so_far c.args.progress.now in
    let action = c.in-Some.action.now in
    let seen = c.index_mut.result.now in
    let h = c.requires.seen.each c.args.place action seen c.in-Some.ensures.lookup.3.0 in
    subst (λ s. IsSeen p action s) (sym c.index_mut.ensures.value) (subst (λ a. IsSeen p a (get_or c.args.seen.now.items c.args.place seen)) (sym (c.in-Some.ensures.lookup.3.1 action)) h)

pub returns-clause-seen : goal.returns-clause-seen
returns-clause-seen c =
    let action = c.in-Some.action.now in
    seen_at (pair_so_far c.args.progress.now) (pair_so_far c.take.new.progress) c.args.actions.now c.args.seen.now.items c.args.place action c.take.new.seen c.in_ok-take.ensures.taken.grown.within c.requires.seen c.in-Some.ensures.lookup.3.0
    (c.in-Some.ensures.lookup.3.1 action) c.in_ok-take.ensures.seen
