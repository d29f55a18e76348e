use Rattle.std.proofs.Common.{sym}
use Rattle.stp_cond.specs.Formulas.{view}
use Rattle.stp_relax.specs.Taken.{pair_so_far}
use Rattle.stp_relax.proofs.Growing.{possible_grows}
use Rattle.stp_relax.proofs.LookedAt.{seen_ended}
use Rattle.stp_relax.proofs.taking.take_end.Goals as goal

-- the event is possible wherever as much is possible as here
pub returns-in_ok-admit-clause-taken : goal.returns-in_ok-admit-clause-taken
returns-in_ok-admit-clause-taken c =
    let p = pair_so_far c.args.progress.now in
    let h = c.in_ok-admit.ensures in
    record {
      grown = h.grown;
      allowed = λ o k. h.allowed;
      least = λ other w k. h.least other w
          (k (possible_grows p other w (view c.args.action.now.over.now) (sym c.if-is_met.ensures.possible)) (possible_grows p other w (view c.args.finish.now.cond.now) (sym c.if-is_met-2.ensures.possible)));
    }

pub returns-in_ok-admit-clause-seen : goal.returns-in_ok-admit-clause-seen
returns-in_ok-admit-clause-seen c =
    let h = c.in_ok-admit.ensures in
    seen_ended (pair_so_far c.args.progress.now) (pair_so_far c.admit.new.progress) c.args.action.now c.args.finish.now c.args.seen.now c.is_met.new.met c.is_met-then-is_met.new.met c.requires.finish h.grown.within c.requires.seen c.is_met.ensures.met
    c.is_met-then-is_met.ensures.met h.allowed
