use Rattle.std.proofs.Common.{sym}
use Rattle.stp_relax.specs.Taken.{pair_so_far}
use Rattle.stp_cond.specs.Formulas.{view}
use Rattle.stp_relax.proofs.Growing.{possible_grows}
use Rattle.stp_relax.proofs.LookedAt.{seen_started}
use Rattle.stp_relax.proofs.taking.take_start.Goals as goal

-- the event is possible wherever as much is possible as here
pub returns-clause-taken : goal.returns-clause-taken
returns-clause-taken c =
    let h = c.in_ok-admit.ensures in
    record {
      grown = h.grown;
      allowed = λ k. h.allowed;
      least = λ other w k. h.least other w (k (possible_grows (pair_so_far c.args.progress.now) other w (view c.args.action.now.start.cond.now) (sym c.if-not-is_met.ensures.possible)));
    }

pub returns-clause-seen : goal.returns-clause-seen
returns-clause-seen c =
    let h = c.in_ok-admit.ensures in
    seen_started (pair_so_far c.args.progress.now) (pair_so_far c.admit.new.progress) c.args.action.now c.args.seen.now c.is_met.new.met h.grown.within c.requires.seen c.is_met.ensures.met (sym c.if-not-is_met.ensures.possible) h.allowed
