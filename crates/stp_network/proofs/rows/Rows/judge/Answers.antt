-- What the run finds of its own rows holds of the times that were kept.
use Rattle.std.proofs.Common.{ℕ, length, refl, ap, subst}
use Rattle.stp_network.specs.Raising.{HasNoPotential}
use Rattle.stp_network.proofs.rows.Rows.judge.Goals as goal

pub returns-then-not-run-clause-none : goal.returns-then-not-run-clause-none
returns-then-not-run-clause-none c = λ same.
    subst (λ (n : ℕ). HasNoPotential n c.args.edges.now c.args.fresh.now) (ap length c.deref-3.ensures.value) (c.if-not-run.ensures.none refl)
