use Rattle.std.proofs.Common.{◌≡◌, ◌<◌, length, get_or, sym, subst, All, arith, inl, inr}
use Rattle.std.proofs.lemmas.Bool.{cases_lt}
use Rattle.stp_task.specs.Actions.{action_of}
use Rattle.stp_task.specs.SoundTask.{IsActionInRange}
use Rattle.stp_relax.specs.Taken.{Allows, pair_so_far}
use Rattle.stp_relax.proofs.Growing.{allows_grow, within_itself}
use Rattle.stp_relax.proofs.Takes.{grown_more, size_kept}
use Rattle.stp_relax.proofs.reaching.take_all.Goals as goal

pub take_at-requires-clause-size : goal.take_at-requires-clause-size
take_at-requires-clause-size c = size_kept c.args.progress.now c.loop-place.progress c.requires.size c.loop-place.invariant.grown

pub take_at-requires-clause-in_range : goal.take_at-requires-clause-in_range
take_at-requires-clause-in_range c =
    let n = length c.args.progress.now.may in
    subst (λ m. All (IsActionInRange m) c.args.actions.now) (sym (c.loop-place.invariant.grown.size n c.requires.size).may) c.requires.in_range

pub loop-place-preserved : goal.loop-place-preserved
loop-place-preserved c =
    let i = c.loop-place.place in
    let q = c.args.progress.now in
    let r = c.loop-place.progress in
    let s = c.take_at.new.progress in
    let so_far = c.loop-place.invariant in
    let new = c.in_ok-take_at.ensures.taken in
    record {
      grown = grown_more q r s so_far.grown new.grown;
      allows = λ j d m l.
          elim (cases_lt j i) [
            | inl k ↦ allows_grow (pair_so_far q) (pair_so_far q) (pair_so_far r) (pair_so_far s) (within_itself (pair_so_far q)) new.grown.within (action_of (get_or c.args.actions.now j d)) (so_far.allows j d k l)
            | inr k ↦
                let e : i ≡ j = omega (arith, m, k) in
                allows_grow (pair_so_far r) (pair_so_far q) (pair_so_far s) (pair_so_far s) so_far.grown.within (within_itself (pair_so_far s)) (action_of (get_or c.args.actions.now j d))
                (subst (λ k. Allows (pair_so_far r) (pair_so_far s) (action_of (get_or c.args.actions.now k d))) e (new.allows d (subst (λ k. k < length c.args.actions.now) (sym e) l)))
          ];
      least = λ other w all. new.least other (so_far.least other w all) all;
      seen = c.in_ok-take_at.ensures.seen;
    }
