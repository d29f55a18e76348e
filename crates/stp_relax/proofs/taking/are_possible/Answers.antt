use Rattle.std.proofs.Common.{◌≡◌, ◌<◌, length, true, sym, subst}
use Rattle.std.proofs.lemmas.List.{take_all}
use Rattle.std.proofs.lemmas.List.Elements.{All-more}
use Rattle.std.proofs.Common.{All}
use Rattle.stp_cond.specs.Formulas.{view}
use Rattle.stp_task.specs.Certificates.{possible}
use Rattle.stp_relax.specs.Taken.{pair_so_far}
use Rattle.stp_relax.proofs.LookedAt.{all_met, one_unmet}
use Rattle.stp_relax.proofs.taking.are_possible.Goals as goal

pub returns-then-not-is_possible-clause-all : goal.returns-then-not-is_possible-clause-all
returns-then-not-is_possible-clause-all c =
    let part = c.in-Some.part.now in
    sym (one_unmet (pair_so_far c.args.progress.now) c.args.parts.now c.loop-part.met part c.in-Some.ensures.lookup.3.0 (c.in-Some.ensures.lookup.3.1 part) (sym c.if-not-is_possible.ensures))

pub loop-part-preserved : goal.loop-part-preserved
loop-part-preserved c =
    let p = pair_so_far c.args.progress.now in
    let part = c.in-Some.part.now in
    let l : c.loop-part.met < length c.args.parts.now = c.in-Some.ensures.lookup.3.0 in
    All-more (λ c. possible p (view c) ≡ true) c.args.parts.now c.loop-part.met part l c.loop-part.invariant (subst (λ c. possible p (view c) ≡ true) (c.in-Some.ensures.lookup.3.1 part) (sym c.if-not-is_possible.ensures))

pub returns-clause-all : goal.returns-clause-all
returns-clause-all c =
    let p = pair_so_far c.args.progress.now in
    sym (all_met p c.args.parts.now (subst (All (λ c. possible p (view c) ≡ true)) (take_all c.loop-part.met c.args.parts.now c.in_default.ensures.lookup.3) c.loop-part.invariant))
