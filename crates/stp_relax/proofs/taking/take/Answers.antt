use Rattle.std.proofs.Common.{◌≡◌, true, length, sym, ap, ◌∙◌, subst, IfSome, option_map}
use Rattle.stp_cond.specs.Events.{IsEventInRange}
use Rattle.stp_cond.specs.Formulas.{view}
use Rattle.stp_task.specs.Certificates.{possible}
use Rattle.stp_relax.specs.Taken.{pair_so_far}
use Rattle.stp_task.specs.Actions.{action_of, happening_of}
use Rattle.stp_relax.proofs.Takes.{taken_end}
use Rattle.stp_relax.proofs.taking.take.Goals as goal

-- the rows keep their length
pub take_end-requires-clause-in_range : goal.take_end-requires-clause-in_range
take_end-requires-clause-in_range c =
    let n = length c.args.progress.now.may in
    let some = c.requires.in_range.finish in
    subst (λ m. IsEventInRange m c.in-Some.finish) (sym (c.in_ok-take_start.ensures.taken.grown.size n c.requires.size).may)
    (subst (λ f. IfSome f (IsEventInRange n)) c.in-Some.is some)

pub returns-clause-taken : goal.returns-clause-taken
returns-clause-taken c =
    let begun : possible (pair_so_far c.args.progress.now) (view c.args.action.now.start.cond.now) ≡ true = sym c.in_ok-take_start.ensures.possible ∙ c.if-not-branch.false in
    taken_end (action_of c.args.action.now) (happening_of c.in-Some.finish) c.args.progress.now c.take_start.new.progress c.take_end.new.progress (ap (option_map happening_of) c.in-Some.is) begun c.in_ok-take_start.ensures.taken c.in_ok-take_end.ensures.taken
