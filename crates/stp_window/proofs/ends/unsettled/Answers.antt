use Rattle.std.proofs.Common.{◌≡◌, nat_lt, true, ap, ◌∙◌}
use Rattle.std.proofs.lemmas.Result.{IfOk-weaker}
use Rattle.stp_happen.specs.BoxViews.{plain_box}
use Rattle.stp_happen.specs.Boxes.{PlainBox}
use Rattle.stp_happen.specs.OwnerViews.{plain_owners}
use Rattle.stp_happen.specs.Sound.{is_ascending}
use Rattle.stp_happen.specs.StepViews.{steps_of, timed_of}
use Rattle.stp_happen.proofs.OwnerLists.{owners_are_in_order}
use Rattle.stp_window.specs.Ends.{numbers_of, unsettled_among, unsettled}
use Rattle.stp_window.proofs.EndLists.{numbers_rise}
use Rattle.stp_window.proofs.WellMade.{runs_are_well_made}
use Rattle.stp_window.proofs.ends.unsettled.Goals as goal

pub returns-clause-steps : goal.returns-clause-steps
returns-clause-steps c =
    let read = c.as_slice.result.now in
    IfOk-weaker c.unsettled_among.result (λ r. numbers_of r ≡ unsettled_among (plain_owners read) c.args.time) (λ r. numbers_of r ≡ unsettled (plain_box c.args.boxed.now) c.args.time)
    (λ r e. e ∙ (ap (λ os. unsettled_among (plain_owners os) c.args.time) c.as_slice.ensures ∙ ap (λ (b : PlainBox). unsettled_among b.owners c.args.time) c.in_ok-owned.ensures.same)) c.unsettled_among.ensures

-- owners stand by their numbers, but for events at fixed moments, which are never unsettled
pub returns-clause-ascending : goal.returns-clause-ascending
returns-clause-ascending c =
    let boxed = c.args.boxed.now in
    let read = c.as_slice.result.now in
    IfOk-weaker c.unsettled_among.result (λ r. numbers_of r ≡ unsettled_among (plain_owners read) c.args.time) (λ r. is_ascending nat_lt (numbers_of r) ≡ true)
    (λ r e.
    ap (is_ascending nat_lt) (e ∙ (ap (λ os. unsettled_among (plain_owners os) c.args.time) c.as_slice.ensures ∙ ap (λ (b : PlainBox). unsettled_among b.owners c.args.time) c.in_ok-owned.ensures.same))
    ∙ numbers_rise c.args.time (plain_box boxed).owners (runs_are_well_made boxed).each (owners_are_in_order (steps_of boxed.steps) (timed_of boxed.timed))) c.unsettled_among.ensures
