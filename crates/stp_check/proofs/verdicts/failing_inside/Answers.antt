use Rattle.std.proofs.Common.{List, ◌+◌, ap, ◌∙◌}
use Rattle.stp_base.specs.declared.ids.StepId.{StepId}
use Rattle.stp_happen.specs.OwnedViews.{plain_owned}
use Rattle.stp_strength.specs.Vectors.{vector_of}
use Rattle.stp_check.specs.Choices.{near_to}
use Rattle.stp_check.specs.Late.{numbers_of}
use Rattle.stp_check.proofs.InBoxes.{these_are_proper, kept_in_boxes}
use Rattle.stp_check.proofs.Judged.{broken_box_fails}
use Rattle.stp_check.proofs.verdicts.failing_inside.Goals as goal

pub first_broken-requires-clause-proper : goal.first_broken-requires-clause-proper
first_broken-requires-clause-proper c = these_are_proper c.args.boxed.now c.args.windows.now c.args.spans.now (record { windows_are = c.requires.windows; spans_are = c.requires.spans })

pub returns-in_default : goal.returns-in_default
returns-in_default c = kept_in_boxes c.args.boxed.now c.args.windows.now c.args.spans.now (record { windows_are = c.requires.windows; spans_are = c.requires.spans }) (rw c.in_default.is at c.in_ok-found.ensures)

pub returns : goal.returns
returns c =
    let boxed = c.args.boxed.now in
    broken_box_fails boxed c.args.windows.now c.args.spans.now (record { windows_are = c.requires.windows; spans_are = c.requires.spans }) c.requires.calm c.in-Some.found.time (numbers_of c.in-Some.found.late) (rw c.in-Some.is at c.in_ok-found.ensures) c.in_ok-broken.broken
    (c.in_ok-broken.ensures.chosen ∙ ap (λ (ss : List StepId). vector_of (plain_owned boxed) (near_to (numbers_of ss) (c.in-Some.found.time + 1))) c.as_slice.ensures)
