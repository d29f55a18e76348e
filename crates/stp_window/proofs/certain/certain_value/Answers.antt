use Rattle.std.proofs.Common.{◌∙◌, ◌+◌, length, Some, None, sym}
use Rattle.stp_happen.specs.Owners.{step_owners}
use Rattle.stp_happen.specs.StepViews.{steps_of}
use Rattle.stp_window.specs.Boxed.{windows_in_run}
use Rattle.stp_window.specs.OwnerWindows.{points_of_owners}
use Rattle.stp_window.proofs.LastWay.{certain_is_initial}
use Rattle.stp_window.proofs.Later.{told, last_way, first_value, all_seen}
use Rattle.stp_window.proofs.certain.certain_value.Goals as goal

-- the write that was found is the last of all points of the box, so its way is certain
pub returns-in-Some-clause-certain : goal.returns-in-Some-clause-certain
returns-in-Some-clause-certain c =
    let boxed = c.args.boxed.now in
    let read = c.as_slice.result.now in
    told boxed c.args.atom.0 c.args.time c.requires.clash c.in-Some.write
    (all_seen boxed read c.as_slice-2.result.now c.args.atom.0 c.args.time (Some c.in-Some.write) c.as_slice.ensures c.as_slice-2.ensures
    (c.in-Some.ensures (points_of_owners (step_owners 1 (steps_of read))) (length (steps_of read) + 1) c.with_steps-of_steps.ensures))

pub returns-in-Some-clause-last : goal.returns-in-Some-clause-last
returns-in-Some-clause-last c =
    let boxed = c.args.boxed.now in
    let read = c.as_slice.result.now in
    let certain = told boxed c.args.atom.0 c.args.time c.requires.clash c.in-Some.write
    (all_seen boxed read c.as_slice-2.result.now c.args.atom.0 c.args.time (Some c.in-Some.write) c.as_slice.ensures c.as_slice-2.ensures
    (c.in-Some.ensures (points_of_owners (step_owners 1 (steps_of read))) (length (steps_of read) + 1) c.with_steps-of_steps.ensures)) in
    λ p last. last_way boxed c.args.atom.0 c.args.time c.requires.clash c.in-Some.write.adds certain p last

pub returns-in-Some-clause-initial : goal.returns-in-Some-clause-initial
returns-in-Some-clause-initial c =
    let boxed = c.args.boxed.now in
    let read = c.as_slice.result.now in
    let certain = told boxed c.args.atom.0 c.args.time c.requires.clash c.in-Some.write
    (all_seen boxed read c.as_slice-2.result.now c.args.atom.0 c.args.time (Some c.in-Some.write) c.as_slice.ensures c.as_slice-2.ensures
    (c.in-Some.ensures (points_of_owners (step_owners 1 (steps_of read))) (length (steps_of read) + 1) c.with_steps-of_steps.ensures)) in
    λ none. first_value boxed c.args.atom.0 c.args.time c.in-Some.write.adds certain none

-- where no event writes the atom by then, it is as at first
pub returns-in-None-clause-certain : goal.returns-in-None-clause-certain
returns-in-None-clause-certain c =
    let boxed = c.args.boxed.now in
    let read = c.as_slice.result.now in
    c.get.ensures ∙ sym (certain_is_initial (windows_in_run boxed) c.args.atom.0 c.args.time
    (all_seen boxed read c.as_slice-2.result.now c.args.atom.0 c.args.time None c.as_slice.ensures c.as_slice-2.ensures
    (c.in-None.ensures (points_of_owners (step_owners 1 (steps_of read))) (length (steps_of read) + 1) c.with_steps-of_steps.ensures)))

pub returns-in-None-clause-last : goal.returns-in-None-clause-last
returns-in-None-clause-last c =
    let boxed = c.args.boxed.now in
    let read = c.as_slice.result.now in
    let certain = c.get.ensures ∙ sym (certain_is_initial (windows_in_run boxed) c.args.atom.0 c.args.time
    (all_seen boxed read c.as_slice-2.result.now c.args.atom.0 c.args.time None c.as_slice.ensures c.as_slice-2.ensures
    (c.in-None.ensures (points_of_owners (step_owners 1 (steps_of read))) (length (steps_of read) + 1) c.with_steps-of_steps.ensures))) in
    λ p last. last_way boxed c.args.atom.0 c.args.time c.requires.clash c.get.result certain p last
