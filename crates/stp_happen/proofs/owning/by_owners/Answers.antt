use Rattle.std.proofs.Common.{◌≡◌, ℕ, All, ap, subst, sym}
use Rattle.std.proofs.Math.Logic.{∥∥₁_map}
use Rattle.stp_cond.specs.Truth.{meaning_of, state_of_row}
use Rattle.stp_happen.specs.Owners.{owners_of}
use Rattle.stp_happen.specs.OwnerViews.{plain_owners}
use Rattle.stp_happen.specs.SoundBox.{IsBoxStep, IsBoxTimed}
use Rattle.stp_happen.specs.SoundOwned.{IsOwner}
use Rattle.stp_happen.specs.StepViews.{steps_of, timed_of}
use Rattle.stp_happen.proofs.OwnedBoxes.{few_of_box, owned_same, owned_is_sound, owned_is_box}
use Rattle.stp_happen.proofs.owning.by_owners.Goals as goal

pub push_timed-requires-clause-few : goal.push_timed-requires-clause-few
push_timed-requires-clause-few c = few_of_box c.args.boxed.now c.as_slice.result.now c.as_slice.ensures

-- the owners are those of the steps and then of the events, and each keeps what owners keep
pub invariant_of-result : goal.invariant_of-result
invariant_of-result c =
    let box = c.args.boxed.now in
    let owners = c.in_ok-owners.owners in
    let news = c.push_timed.new.owners in
    let same : plain_owners news ≡ owners_of (steps_of box.steps) (timed_of box.timed) = owned_same c.as_slice-steps.result.now box.steps c.as_slice.result.now box.timed owners news c.in_ok-push_timed.ensures.same c.in_ok-owners.ensures.same c.as_slice-steps.ensures c.as_slice.ensures in
    let keeps : (n : ℕ) → All (IsBoxStep box.grid n) box.steps → All (IsBoxTimed box.grid n) box.timed → All (IsOwner box.grid n) news = λ n h k.
    c.in_ok-push_timed.ensures.in_range box.grid n (c.in_ok-owners.ensures.in_range box.grid n (subst (All (IsBoxStep box.grid n)) (sym c.as_slice-steps.ensures) h)) (subst (All (IsBoxTimed box.grid n)) (sym c.as_slice.ensures) k) in
    record { sound = ∥∥₁_map box.sound (λ b. owned_is_sound box.grid box.steps box.timed box.initial c.in_ok-initial.initial box.goal.now news b same keeps c.in_ok-initial.ensures) }

pub returns-clause-same : goal.returns-clause-same
returns-clause-same c =
    let box = c.args.boxed.now in
    let owners = c.in_ok-owners.owners in
    let news = c.push_timed.new.owners in
    let same : plain_owners news ≡ owners_of (steps_of box.steps) (timed_of box.timed) = owned_same c.as_slice-steps.result.now box.steps c.as_slice.result.now box.timed owners news c.in_ok-push_timed.ensures.same c.in_ok-owners.ensures.same c.as_slice-steps.ensures c.as_slice.ensures in
    owned_is_box (plain_owners news) (owners_of (steps_of box.steps) (timed_of box.timed)) (state_of_row box.initial) (state_of_row c.in_ok-initial.initial) (meaning_of box.goal.now) same (ap state_of_row c.in_ok-initial.ensures)
