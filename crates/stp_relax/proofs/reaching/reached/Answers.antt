use Rattle.std.proofs.Common.{◌≡◌, ◌≤◌, length, All, sym, ap, ◌∙◌, subst, get_or, []}
use Rattle.stp_task.specs.SoundTask.{IsActionInRange}
use Rattle.stp_relax.proofs.Parts.{actions_in_range}
use Rattle.stp_relax.specs.Taken.{pair_so_far}
use Rattle.stp_relax.proofs.LookedAt.{popped_seen, unseen_yet}
use Rattle.stp_relax.proofs.Rounds.{all_reached, goes_on, goes_on_alone, under_way}
use Rattle.stp_relax.proofs.reaching.reached.Goals as goal

pub take_all-requires-clause-in_range : goal.take_all-requires-clause-in_range
take_all-requires-clause-in_range c =
    let task = c.args.task.now in
    subst (λ n. All (IsActionInRange n) c.as_slice-actions.result.now) (sym c.in_ok-progress.ensures.size.may) (subst (All (IsActionInRange (length task.initial))) (sym c.as_slice-actions.ensures) (actions_in_range task))

pub take_all-requires-clause-seen : goal.take_all-requires-clause-seen
take_all-requires-clause-seen c = unseen_yet (pair_so_far c.in_ok-progress.progress) c.as_slice-actions.result.now c.in_ok-seen.seen.items c.in_ok-seen.ensures.0 c.in_ok-seen.ensures.1

pub take_readers-requires-clause-seen : goal.take_readers-requires-clause-seen
take_readers-requires-clause-seen c = popped_seen c.as_slice-actions.result.now c.loop-atom.seen.items c.loop-atom.progress c.next.new.progress c.in-Some.ensures.may c.in-Some.ensures.always c.loop-atom.invariant.seen

pub loop-atom-init : goal.loop-atom-init
loop-atom-init c = record {
  way = under_way c.args.task.now c.as_slice-actions.result.now _ c.take_all.new.progress c.as_slice-actions.ensures c.in_ok-progress.ensures c.in_ok-take_all.ensures.taken;
  seen = c.in_ok-take_all.ensures.seen;
}

-- no action reads the atom
pub loop-atom-preserved-in_default-get : goal.loop-atom-preserved-in_default-get
loop-atom-preserved-in_default-get c =
    let readers = c.in_ok-readers.readers.items in
    let atom = c.in-Some.atom.0 in
    let past : length readers ≤ atom = subst (λ rs. length rs ≤ atom) c.deref.ensures.value c.in_default-get.ensures.lookup.3 in
    record {
      way = goes_on_alone c.args.task.now readers atom c.loop-atom.progress c.next.new.progress c.loop-atom.invariant.way c.in-Some.ensures c.in_ok-readers.ensures past;
      seen = popped_seen c.as_slice-actions.result.now c.loop-atom.seen.items c.loop-atom.progress c.next.new.progress c.in-Some.ensures.may c.in-Some.ensures.always c.loop-atom.invariant.seen;
    }

pub take_readers-requires-clause-in_range : goal.take_readers-requires-clause-in_range
take_readers-requires-clause-in_range c =
    let task = c.args.task.now in
    subst (λ n. All (IsActionInRange n) c.as_slice-actions.result.now) (sym (ap length c.in-Some.ensures.may ∙ c.loop-atom.invariant.way.begun.size.may)) (subst (All (IsActionInRange (length task.initial))) (sym c.as_slice-actions.ensures) (actions_in_range task))

pub loop-atom-preserved : goal.loop-atom-preserved
loop-atom-preserved c =
    let readers = c.in_ok-readers.readers.items in
    let atom = c.in-Some.atom.0 in
    let these : c.as_slice.result.now ≡ get_or readers atom [] = c.as_slice.ensures ∙ (c.in-Some-get.ensures.lookup.3.1 [] ∙ ap (λ rs. get_or rs atom []) c.deref.ensures.value) in
    record {
      way = goes_on c.args.task.now c.as_slice-actions.result.now readers c.as_slice.result.now atom c.loop-atom.progress c.next.new.progress c.take_readers.new.progress c.as_slice-actions.ensures c.loop-atom.invariant.way c.in-Some.ensures c.in_ok-readers.ensures these c.in_ok-take_readers.ensures.taken;
      seen = c.in_ok-take_readers.ensures.seen;
    }

pub returns : goal.returns
returns c = all_reached c.args.task.now c.loop-atom.progress c.next.new.progress c.loop-atom.invariant.way c.in_default.ensures
