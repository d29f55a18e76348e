use Rattle.std.proofs.Common.{nat_lt, ap, ◌∙◌}
use Rattle.stp_cond.specs.Atoms.{has, without}
use Rattle.stp_cond.specs.Views.{atoms_of}
use Rattle.stp_cond.proofs.EventLists.{all_in_set, below_from_All, set_in_range, without_in_range, sets_are_sets, deleted_is, lists_apart, same_event}
use Rattle.std.specs.List.{list_all}
use Rattle.stp_cond.proofs.conjunctive.conjunctive_event.Goals as goal

pub without-requires : goal.without-requires
without-requires c = sets_are_sets (atoms_of c.args.adds.now) c.in_ok-added.added.now c.in_ok-added.ensures

pub invariant_of-result : goal.invariant_of-result
invariant_of-result c =
    let deleted = deleted_is (atoms_of c.args.adds.now) (atoms_of c.args.dels.now) c.in_ok-added.added.now c.in_ok-all_deleted.all_deleted.now c.in_ok-deleted.deleted.now c.in_ok-added.ensures c.in_ok-all_deleted.ensures c.in_ok-deleted.ensures in
    record {
      lawful = ∣ record {
        reads_once = sets_are_sets (atoms_of c.args.needs.now) c.in_ok-reads.reads.now c.in_ok-reads.ensures;
        adds_once = sets_are_sets (atoms_of c.args.adds.now) c.in_ok-added.added.now c.in_ok-added.ensures;
        dels_once = sets_are_sets (without (atoms_of c.args.dels.now) (atoms_of c.args.adds.now)) c.in_ok-deleted.deleted.now deleted;
        apart = lists_apart (atoms_of c.args.adds.now) (atoms_of c.args.dels.now) c.in_ok-added.added.now c.in_ok-deleted.deleted.now c.in_ok-added.ensures deleted;
        reading = c.in_ok-cond.ensures.reads (has (atoms_of c.in_ok-reads.reads.now)) ∙ (ap (λ l. list_all (has l) (atoms_of c.args.needs.now)) c.in_ok-reads.ensures ∙ all_in_set (atoms_of c.args.needs.now));
      } ∣₁;
    }

pub returns-clause-event : goal.returns-clause-event
returns-clause-event c =
    same_event _ _ _ _ _ _ _ _ c.in_ok-cond.ensures.meaning c.in_ok-reads.ensures c.in_ok-added.ensures
    (deleted_is (atoms_of c.args.adds.now) (atoms_of c.args.dels.now) c.in_ok-added.added.now c.in_ok-all_deleted.all_deleted.now c.in_ok-deleted.deleted.now c.in_ok-added.ensures c.in_ok-all_deleted.ensures c.in_ok-deleted.ensures)

pub returns-clause-in_range : goal.returns-clause-in_range
returns-clause-in_range c = λ n needs adds dels. record {
  cond = c.in_ok-cond.ensures.reads (λ a. nat_lt a n) ∙ below_from_All n c.args.needs.now needs;
  reads = set_in_range n c.args.needs.now c.in_ok-reads.reads.now c.in_ok-reads.ensures needs;
  adds = set_in_range n c.args.adds.now c.in_ok-added.added.now c.in_ok-added.ensures adds;
  dels = without_in_range n c.in_ok-all_deleted.all_deleted.now c.in_ok-deleted.deleted.now (atoms_of c.in_ok-added.added.now) c.in_ok-deleted.ensures (set_in_range n c.args.dels.now c.in_ok-all_deleted.all_deleted.now c.in_ok-all_deleted.ensures dels);
}
