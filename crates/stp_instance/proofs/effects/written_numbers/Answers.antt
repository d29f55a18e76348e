use Rattle.std.proofs.Common.{◌∙◌, ap}
use Rattle.stp_cond.specs.Atoms.{set_of}
use Rattle.stp_cond.specs.Views.{atoms_of}
use Rattle.stp_cond.proofs.EventLists.{sets_are_sets, deleted_is}
use Rattle.stp_instance.specs.Numbered.{numbers_in}
use Rattle.stp_instance.specs.Effects.{written_atoms}
use Rattle.stp_instance.proofs.effects.written_numbers.Goals as goal

pub without-requires : goal.without-requires
without-requires c = sets_are_sets (atoms_of c.deref.result.now) c.in_ok-added.added.now c.in_ok-added.ensures

pub returns-clause-dels : goal.returns-clause-dels
returns-clause-dels c =
    deleted_is (numbers_in c.args.table.now (written_atoms c.args.adds.now)) (numbers_in c.args.table.now (written_atoms c.args.dels.now)) c.in_ok-added.added.now c.in_ok-all_deleted.all_deleted.now c.in_ok-deleted.deleted.now
    (c.in_ok-added.ensures ∙ ap set_of (ap atoms_of c.deref.ensures.value ∙ c.in_ok-adds.ensures))
    (c.in_ok-all_deleted.ensures ∙ ap set_of (ap atoms_of c.deref-2.ensures.value ∙ c.in_ok-dels.ensures))
    c.in_ok-deleted.ensures
