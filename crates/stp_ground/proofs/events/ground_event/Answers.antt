use Rattle.std.proofs.Common.{◌≡◌, ◌<◌, nat_lt, [], true, false, length, map, ap, ◌∙◌, refl}
use Rattle.std.proofs.lemmas.List.Elements.{All-nil}
use Rattle.stp_base.specs.declared.ids.AtomId.{AtomId}
use Rattle.stp_cond.specs.Atoms.{has, without}
use Rattle.stp_cond.specs.Truth.{is_below, reads_only}
use Rattle.stp_cond.proofs.Equations.{reads_true}
use Rattle.stp_cond.specs.Formulas.{view}
use Rattle.stp_cond.proofs.Viewing.{view_true}
use Rattle.stp_cond.proofs.EventLists.{lists_apart, sets_are_sets}
use Rattle.stp_instance.specs.Numbered.{numbers_in}
use Rattle.stp_instance.specs.Effects.{added, deleted, written_atoms}
use Rattle.stp_schema.specs.Timed.{literal_of}
use Rattle.stp_ground.specs.Problems.{atoms_of_kind}
use Rattle.stp_ground.proofs.Reached.{rest_below, set_below}
use Rattle.stp_ground.proofs.events.ground_event.Goals as goal

pub invariant_of-result : goal.invariant_of-result
invariant_of-result c =
    let table = c.args.table.now in
    let adds = numbers_in table (written_atoms c.deref.result.now) in
    let dels = numbers_in table (written_atoms c.deref-2.result.now) in
    record {
      lawful = ∣ record {
        reads_once = refl;
        adds_once = sets_are_sets adds c.in_ok-added.added.now c.in_ok-added.ensures.adds;
        dels_once = sets_are_sets (without dels adds) c.in_ok-added.deleted.now c.in_ok-added.ensures.dels;
        apart = lists_apart adds dels c.in_ok-added.added.now c.in_ok-added.deleted.now c.in_ok-added.ensures.adds c.in_ok-added.ensures.dels;
        reading = ap (reads_only (has [])) c.in_ok-cond.ensures ∙ reads_true (has []);
      } ∣₁;
    }

pub returns-clause-in_range : goal.returns-clause-in_range
returns-clause-in_range c =
    let table = c.args.table.now in
    record {
      cond = ap (is_below (length table)) c.in_ok-cond.ensures ∙ reads_true (λ a. nat_lt a (length table));
      reads = All-nil (λ (a : AtomId). a.0 < length table);
      adds = set_below table (written_atoms c.deref.result.now) c.in_ok-added.added.now c.in_ok-added.ensures.adds;
      dels = rest_below table (written_atoms c.deref-2.result.now) (numbers_in table (written_atoms c.deref.result.now)) c.in_ok-added.deleted.now c.in_ok-added.ensures.dels;
    }

pub returns-clause-event : goal.returns-clause-event
returns-clause-event c =
    let table = c.args.table.now in
    let literals = map literal_of c.args.event.now.literals.now in
    let adds : written_atoms c.deref.result.now ≡ atoms_of_kind true literals = ap written_atoms c.deref.ensures.value ∙ c.in_ok-adds.ensures in
    let dels : written_atoms c.deref-2.result.now ≡ atoms_of_kind false literals = ap written_atoms c.deref-2.ensures.value ∙ c.in_ok-dels.ensures in
    λ i. record {
      cond = (ap view c.in_ok-cond.ensures ∙ view_true) i;
      reads = [];
      adds = (c.in_ok-added.ensures.adds ∙ ap (added table) adds) i;
      dels = (c.in_ok-added.ensures.dels ∙ ap (λ l. deleted table l (written_atoms c.deref-2.result.now)) adds ∙ ap (deleted table (atoms_of_kind true literals)) dels) i;
    }
