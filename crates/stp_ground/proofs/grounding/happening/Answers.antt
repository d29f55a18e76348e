use Rattle.std.proofs.Common.{◌≡◌, ◌∙◌, ap}
use Rattle.stp_cond.specs.Atoms.{set_of, without}
use Rattle.stp_cond.specs.Formulas.{view}
use Rattle.stp_cond.specs.Views.{atoms_of}
use Rattle.stp_cond.proofs.EventLists.{lists_apart, sets_are_sets}
use Rattle.stp_instance.specs.Numbered.{fluent_atoms, is_fluent, numbers_in}
use Rattle.stp_instance.specs.Effects.{written_atoms}
use Rattle.stp_instance.specs.Views.{claim}
use Rattle.stp_ground.specs.Problems.{is_fact, is_written}
use Rattle.stp_ground.specs.Worlds.{problem_in}
use Rattle.stp_ground.proofs.Reached.{left_below, left_is_read, rest_below, set_below}
use Rattle.stp_ground.proofs.grounding.happening.Goals as goal

pub invariant_of-result : goal.invariant_of-result
invariant_of-result c =
    let p = problem_in c.args.world.now in
    let table = c.args.table.now in
    let needed = claim c.args.ground.now in
    let adds = numbers_in table (written_atoms c.args.adds.now) in
    let dels = numbers_in table (written_atoms c.args.dels.now) in
    let read : atoms_of c.in_ok-reads.reads.now ≡ set_of (numbers_in table (fluent_atoms (is_written p) needed)) =
    c.in_ok-reads.ensures ∙ ap (λ f. set_of (numbers_in table (fluent_atoms f needed))) (ap is_fluent c.deref.ensures.value ∙ c.args.world.now.marked) in
    record {
      lawful = ∣ record {
        reads_once = sets_are_sets (numbers_in table (fluent_atoms (is_written p) needed)) c.in_ok-reads.reads.now read;
        adds_once = sets_are_sets adds c.in_ok-added.added.now c.in_ok-added.ensures.adds;
        dels_once = sets_are_sets (without dels adds) c.in_ok-added.deleted.now c.in_ok-added.ensures.dels;
        apart = lists_apart adds dels c.in_ok-added.added.now c.in_ok-added.deleted.now c.in_ok-added.ensures.adds c.in_ok-added.ensures.dels;
        reading = left_is_read (is_written p) (is_fact p) table needed c.in_ok-cond.cond.now (ap view c.in_ok-cond.ensures ∙ c.in_ok-left.ensures.left) c.in_ok-reads.reads.now read;
      } ∣₁;
    }

pub returns-clause-in_range : goal.returns-clause-in_range
returns-clause-in_range c =
    let p = problem_in c.args.world.now in
    let table = c.args.table.now in
    let needed = claim c.args.ground.now in
    record {
      cond = left_below table (is_written p) (is_fact p) needed c.in_ok-cond.cond.now (ap view c.in_ok-cond.ensures ∙ c.in_ok-left.ensures.left);
      reads = set_below table (fluent_atoms (is_written p) needed) c.in_ok-reads.reads.now (c.in_ok-reads.ensures ∙ ap (λ f. set_of (numbers_in table (fluent_atoms f needed))) (ap is_fluent c.deref.ensures.value ∙ c.args.world.now.marked));
      adds = set_below table (written_atoms c.args.adds.now) c.in_ok-added.added.now c.in_ok-added.ensures.adds;
      dels = rest_below table (written_atoms c.args.dels.now) (numbers_in table (written_atoms c.args.adds.now)) c.in_ok-added.deleted.now c.in_ok-added.ensures.dels;
    }
