use Rattle.stp_cond.specs.Views.{atoms_of}
use Rattle.stp_cond.proofs.EventLists.{sets_are_sets}
use Rattle.stp_rewrite.proofs.Sets.{set_reads, sets_apart}
use Rattle.stp_rewrite.proofs.making.event_with.Goals as goal

pub invariant_of-result : goal.invariant_of-result
invariant_of-result c =
    let reads = atoms_of c.args.reads.now in
    let adds = atoms_of c.args.adds.now in
    let dels = atoms_of c.args.dels.now in
    record {
      lawful = ∣ record {
        reads_once = sets_are_sets reads c.in_ok-reads.reads.now c.in_ok-reads.ensures;
        adds_once = sets_are_sets adds c.in_ok-adds.adds.now c.in_ok-adds.ensures;
        dels_once = sets_are_sets dels c.in_ok-dels.dels.now c.in_ok-dels.ensures;
        apart = sets_apart adds dels c.in_ok-adds.adds.now c.in_ok-dels.dels.now c.in_ok-adds.ensures c.in_ok-dels.ensures c.requires.apart;
        reading = set_reads reads c.in_ok-reads.reads.now c.args.cond.now c.in_ok-reads.ensures c.requires.reads;
      } ∣₁;
    }
