use Rattle.std.proofs.Common.{refl}
use Rattle.std.proofs.Math.Logic.{∥∥₁_map}
use Rattle.stp_happen.specs.Views.{run_of}
use Rattle.stp_happen.specs.Boxes.{run_under}
use Rattle.stp_happen.specs.OwnedViews.{plain_owned}
use Rattle.stp_happen.specs.Orders.{IsInSomeOrder}
use Rattle.stp_happen.proofs.Alike.{order_is_free, alike_in_order}
use Rattle.stp_happen.proofs.FaultLists.{first_fault_is_free_of_order}
use Rattle.stp_happen.proofs.RunOfBox.{AreParts, in_some_order, run_is_sound, parts_read}
use Rattle.stp_happen.proofs.run_at.run_by_owners.Goals as goal

pub invariant_of-result : goal.invariant_of-result
invariant_of-result c =
    let box = c.args.boxed.now in
    let ds = c.args.vector.now in
    let read = c.as_slice-owners.result.now in
    let es = c.in_ok-entries_at.field-0.items in
    let os = c.in_ok-entries.entries in
    let ss = c.in_ok-spans.spans in
    let parts : AreParts read ds es os ss = record {
      entries = c.in_ok-entries_at.ensures.entries;
      spans = c.in_ok-spans.ensures.spans;
      moves = c.in_ok-entries.ensures.same;
      sorted = c.in_ok-entries.ensures.sorted;
      entries_in_range = c.in_ok-entries_at.ensures.in_range;
      spans_in_range = c.in_ok-spans.ensures.in_range;
    } in
    record {
      sound = ∥∥₁_map box.sound (λ b.
          run_is_sound box.grid box.owners box.initial box.goal.now b ds c.requires es os ss (parts_read read box.owners c.as_slice-owners.ensures ds es os ss parts) c.in_ok-initial.initial c.in_ok-initial.ensures);
    }

pub returns : goal.returns
returns c =
    let box = c.args.boxed.now in
    let ds = c.args.vector.now in
    let read = c.as_slice-owners.result.now in
    let es = c.in_ok-entries_at.field-0.items in
    let os = c.in_ok-entries.entries in
    let ss = c.in_ok-spans.spans in
    let parts : AreParts read ds es os ss = record {
      entries = c.in_ok-entries_at.ensures.entries;
      spans = c.in_ok-spans.ensures.spans;
      moves = c.in_ok-entries.ensures.same;
      sorted = c.in_ok-entries.ensures.sorted;
      entries_in_range = c.in_ok-entries_at.ensures.in_range;
      spans_in_range = c.in_ok-spans.ensures.in_range;
    } in
    let run = run_of os ss c.in_ok-initial.initial box.goal.now in
    let same : IsInSomeOrder run (run_under (plain_owned box) ds) =
    in_some_order box.owners ds es os ss (parts_read read box.owners c.as_slice-owners.ensures ds es os ss parts) c.in_ok-initial.initial box.initial c.in_ok-initial.ensures box.goal.now in
    let alike = alike_in_order run (run_under (plain_owned box) ds) same in
    record {
      run = same;
      grid = refl;
      executes = order_is_free run (run_under (plain_owned box) ds) alike;
      first_fault = λ f. first_fault_is_free_of_order run (run_under (plain_owned box) ds) f alike;
    }
