-- The row is the state after the entries so far, and the faults are the first of theirs.
use Rattle.std.proofs.Common.{◌≡◌, ℕ, ◌<◌, ◌≤◌, ◌-◌, length, get_or, take}
use Rattle.std.specs.List.{filter_map, flat_map}
use Rattle.stp_cond.specs.Truth.{state_of_row}
use Rattle.stp_cond.specs.declared.cond.Cond.TheVariants.{True}
use Rattle.stp_happen.specs.declared.run.Entry.{Entry}
use Rattle.stp_happen.specs.Faults.{condition_in, interference_of, over_all_in}
use Rattle.stp_happen.specs.Firsts.{first_of}
use Rattle.stp_happen.specs.Plain.{after, before, state_after}
use Rattle.stp_happen.specs.Views.{entries_of, run_of, spans_of}
use Rattle.stp_happen.proofs.first.run_through.Given as goal

abbrev pub invariant-loop-start : goal.invariant-loop-start
invariant-loop-start l =
    let run = run_of l.entries l.spans l.fn.row True in
    record {
      within : l.start ≤ length l.entries;
      len : length l.row ≡ length l.fn.row;
      parted : (k j : ℕ) (d : Entry) → k < l.start → l.start ≤ j → j < length l.entries → (get_or l.entries k d).time < (get_or l.entries j d).time;
      state : (a : ℕ) → state_of_row l.row a ≡ state_after (state_of_row l.fn.row) (entries_of (take l.start l.entries)) a;
      interference : l.firsts.interference ≡ first_of (flat_map (λ e. filter_map (interference_of e) (entries_of l.entries)) (entries_of (take l.start l.entries)));
      condition : l.firsts.condition ≡ first_of (filter_map (λ e. condition_in (before run e.time) e) (entries_of (take l.start l.entries)));
      over_all : l.firsts.over_all ≡ first_of (flat_map (λ e. filter_map (over_all_in (after run e.time) e.time) (spans_of l.spans)) (entries_of (take l.start l.entries)));
    }

abbrev pub decreases-loop-start : goal.decreases-loop-start
decreases-loop-start l = length l.entries - l.start
