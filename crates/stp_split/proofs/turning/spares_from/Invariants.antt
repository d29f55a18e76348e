-- What is left of the formulas is spared where all from the start are.
use Rattle.std.proofs.Common.{◌≡◌, not, drop}
use Rattle.std.specs.List.{list_all}
use Rattle.stp_cond.specs.Truth.{reads_only, state_of_row}
use Rattle.stp_split.specs.Cases.{turns_at}
use Rattle.stp_window.specs.Views.{point_of}
use Rattle.stp_split.proofs.turning.spares_from.Given as goal

abbrev pub invariant-loop-place : goal.invariant-loop-place
invariant-loop-place l =
    list_all (reads_only (λ a. not (turns_at (point_of l.end) (state_of_row l.row) a))) (drop l.place l.conds) ≡ list_all (reads_only (λ a. not (turns_at (point_of l.end) (state_of_row l.row) a))) (drop l.start l.conds)
