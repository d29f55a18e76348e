-- The moments of a run are on its grid.
use Rattle.std.proofs.Common.{◌≤◌, All}
use Rattle.std.proofs.Math.Logic.{∥∥₁_elim}
use Rattle.std.proofs.Props.{props}
use Rattle.stp_base.specs.declared.limits.TheConstants.{MAX_GRID}
use Rattle.stp_happen.specs.declared.run.Run.{Run}
use Rattle.stp_report.specs.Bounds.{IsGrid, IsTime}

grid_low : (run : Run) → 1 ≤ run.grid
grid_low run = ∥∥₁_elim run.sound (Prim.hlevel props) (λ s. s.grid_low)

grid_high : (run : Run) → run.grid ≤ MAX_GRID
grid_high run = ∥∥₁_elim run.sound (Prim.hlevel props) (λ s. s.grid_high)

pub run_grid : (run : Run) → IsGrid run.grid
run_grid run = record { low = grid_low run; high = grid_high run }

pub run_times : (run : Run) → All (λ e. IsTime run.grid e.time) run.entries
run_times run = ∥∥₁_elim run.sound (Prim.hlevel props) (λ s k d h. (s.entries_in_range k d h).time)
