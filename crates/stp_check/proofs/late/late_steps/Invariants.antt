-- The step, and those so far that have not ended.
use Rattle.std.proofs.Common.{◌≡◌, ◌∷◌, not, map, filter, take}
use Rattle.stp_cond.specs.Atoms.{has}
use Rattle.stp_check.specs.Late.{numbers_of}
use Rattle.stp_check.proofs.late.late_steps.Given as goal

abbrev pub invariant-loop-end : goal.invariant-loop-end
invariant-loop-end l = numbers_of l.late ≡ l.number ∷ filter (λ n. not (has l.ended n)) (map (λ w. w.step) (take l.end-index l.ends))
