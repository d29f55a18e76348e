use Rattle.std.proofs.Common.{◌≡◌, ◌≤◌, length, take}
use Rattle.stp_tests_network.proofs.small.answered.Given as goal

-- the points stay, and constraints come behind those that there were
abbrev pub invariant-loop-code : goal.invariant-loop-code
invariant-loop-code l =
    (l.network.points ≡ l.fn.network.points)
    × (length l.fn.network.constraints ≤ length l.network.constraints)
    × (take (length l.fn.network.constraints) l.network.constraints ≡ l.fn.network.constraints)
