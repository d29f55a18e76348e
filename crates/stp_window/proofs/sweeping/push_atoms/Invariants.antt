-- The mentions so far.
use Rattle.std.proofs.Common.{◌≡◌, ◌++◌, map, take}
use Rattle.stp_window.specs.Sweep.{mention_at}
use Rattle.stp_window.proofs.sweeping.push_atoms.Given as goal

abbrev pub invariant-loop-atom : goal.invariant-loop-atom
invariant-loop-atom l = l.mentions.items ≡ l.fn.mentions.items ++ map (mention_at l.place) (take l.atom-index l.atoms)
