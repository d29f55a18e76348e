-- What is said of the expansion of one node.
use Rattle.std.specs.Prelude.{◌<◌, ℕ, Bool, List, length, Option}
use Rattle.stp_tree.specs.Queues.{IsQueue}
use Rattle.stp_tree.specs.Rests.{AreMet}
use Rattle.stp_tree.specs.declared.expanding.Expansion.{Expansion}

-- The expansion of the node at a place has found a valid node, or tried all moves, and says whether the search was cut.
abbrev pub IsExpanded : {M N : Type 0} → (List M → Type 0) → (List M → Type 0) → (List M → Type 0) → (List M → Type 0) → List M → (List M → Option (List Bool)) → (N → List M) → ℕ → ℕ → ℕ → List (List M) → List (List Bool) → Expansion N → Type 0
IsExpanded nodes valid skips within moves state path limit most at es met (Expansion.Valid n) = valid (path n) × within (path n)
IsExpanded nodes valid skips within moves state path limit most at es met (Expansion.Open cut) = (at < length es) × IsQueue nodes valid skips moves limit most cut at moves es × AreMet state es met
