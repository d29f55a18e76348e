-- Trees of lists of moves: each node is the list of the moves that lead to it from the root.
use Rattle.std.specs.Prelude.{◌≡◌, ◌<◌, ◌≤◌, ℕ, List, [], ◌∷◌, ◌++◌, length, slice_index_or, All, Contains}

-- No list stands twice among these.
abbrev pub AreDistinct : {M : Type 0} → List (List M) → Type 0
AreDistinct ss = (j k : ℕ) → j < k → k < length ss → slice_index_or ss j [] ≡ slice_index_or ss k [] → ⊥

-- There are at most so many nodes of fewer than n moves.
abbrev pub AreFew : {M : Type 0} → (List M → Type 0) → ℕ → ℕ → Type 0
AreFew nodes n most = (ss : List (List _)) → AreDistinct ss → All (λ s. nodes s × (length s < n)) ss → length ss ≤ most

-- Where something goes on from the one node, something no longer goes on from the other.
abbrev pub GoesOn : {M : Type 0} → (List M → Type 0) → List M → List M → Type 0
GoesOn valid s t = (u : List _) → valid (s ++ u) → (v : List _) × valid (t ++ v) × (length v ≤ length u)

-- A child that no search may skip, and what goes on from it, no longer than something that went on from a skipped one.
pub record IsSibling {M : Type 0} (valid skips : List M → Type 0) (s : List M) (longest : ℕ) : Type 0 where
  pub move : M
  pub kept : skips (s ++ move ∷ []) → ⊥
  pub after : List M
  pub goes_on : valid ((s ++ move ∷ []) ++ after)
  pub short : length after ≤ longest

-- What makes a tree of lists of moves: which of them are nodes, which nodes are valid, which children a search may skip,
-- and which moves there are.
pub record IsTree {M : Type 0} (nodes valid skips : List M → Type 0) (moves : List M) : Type 0 where
  pub root : nodes []
  pub prefix : (s : List M) (m : M) → nodes (s ++ m ∷ []) → nodes s
  pub valid_node : (s : List M) → valid s → nodes s
  pub listed : (s : List M) (m : M) → nodes (s ++ m ∷ []) → Contains moves m
  pub once : (j k : ℕ) (d : M) → j < k → k < length moves → slice_index_or moves j d ≡ slice_index_or moves k d → ⊥
  -- a skipped child has a sibling that is not skipped, from which no more moves lead to a valid node
  pub skipped : (s : List M) (m : M) (u : List M) → skips (s ++ m ∷ []) → valid ((s ++ m ∷ []) ++ u) → IsSibling valid skips s (length u)
