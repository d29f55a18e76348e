-- Nodes that are expanded one after another, and what became of their children.
use Rattle.std.specs.Prelude.{◌≡◌, ◌⊎◌, ◌<◌, ◌≤◌, ◌+◌, ℕ, Bool, true, List, [], ◌∷◌, ◌++◌, length, slice_index_or, Contains}
use Rattle.stp_tree.specs.Trees.{AreDistinct, AreFew, GoesOn}

-- A list is as deep as each depth up to the limit before which there are few nodes, and not valid within the limit.
pub record IsFar {M : Type 0} (nodes valid : List M → Type 0) (limit most : ℕ) (c : List M) : Type 0 where
  pub deep : (n : ℕ) → n ≤ limit → AreFew nodes n most → n ≤ length c
  pub unmet : length c ≤ limit → valid c → ⊥

-- For each depth up to the limit before which there are few nodes there is a node.
abbrev pub Reaches : {M : Type 0} → (List M → Type 0) → ℕ → ℕ → Type 0
Reaches nodes limit most = (n : ℕ) → n ≤ limit → AreFew nodes n most → (s : List _) × nodes s × (length s ≡ n)

-- One of these nodes, no deeper than a list, from which something no longer goes on.
pub record IsReplaced {M : Type 0} (valid : List M → Type 0) (es : List (List M)) (c : List M) : Type 0 where
  pub by : List M
  pub there : Contains es by
  pub short : length by ≤ length c
  pub goes_on : GoesOn valid c by

-- What became of a child: it is no node, is kept, may be skipped, another is kept in its place, or the search was cut there.
pub data IsSettled {M : Type 0} (nodes valid skips : List M → Type 0) (limit most : ℕ) (cut : Bool) (es : List (List M)) (c : List M) : Type 0 where
  NoNode : (nodes c → ⊥) → IsSettled nodes valid skips limit most cut es c
  Kept : Contains es c → IsSettled nodes valid skips limit most cut es c
  Skipped : skips c → IsSettled nodes valid skips limit most cut es c
  Replaced : IsReplaced valid es c → IsSettled nodes valid skips limit most cut es c
  Dropped : cut ≡ true → IsFar nodes valid limit most c → IsSettled nodes valid skips limit most cut es c

-- The child by a move of the node at a place was tried: that of each place before this one, and at this one by these moves.
abbrev pub IsTried : {M : Type 0} → ℕ → List M → ℕ → M → Type 0
IsTried at tried j m = (j < at) ⊎ ((j ≡ at) × Contains tried m)

-- A list is a child that was tried.
pub record IsMade {M : Type 0} (at : ℕ) (tried : List M) (es : List (List M)) (s : List M) : Type 0 where
  pub place : ℕ
  pub move : M
  pub within : place < length es
  pub is_tried : IsTried at tried place move
  pub is : s ≡ slice_index_or es place [] ++ move ∷ []

-- The nodes that are kept, in order of depth. Those before a place are expanded; of the one there these moves were tried.
pub record IsQueue {M : Type 0} (nodes valid skips : List M → Type 0) (moves : List M) (limit most : ℕ) (cut : Bool) (at : ℕ) (tried : List M) (es : List (List M)) : Type 0 where
  pub each : (k : ℕ) → k < length es → nodes (slice_index_or es k [])
  pub unmet : (k : ℕ) → k < length es → valid (slice_index_or es k []) → ⊥
  pub few : length es ≤ most
  pub first : Contains es []
  pub sorted : (j k : ℕ) → j ≤ k → k < length es → length (slice_index_or es j []) ≤ length (slice_index_or es k [])
  pub near : (k : ℕ) → at < length es → k < length es → length (slice_index_or es k []) ≤ length (slice_index_or es at []) + 1
  pub made : (k : ℕ) → k < length es → (slice_index_or es k [] ≡ []) ⊎ IsMade at tried es (slice_index_or es k [])
  pub distinct : AreDistinct es
  pub reached : cut ≡ true → Reaches nodes limit most
  pub settled : (j : ℕ) (m : M) → j < length es → Contains moves m → IsTried at tried j m → IsSettled nodes valid skips limit most cut es (slice_index_or es j [] ++ m ∷ [])
