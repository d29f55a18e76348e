-- What is said of a child, and of a search.
use Rattle.std.specs.Prelude.{◌≡◌, ◌⊎◌, ◌<◌, ◌≤◌, ℕ, Bool, List, [], ◌∷◌, ◌++◌, length, map, Option}
use Rattle.stp_tree.specs.Trees.{AreFew}
use Rattle.stp_tree.specs.declared.space.Child.{Child}
use Rattle.stp_tree.specs.declared.answer.Answer.{Answer}

-- What became of the child of a node by a move: there is none, or it may be skipped; it is not within the limit; or it is this node.
abbrev pub IsChild : {M N : Type 0} → (List M → Type 0) → (List M → Type 0) → (List M → Type 0) → (N → List M) → List M → M → Child N → Type 0
IsChild nodes skips within path s m Child.No = (nodes (s ++ m ∷ []) → ⊥) ⊎ skips (s ++ m ∷ [])
IsChild nodes skips within path s m Child.Past = within (s ++ m ∷ []) → ⊥
IsChild nodes skips within path s m (Child.Node n) = (path n ≡ s ++ m ∷ []) × nodes (s ++ m ∷ []) × within (s ++ m ∷ [])

-- Something holds of the child, if there is one.
abbrev pub IfChild : {N : Type 0} → Child N → (N → Type 0) → Type 0
IfChild Child.No P = Unit {0}
IfChild Child.Past P = Unit {0}
IfChild (Child.Node n) P = P n

-- What a search that may expand so many nodes answers: a valid node within the limit; that there is no valid node; or, for
-- each depth up to the limit before which there are at most so many nodes, that no valid node is as short, and a node is as deep.
abbrev pub IsAnswer : {M N : Type 0} → (List M → Type 0) → (List M → Type 0) → (List M → Type 0) → (N → List M) → ℕ → ℕ → Answer N → Type 0
IsAnswer nodes valid within path limit most (Answer.Valid n) = valid (path n) × within (path n)
IsAnswer nodes valid within path limit most Answer.Exhausted = (s : List _) → valid s → ⊥
IsAnswer nodes valid within path limit most Answer.Spent =
    (n : ℕ) → n ≤ limit → AreFew nodes n most → ((s : List _) → valid s → length s ≤ n → ⊥) × ((s : List _) × nodes s × (length s ≡ n))

-- An answer that looked at the root alone: it, or that nothing may be spent.
abbrev pub IsOfRoot : {M N : Type 0} → (N → List M) → Answer N → Type 0
IsOfRoot path (Answer.Valid n) = path n ≡ []
IsOfRoot path Answer.Exhausted = ⊥
IsOfRoot path Answer.Spent = Unit {0}
