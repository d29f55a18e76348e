-- Lists of moves by place, and nodes on the way to a node.
use Rattle.std.proofs.Common.{◌≡◌, ◌<◌, ◌≤◌, ◌+◌, ℕ, zero, suc, List, [], ◌∷◌, ◌++◌, length, get_or, Bool, false, true≢false, ◌⊎◌, inl, inr, refl, sym, ap, ◌∙◌, subst, arith, length-append, append_assoc, Contains}
use Rattle.std.specs.Bool.{IsTrue}
use Rattle.std.proofs.lemmas.List.{length_push, append-nil, get_or_default}

pub compare : (m n : ℕ) → (m < n) ⊎ (n ≤ m)
compare m n = grind arith

-- a place in a list with one more is one before, or the last
pub one_more_place : {X : Type 0} (xs : List X) (x : X) (k : ℕ) → k < length (xs ++ x ∷ []) → (k < length xs) ⊎ (k ≡ length xs)
one_more_place xs x k h =
    elim (compare k (length xs)) [
      | inl l ↦ inl l
      | inr l ↦ inr (omega (arith, length_push xs x))
    ]

-- a member stands at a place
pub place_of : {X : Type 0} (xs : List X) (x d : X) (i : Contains xs x) → get_or xs i.0 d ≡ x
place_of xs x d i = sym (get_or_default xs i.0 x d i.1) ∙ i.2

-- a list is empty or has a last
pub last_of : {X : Type 0} (s : List X) → (s ≡ []) ⊎ ((t : List X) × (x : X) × (s ≡ t ++ x ∷ []))
last_of [] = inl refl
last_of (y ∷ s) =
    elim (last_of s) [
      | inl e ↦ inr ([], y, ap (λ r. y ∷ r) e)
      | inr w ↦ inr (y ∷ w.0, w.1, ap (λ r. y ∷ r) w.2)
    ]

-- what stands before a node is a node
pub before_node : {M : Type 0} (nodes : List M → Type 0) → ((s : List M) (m : M) → nodes (s ++ m ∷ []) → nodes s) → (s u : List M) → nodes (s ++ u) → nodes s
before_node nodes prefix s [] h = subst nodes (append-nil s) h
before_node nodes prefix s (m ∷ u) h = prefix s m (before_node nodes prefix (s ++ m ∷ []) u (subst nodes (sym (append_assoc s (m ∷ []) u)) h))

-- on the way to a node there is one of each depth up to its own
pub node_at : {M : Type 0} (nodes : List M → Type 0) → ((s : List M) (m : M) → nodes (s ++ m ∷ []) → nodes s) → (k : ℕ) (s : List M) (n : ℕ) → nodes s → length s ≡ n + k → (t : List M) × nodes t × (length t ≡ n)
node_at nodes prefix zero s n h e = (s, h, omega (arith, e))
node_at nodes prefix (suc k) s n h e =
    elim (last_of s) [
      | inl none ↦ absurd (omega (arith, e, ap length none))
      | inr w ↦ node_at nodes prefix k w.0 n (prefix w.0 w.1 (subst nodes w.2 h)) (omega (arith, e, ap length w.2, length_push w.0 w.1))
    ]

-- a test that answers false is not true
pub is_false : (b : Bool) → b ≡ false → IsTrue b → ⊥
is_false b e h = true≢false (sym h ∙ e)
