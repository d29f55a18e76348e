-- What follows where all nodes of a queue are expanded.
use Rattle.std.proofs.Common.{◌≡◌, ◌<◌, ◌≤◌, ◌+◌, ◌-◌, ℕ, zero, suc, Bool, true, false, List, [], ◌∷◌, ◌++◌, length, get_or, ◌⊎◌, inl, inr, refl, sym, ap, ◌∙◌, subst, arith, length-append, append_assoc, All, Contains, true≢false}
use Rattle.std.proofs.lemmas.List.{length_push, append-nil}
use Rattle.stp_tree.specs.Trees.{IsTree, IsSibling, AreDistinct, AreFew, GoesOn}
use Rattle.stp_tree.specs.Queues.{IsFar, Reaches, IsReplaced, IsSettled, IsTried, IsMade, IsQueue}
use Rattle.stp_tree.specs.Queues.IsSettled.{NoNode, Kept, Skipped, Replaced, Dropped}
use Rattle.stp_tree.proofs.Places.{place_of, before_node}

-- the search was cut at a child, from which something goes on to a valid node that is not deeper than this
pub record IsLost {M : Type 0} (nodes valid : List M → Type 0) (limit most : ℕ) (cut : Bool) (depth : ℕ) : Type 0 where
  pub is_cut : cut ≡ true
  pub child : List M
  pub after : List M
  pub far : IsFar nodes valid limit most child
  pub goes_on : valid (child ++ after)
  pub short : length child + length after ≤ depth

-- something so short goes on only from lost nodes
abbrev pub IsLostFrom : {M : Type 0} → (List M → Type 0) → (List M → Type 0) → ℕ → ℕ → Bool → List (List M) → ℕ → Type 0
IsLostFrom nodes valid limit most cut es b =
    (s u : List _) (depth : ℕ) → Contains es s → length u ≤ b → length s + length u ≤ depth → valid (s ++ u) → IsLost nodes valid limit most cut depth

-- what goes on from a settled child that is not skipped
pub from_settled : {M : Type 0} (nodes valid skips : List M → Type 0) (moves : List M) (limit most : ℕ) (cut : Bool) (es : List (List M)) (b : ℕ) → IsTree nodes valid skips moves → IsLostFrom nodes valid limit most cut es b
    → (c u : List M) (depth : ℕ) → IsSettled nodes valid skips limit most cut es c → (skips c → IsLost nodes valid limit most cut depth) → length u ≤ b → length c + length u ≤ depth → valid (c ++ u) → IsLost nodes valid limit most cut depth
from_settled nodes valid skips moves limit most cut es b tree again c u depth (NoNode none) or_skipped le short h = absurd (none (before_node nodes tree.prefix c u (tree.valid_node (c ++ u) h)))
from_settled nodes valid skips moves limit most cut es b tree again c u depth (Kept i) or_skipped le short h = again c u depth i le short h
from_settled nodes valid skips moves limit most cut es b tree again c u depth (Skipped k) or_skipped le short h = or_skipped k
from_settled nodes valid skips moves limit most cut es b tree again c u depth (Replaced r) or_skipped le short h =
    let w = r.goes_on u h in
    again r.by w.0 depth r.there (omega (arith, w.2, le)) (omega (arith, w.2, r.short, short)) w.1
from_settled nodes valid skips moves limit most cut es b tree again c u depth (Dropped is_cut far) or_skipped le short h = record { is_cut = is_cut; child = c; after = u; far = far; goes_on = h; short = short }

-- each child of a node of an ended queue is settled
pub settled_at : {M : Type 0} (nodes valid skips : List M → Type 0) (moves : List M) (limit most : ℕ) (cut : Bool) (at : ℕ) (es : List (List M)) → IsTree nodes valid skips moves → IsQueue nodes valid skips moves limit most cut at [] es → length es ≤ at
    → (s : List M) (m : M) (u : List M) → Contains es s → valid ((s ++ m ∷ []) ++ u) → IsSettled nodes valid skips limit most cut es (s ++ m ∷ [])
settled_at {M} nodes valid skips moves limit most cut at es tree q ended s m u i h =
    let is_node = before_node nodes tree.prefix (s ++ m ∷ []) u (tree.valid_node ((s ++ m ∷ []) ++ u) h) in
    subst (λ (t : List M). IsSettled nodes valid skips limit most cut es (t ++ m ∷ [])) (place_of es s [] i) (q.settled i.0 m i.1 (tree.listed s m is_node) (inl (omega (arith, i.1, ended))))

-- what goes on from a node was lost
pub lost_from : {M : Type 0} (nodes valid skips : List M → Type 0) (moves : List M) (limit most : ℕ) (cut : Bool) (at : ℕ) (es : List (List M)) → IsTree nodes valid skips moves → IsQueue nodes valid skips moves limit most cut at [] es → length es ≤ at
    → (b : ℕ) → IsLostFrom nodes valid limit most cut es b
lost_from nodes valid skips moves limit most cut at es tree q ended b s [] depth i le short h =
    absurd (q.unmet i.0 i.1 (subst valid (append-nil s ∙ sym (place_of es s [] i)) h))
lost_from nodes valid skips moves limit most cut at es tree q ended zero s (m ∷ u) depth i le short h = absurd (omega (arith, le))
lost_from nodes valid skips moves limit most cut at es tree q ended (suc b) s (m ∷ u) depth i le short h =
    let again = lost_from nodes valid skips moves limit most cut at es tree q ended b in
    let on : valid ((s ++ m ∷ []) ++ u) = subst valid (sym (append_assoc s (m ∷ []) u)) h in
    from_settled nodes valid skips moves limit most cut es b tree again (s ++ m ∷ []) u depth (settled_at nodes valid skips moves limit most cut at es tree q ended s m u i on)
    (λ skip.
    let o = tree.skipped s m u skip on in
    from_settled nodes valid skips moves limit most cut es b tree again (s ++ o.move ∷ []) o.after depth (settled_at nodes valid skips moves limit most cut at es tree q ended s o.move o.after i o.goes_on)
    (λ k. absurd (o.kept k)) (omega (arith, le, o.short)) (omega (arith, short, o.short, length_push s o.move)) o.goes_on)
    (omega (arith, le)) (omega (arith, short, length_push s m)) on

-- each valid node was lost
pub lost : {M : Type 0} (nodes valid skips : List M → Type 0) (moves : List M) (limit most : ℕ) (cut : Bool) (at : ℕ) (es : List (List M)) → IsTree nodes valid skips moves → IsQueue nodes valid skips moves limit most cut at [] es → length es ≤ at
    → (s : List M) → valid s → IsLost nodes valid limit most cut (length s)
lost nodes valid skips moves limit most cut at es tree q ended s h = lost_from nodes valid skips moves limit most cut at es tree q ended (length s) [] s (length s) q.first (omega arith) (omega arith) h

-- where the search was not cut there is none
pub exhausted : {M : Type 0} (nodes valid skips : List M → Type 0) (moves : List M) (limit most at : ℕ) (es : List (List M)) → IsTree nodes valid skips moves → IsQueue nodes valid skips moves limit most false at [] es → length es ≤ at
    → (s : List M) → valid s → ⊥
exhausted nodes valid skips moves limit most at es tree q ended s h = true≢false (sym (lost nodes valid skips moves limit most false at es tree q ended s h).is_cut)

-- nothing goes on from a far node to one that is as short as a depth before which there are few nodes
pub none_lost : {M : Type 0} (nodes valid : List M → Type 0) (limit most : ℕ) (n : ℕ) → n ≤ limit → AreFew nodes n most → (c u : List M) → IsFar nodes valid limit most c → length c + length u ≤ n → valid (c ++ u) → ⊥
none_lost nodes valid limit most n le few c [] far short h = far.unmet (omega (arith, short, le)) (subst valid (append-nil c) h)
none_lost nodes valid limit most n le few c (m ∷ u) far short h = absurd (omega (arith, far.deep n le few, short))

-- where it was cut, what was promised is kept
pub spent : {M : Type 0} (nodes valid skips : List M → Type 0) (moves : List M) (limit most at : ℕ) (es : List (List M)) → IsTree nodes valid skips moves → IsQueue nodes valid skips moves limit most true at [] es → length es ≤ at
    → (n : ℕ) → n ≤ limit → AreFew nodes n most → ((s : List M) → valid s → length s ≤ n → ⊥) × ((s : List M) × nodes s × (length s ≡ n))
spent nodes valid skips moves limit most at es tree q ended n le few = (
  (λ s h short.
      let w = lost nodes valid skips moves limit most true at es tree q ended s h in
      none_lost nodes valid limit most n le few w.child w.after w.far (omega (arith, w.short, short)) w.goes_on),
  q.reached refl n le few,
)

-- before the first depth that counts there is no node
pub few_none : {M : Type 0} (nodes : List M → Type 0) (n : ℕ) → nodes [] → AreFew nodes n 0 → n ≡ 0
few_none nodes zero root few = refl
few_none nodes (suc n) root few =
    absurd (omega (arith, few ([] ∷ []) (λ j k less l _. omega (arith, less, l)) (λ k d l. alone k d l)))
  where
    alone : (k : ℕ) (d : List _) → k < 1 → nodes (get_or ([] ∷ []) k d) × (length (get_or ([] ∷ []) k d) < suc n)
    alone zero d l = (root, omega arith)
    alone (suc k) d l = absurd (omega (arith, l))

-- an empty list is the only one without moves
pub no_moves : {M : Type 0} (valid : List M → Type 0) → (valid [] → ⊥) → (s : List M) → valid s → length s ≤ 0 → ⊥
no_moves valid none [] h short = none h
no_moves valid none (m ∷ s) h short = absurd (omega (arith, short))

-- a search that may expand nothing
pub spent_at_once : {M : Type 0} (nodes valid : List M → Type 0) (limit : ℕ) → nodes [] → (valid [] → ⊥)
    → (n : ℕ) → n ≤ limit → AreFew nodes n 0 → ((s : List M) → valid s → length s ≤ n → ⊥) × ((s : List M) × nodes s × (length s ≡ n))
spent_at_once nodes valid limit root none n le few =
    let e = few_none nodes n root few in
    ((λ s h short. no_moves valid none s h (omega (arith, e, short))), ([], root, sym e))

-- the same where that number is given
pub spent_unused : {M : Type 0} (nodes valid : List M → Type 0) (limit most : ℕ) → most ≡ 0 → nodes [] → (valid [] → ⊥)
    → (n : ℕ) → n ≤ limit → AreFew nodes n most → ((s : List M) → valid s → length s ≤ n → ⊥) × ((s : List M) × nodes s × (length s ≡ n))
spent_unused nodes valid limit most none root not_valid n le few = spent_at_once nodes valid limit root not_valid n le (subst (AreFew nodes n) none few)
