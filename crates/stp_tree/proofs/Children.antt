-- One child of the node that is expanded, by what became of it.
use Rattle.std.proofs.Common.{◌≡◌, ◌<◌, ◌≤◌, ◌+◌, ℕ, Bool, true, false, List, [], ◌∷◌, ◌++◌, length, map, take, get_or, Option, Some, ◌⊎◌, inl, inr, refl, sym, ap, ◌∙◌, subst, arith, Contains, true≢false}
use Rattle.std.proofs.lemmas.List.{length_push, length-take-le, take_more, get_or-take, get_or-map}
use Rattle.std.proofs.lemmas.List.Elements.{Contains-append_left, Contains-push}
use Rattle.stp_tree.specs.Trees.{IsTree, GoesOn}
use Rattle.stp_tree.specs.Rests.{AreRests, AreMet, IsLookedUp}
use Rattle.stp_tree.specs.Rests.IsLookedUp.{Met, Unmet}
use Rattle.stp_tree.specs.Queues.{IsFar, IsReplaced, IsSettled, IsQueue}
use Rattle.stp_tree.specs.Queues.IsSettled.{NoNode, Skipped, Replaced}
use Rattle.stp_tree.proofs.Places.{compare, place_of}
use Rattle.stp_tree.proofs.Steps.{passed, cut_off, pushed, far_full, far_past, reaches_far, reaches_past}

-- the moves up to the next one
pub next_move : {M : Type 0} (moves items : List M) (i : ℕ) (m : M) → items ≡ moves → i < length items → m ≡ get_or items i m → take (i + 1) moves ≡ take i moves ++ m ∷ []
next_move moves items i m same there is =
    subst (λ ms. take (i + 1) ms ≡ take i ms ++ m ∷ []) same (take_more items i m there ∙ ap (λ n. take i items ++ n ∷ []) (sym is))

-- it is none of those before it
pub not_tried : {M : Type 0} (nodes valid skips : List M → Type 0) (moves items : List M) (i : ℕ) (m : M) → IsTree nodes valid skips moves → items ≡ moves → i < length items → m ≡ get_or items i m → Contains (take i moves) m → ⊥
not_tried nodes valid skips moves items i m tree same there is w =
    let l : i < length moves = subst (λ ms. i < length ms) same there in
    let before : w.0 < i = omega (arith, w.1, length-take-le i moves (omega (arith, l))) in
    tree.once w.0 i m before l (sym (get_or-take i moves w.0 m before) ∙ (w.2 ∙ (is ∙ ap (λ ms. get_or ms i m) same)))

-- a look that finds a state new
pub looked_new : {M : Type 0} (state : List M → Option (List Bool)) (c : List M) (old new : List (List Bool)) (b : Bool) → IsLookedUp state c old new b → b ≡ true → (r : List Bool) → Contains new r → Contains old r ⊎ (state c ≡ Some r)
looked_new state c old new b (Met r was is there same) e = absurd (true≢false (sym e ∙ was))
looked_new state c old new b (Unmet is_new among) e = among

-- a look that finds it met
pub looked_met : {M : Type 0} (state : List M → Option (List Bool)) (c : List M) (old new : List (List Bool)) (b : Bool) → IsLookedUp state c old new b → b ≡ false → (r : List Bool) × (state c ≡ Some r) × Contains old r × (new ≡ old)
looked_met state c old new b (Met r was is there same) e = (r, is, there, same)
looked_met state c old new b (Unmet is_new among) e = absurd (true≢false (sym is_new ∙ e))

-- the states that were met once one more node is kept
pub met_more : {M : Type 0} (state : List M → Option (List Bool)) (es : List (List M)) (c : List M) (old new : List (List Bool)) → AreMet state es old → ((r : List Bool) → Contains new r → Contains old r ⊎ (state c ≡ Some r)) → AreMet state (es ++ c ∷ []) new
met_more state es c old new met among r i =
    elim (among r i) [
      | inl before ↦ let w = met r before in (w.0, Contains-append_left es (c ∷ []) w.0 w.1, w.2)
      | inr now ↦ (c, Contains-push es c, now)
    ]

-- at first the root's state alone is met
pub met_root : {M : Type 0} (state : List M → Option (List Bool)) (c : List M) (old new : List (List Bool)) (b : Bool) → old ≡ [] → IsLookedUp state c old new b → AreMet state (c ∷ []) new
met_root {M} state c old new b none (Met r was is there same) = absurd (omega (arith, there.1, ap length none))
met_root {M} state c old new b none (Unmet is_new among) =
    met_more state [] c old new (λ r i. absurd (omega (arith, i.1, ap length none))) among

-- the child is no node, or may be skipped
pub after_none : {M : Type 0} (nodes valid skips : List M → Type 0) (moves : List M) (limit most : ℕ) (cut : Bool) (at : ℕ) (tried : List M) (es : List (List M)) (m : M) (s : List M)
    → IsQueue nodes valid skips moves limit most cut at tried es → get_or es at [] ≡ s → (nodes (s ++ m ∷ []) → ⊥) ⊎ skips (s ++ m ∷ []) → IsQueue nodes valid skips moves limit most cut at (tried ++ m ∷ []) es
after_none {M} nodes valid skips moves limit most cut at tried es m s q parent h =
    passed nodes valid skips moves limit most cut at tried es m q
    (subst (λ (t : List M). IsSettled nodes valid skips limit most cut es (t ++ m ∷ [])) (sym parent) (elim h [ inl none ↦ NoNode none | inr skip ↦ Skipped skip ]))

-- what a search is not to keep is past the limit
pub past_limit : {M : Type 0} (within : List M → Type 0) (limit : ℕ) (c : List M) → ((s : List M) → length s ≤ limit → within s) → (within c → ⊥) → limit < length c
past_limit within limit c short not_within =
    elim (compare limit (length c)) [
      | inl l ↦ l
      | inr l ↦ absurd (not_within (short c l))
    ]

-- the child is past the limit
pub after_past : {M : Type 0} (nodes valid skips within : List M → Type 0) (moves : List M) (limit most : ℕ) (cut : Bool) (at : ℕ) (tried : List M) (es : List (List M)) (m : M) (s : List M)
    → IsTree nodes valid skips moves → ((s : List M) → length s ≤ limit → within s) → at < length es
    → IsQueue nodes valid skips moves limit most cut at tried es → get_or es at [] ≡ s → (within (s ++ m ∷ []) → ⊥) → IsQueue nodes valid skips moves limit most true at (tried ++ m ∷ []) es
after_past {M} nodes valid skips within moves limit most cut at tried es m s tree short there q parent h =
    let past : limit < length (get_or es at [] ++ m ∷ []) = past_limit within limit (get_or es at [] ++ m ∷ []) short (subst (λ (t : List M). within (t ++ m ∷ []) → ⊥) (sym parent) h) in
    cut_off nodes valid skips moves limit most cut at tried es m q (far_past nodes valid limit most (get_or es at [] ++ m ∷ []) past)
    (reaches_past nodes valid skips moves limit most (get_or es at []) tree (omega (arith, past, length_push (get_or es at []) m)) (q.each at there))

-- there is no room for the child
pub after_full : {M : Type 0} (nodes valid skips : List M → Type 0) (moves : List M) (limit most : ℕ) (cut : Bool) (at : ℕ) (tried : List M) (es : List (List M)) (m : M) (s c : List M)
    → IsTree nodes valid skips moves → at < length es → (Contains tried m → ⊥) → most ≤ length es
    → IsQueue nodes valid skips moves limit most cut at tried es → get_or es at [] ≡ s → c ≡ s ++ m ∷ [] → nodes (s ++ m ∷ []) → (valid c → ⊥) → IsQueue nodes valid skips moves limit most true at (tried ++ m ∷ []) es
after_full {M} nodes valid skips moves limit most cut at tried es m s c tree there new full q parent is is_node is_not =
    let d : List M = get_or es at [] ++ m ∷ [] in
    let same : c ≡ get_or es at [] ++ m ∷ [] = is ∙ ap (λ (t : List M). t ++ m ∷ []) (sym parent) in
    let node : nodes (get_or es at [] ++ m ∷ []) = subst (λ (t : List M). nodes (t ++ m ∷ [])) (sym parent) is_node in
    let far = far_full nodes valid skips moves limit most cut at tried es m (get_or es at [] ++ m ∷ []) q there new full refl node (subst (λ (t : List M). valid t → ⊥) same is_not) in
    cut_off nodes valid skips moves limit most cut at tried es m q far (reaches_far nodes valid skips moves limit most (get_or es at [] ++ m ∷ []) tree far node)

-- the child is kept
pub after_new : {M : Type 0} (nodes valid skips : List M → Type 0) (moves : List M) (limit most : ℕ) (cut : Bool) (at : ℕ) (tried : List M) (es : List (List M)) (m : M) (s c : List M)
    → at < length es → (Contains tried m → ⊥) → length es < most
    → IsQueue nodes valid skips moves limit most cut at tried es → get_or es at [] ≡ s → c ≡ s ++ m ∷ [] → nodes (s ++ m ∷ []) → (valid c → ⊥) → IsQueue nodes valid skips moves limit most cut at (tried ++ m ∷ []) (es ++ c ∷ [])
after_new {M} nodes valid skips moves limit most cut at tried es m s c there new room q parent is is_node is_not =
    pushed nodes valid skips moves limit most cut at tried es m c q there new room (is ∙ ap (λ (t : List M). t ++ m ∷ []) (sym parent)) (subst nodes (sym is) is_node) is_not

-- a node with the child's state at rest is kept in its place
pub after_met : {M : Type 0} (nodes valid skips : List M → Type 0) (moves : List M) (limit most : ℕ) (cut : Bool) (at : ℕ) (tried : List M) (es : List (List M)) (m : M) (s c : List M)
    (state : List M → Option (List Bool)) (met : List (List Bool)) (r : List Bool) → AreRests nodes valid state → AreMet state es met → at < length es
    → IsQueue nodes valid skips moves limit most cut at tried es → get_or es at [] ≡ s → c ≡ s ++ m ∷ [] → state c ≡ Some r → Contains met r → IsQueue nodes valid skips moves limit most cut at (tried ++ m ∷ []) es
after_met {M} nodes valid skips moves limit most cut at tried es m s c state met r rests are_met there q parent is at_rest i =
    let w = are_met r i in
    let here : get_or es w.1.0 [] ≡ w.0 = place_of es w.0 [] w.1 in
    let deep : length w.0 ≤ length c = omega (arith, ap length here, q.near w.1.0 there w.1.1, ap length parent, ap length is, length_push s m) in
    passed nodes valid skips moves limit most cut at tried es m q
    (subst (λ (t : List M). IsSettled nodes valid skips limit most cut es t) (is ∙ ap (λ (t : List M). t ++ m ∷ []) (sym parent))
    (Replaced (record { by = w.0; there = w.1; short = deep; goes_on = rests c w.0 r at_rest w.2 (subst nodes here (q.each w.1.0 w.1.1)) })))

-- the parent's list, where nodes are seen by their lists
pub parent_path : {M N : Type 0} (path : N → List M) (nodes : List N) (at : ℕ) (n : N) → at < length nodes → n ≡ get_or nodes at n → get_or (map path nodes) at [] ≡ path n
parent_path path nodes at n there is = get_or-map path nodes at n [] there ∙ ap path (sym is)
