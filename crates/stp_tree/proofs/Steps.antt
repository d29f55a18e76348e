-- One move tried at the place of a queue, and the next place.
use Rattle.std.proofs.Common.{◌≡◌, ◌<◌, ◌≤◌, ◌+◌, ◌-◌, ℕ, zero, suc, Bool, true, List, [], ◌∷◌, ◌++◌, length, get_or, ◌⊎◌, inl, inr, refl, sym, ap, ◌∙◌, subst, arith, All, Contains}
use Rattle.std.proofs.lemmas.List.{length_push, get_or_append_left, get_or_push, same_from_push}
use Rattle.std.proofs.lemmas.List.Elements.{All-from_get_or, Contains-append_left, Contains-push, Contains-push_cases}
use Rattle.stp_tree.specs.Trees.{IsTree, AreDistinct, AreFew, GoesOn}
use Rattle.stp_tree.specs.Queues.{IsFar, Reaches, IsReplaced, IsSettled, IsTried, IsMade, IsQueue}
use Rattle.stp_tree.specs.Queues.IsSettled.{NoNode, Kept, Skipped, Replaced, Dropped}
use Rattle.stp_tree.proofs.Places.{compare, one_more_place, place_of, node_at}

-- what was tried is tried, and the move besides
pub tried_more : {M : Type 0} (at : ℕ) (tried : List M) (m : M) (j : ℕ) (n : M) → IsTried at tried j n → IsTried at (tried ++ m ∷ []) j n
tried_more at tried m j n (inl l) = inl l
tried_more at tried m j n (inr w) = inr (w.0, Contains-append_left tried (m ∷ []) n w.1)

-- what is settled stays so with one more node
pub settled_more : {M : Type 0} (nodes valid skips : List M → Type 0) (limit most : ℕ) (cut : Bool) (es : List (List M)) (e c : List M) → IsSettled nodes valid skips limit most cut es c → IsSettled nodes valid skips limit most cut (es ++ e ∷ []) c
settled_more nodes valid skips limit most cut es e c (NoNode h) = NoNode h
settled_more nodes valid skips limit most cut es e c (Kept i) = Kept (Contains-append_left es (e ∷ []) c i)
settled_more nodes valid skips limit most cut es e c (Skipped h) = Skipped h
settled_more nodes valid skips limit most cut es e c (Replaced r) = Replaced (record { by = r.by; there = Contains-append_left es (e ∷ []) r.by r.there; short = r.short; goes_on = r.goes_on })
settled_more nodes valid skips limit most cut es e c (Dropped h far) = Dropped h far

-- and so it does once the search is cut
pub settled_cut : {M : Type 0} (nodes valid skips : List M → Type 0) (limit most : ℕ) (cut : Bool) (es : List (List M)) (c : List M) → IsSettled nodes valid skips limit most cut es c → IsSettled nodes valid skips limit most true es c
settled_cut nodes valid skips limit most cut es c (NoNode h) = NoNode h
settled_cut nodes valid skips limit most cut es c (Kept i) = Kept i
settled_cut nodes valid skips limit most cut es c (Skipped h) = Skipped h
settled_cut nodes valid skips limit most cut es c (Replaced r) = Replaced r
settled_cut nodes valid skips limit most cut es c (Dropped h far) = Dropped refl far

-- one more move was tried, and nothing changed but what is said of its child
pub passed : {M : Type 0} (nodes valid skips : List M → Type 0) (moves : List M) (limit most : ℕ) (cut : Bool) (at : ℕ) (tried : List M) (es : List (List M)) (m : M)
    → IsQueue nodes valid skips moves limit most cut at tried es → IsSettled nodes valid skips limit most cut es (get_or es at [] ++ m ∷ []) → IsQueue nodes valid skips moves limit most cut at (tried ++ m ∷ []) es
passed nodes valid skips moves limit most cut at tried es m q now =
    record {
      each = q.each;
      unmet = q.unmet;
      few = q.few;
      first = q.first;
      sorted = q.sorted;
      near = q.near;
      made = λ k l. elim (q.made k l) [
        | inl e ↦ inl e
        | inr w ↦ inr (record { place = w.place; move = w.move; within = w.within; is_tried = tried_more at tried m w.place w.move w.is_tried; is = w.is })
      ];
      distinct = q.distinct;
      reached = q.reached;
      settled = λ j n l i t. by_try j n l i t;
    }
  where
    by_move : (j : ℕ) (n : _) → j < length es → Contains moves n → j ≡ at → (Contains tried n ⊎ (m ≡ n)) → IsSettled nodes valid skips limit most cut es (get_or es j [] ++ n ∷ [])
    by_move j n l i e (inl t) = q.settled j n l i (inr (e, t))
    by_move j n l i e (inr s) = subst (λ k. IsSettled nodes valid skips limit most cut es (get_or es k [] ++ n ∷ [])) (sym e) (subst (λ o. IsSettled nodes valid skips limit most cut es (get_or es at [] ++ o ∷ [])) s now)

    by_try : (j : ℕ) (n : _) → j < length es → Contains moves n → IsTried at (tried ++ m ∷ []) j n → IsSettled nodes valid skips limit most cut es (get_or es j [] ++ n ∷ [])
    by_try j n l i (inl t) = q.settled j n l i (inl t)
    by_try j n l i (inr w) = by_move j n l i w.0 (Contains-push_cases tried m n w.1)

-- the search is cut at the child of one more move
pub cut_off : {M : Type 0} (nodes valid skips : List M → Type 0) (moves : List M) (limit most : ℕ) (cut : Bool) (at : ℕ) (tried : List M) (es : List (List M)) (m : M)
    → IsQueue nodes valid skips moves limit most cut at tried es → IsFar nodes valid limit most (get_or es at [] ++ m ∷ []) → Reaches nodes limit most → IsQueue nodes valid skips moves limit most true at (tried ++ m ∷ []) es
cut_off nodes valid skips moves limit most cut at tried es m q far reaches =
    passed nodes valid skips moves limit most true at tried es m
    (record {
      each = q.each;
      unmet = q.unmet;
      few = q.few;
      first = q.first;
      sorted = q.sorted;
      near = q.near;
      made = q.made;
      distinct = q.distinct;
      reached = λ _. reaches;
      settled = λ j n l i t. settled_cut nodes valid skips limit most cut es (get_or es j [] ++ n ∷ []) (q.settled j n l i t);
    })
    (Dropped refl far)

-- the child of a move that was not tried is none of the nodes
pub is_fresh : {M : Type 0} (nodes valid skips : List M → Type 0) (moves : List M) (limit most : ℕ) (cut : Bool) (at : ℕ) (tried : List M) (es : List (List M)) (m : M)
    → IsQueue nodes valid skips moves limit most cut at tried es → at < length es → (Contains tried m → ⊥) → (k : ℕ) → k < length es → get_or es k [] ≡ get_or es at [] ++ m ∷ [] → ⊥
is_fresh nodes valid skips moves limit most cut at tried es m q there new k l e = by_made (q.made k l)
  where
    by_place : (p : ℕ) (o : _) → p < length es → get_or es p [] ≡ get_or es at [] → o ≡ m → IsTried at tried p o → ⊥
    by_place p o within same is (inl t) = q.distinct p at t there same
    by_place p o within same is (inr w) = new (subst (Contains tried) is w.1)

    by_made : (get_or es k [] ≡ []) ⊎ IsMade at tried es (get_or es k []) → ⊥
    by_made (inl none) = absurd (omega (arith, ap length (sym none ∙ e), length_push (get_or es at []) m))
    by_made (inr w) =
        let same = same_from_push (get_or es w.place []) (get_or es at []) w.move m (sym w.is ∙ e) in
        by_place w.place w.move w.within same.0 same.1 w.is_tried

-- no list stands twice among distinct lists and another one
pub distinct_more : {M : Type 0} (es : List (List M)) (c : List M) → AreDistinct es → ((k : ℕ) → k < length es → get_or es k [] ≡ c → ⊥) → AreDistinct (es ++ c ∷ [])
distinct_more es c apart other j k less l e =
    elim (one_more_place es c k l) [
      | inl before ↦ apart j k less before (sym (get_or_append_left es (c ∷ []) [] j (omega (arith, less, before))) ∙ (e ∙ get_or_append_left es (c ∷ []) [] k before))
      | inr last ↦ other j (omega (arith, less, last)) (sym (get_or_append_left es (c ∷ []) [] j (omega (arith, less, last))) ∙ (e ∙ get_or_push es c [] k (sym last)))
    ]

-- one more fact of each list
pub each_more : {M : Type 0} (P : List M → Type 0) (es : List (List M)) (c : List M) → ((k : ℕ) → k < length es → P (get_or es k [])) → P c → (k : ℕ) → k < length (es ++ c ∷ []) → P (get_or (es ++ c ∷ []) k [])
each_more P es c all h k l =
    elim (one_more_place es c k l) [
      | inl before ↦ subst P (sym (get_or_append_left es (c ∷ []) [] k before)) (all k before)
      | inr last ↦ subst P (sym (get_or_push es c [] k (sym last))) h
    ]

-- a child that was made stays so with one more node and one more move tried
pub made_more : {M : Type 0} (at : ℕ) (tried : List M) (m : M) (es : List (List M)) (c s : List M) → (s ≡ []) ⊎ IsMade at tried es s → (s ≡ []) ⊎ IsMade at (tried ++ m ∷ []) (es ++ c ∷ []) s
made_more at tried m es c s (inl e) = inl e
made_more at tried m es c s (inr w) =
    inr (record {
      place = w.place;
      move = w.move;
      within = omega (arith, w.within, length_push es c);
      is_tried = tried_more at tried m w.place w.move w.is_tried;
      is = subst (λ p. s ≡ p ++ w.move ∷ []) (sym (get_or_append_left es (c ∷ []) [] w.place w.within)) w.is;
    })

-- a child is kept
pub pushed : {M : Type 0} (nodes valid skips : List M → Type 0) (moves : List M) (limit most : ℕ) (cut : Bool) (at : ℕ) (tried : List M) (es : List (List M)) (m : M) (c : List M)
    → IsQueue nodes valid skips moves limit most cut at tried es → at < length es → (Contains tried m → ⊥) → length es < most
    → c ≡ get_or es at [] ++ m ∷ [] → nodes c → (valid c → ⊥) → IsQueue nodes valid skips moves limit most cut at (tried ++ m ∷ []) (es ++ c ∷ [])
pushed {M} nodes valid skips moves limit most cut at tried es m c q there new room is is_node is_not =
    record {
      each = each_more nodes es c q.each is_node;
      unmet = each_more (λ s. valid s → ⊥) es c q.unmet is_not;
      few = omega (arith, length_push es c, room);
      first = Contains-append_left es (c ∷ []) [] q.first;
      sorted = λ j k le l. in_order j k le l (one_more_place es c k l);
      near = λ k _ l. omega (arith, deep k l, ap length (left at there));
      made = λ k l. by_place k (one_more_place es c k l);
      distinct = distinct_more es c q.distinct (λ k l e. is_fresh nodes valid skips moves limit most cut at tried es m q there new k l (e ∙ is));
      reached = q.reached;
      settled = λ j n l i t. by_try j n (one_more_place es c j l) i t;
    }
  where
    left : (k : ℕ) → k < length es → get_or (es ++ c ∷ []) k [] ≡ get_or es k []
    left k l = get_or_append_left es (c ∷ []) [] k l

    right : (k : ℕ) → k ≡ length es → get_or (es ++ c ∷ []) k [] ≡ c
    right k e = get_or_push es c [] k (sym e)

    size : length c ≡ length (get_or es at []) + 1
    size = ap length is ∙ length_push (get_or es at []) m

    deep : (k : ℕ) → k < length (es ++ c ∷ []) → length (get_or (es ++ c ∷ []) k []) ≤ length (get_or es at []) + 1
    deep = each_more (λ s. length s ≤ length (get_or es at []) + 1) es c (λ k l. q.near k there l) (omega (arith, size))

    in_order : (j k : ℕ) → j ≤ k → k < length (es ++ c ∷ []) → (k < length es) ⊎ (k ≡ length es) → length (get_or (es ++ c ∷ []) j []) ≤ length (get_or (es ++ c ∷ []) k [])
    in_order j k le l (inl before) = omega (arith, q.sorted j k le before, ap length (left j (omega (arith, le, before))), ap length (left k before))
    in_order j k le l (inr last) = omega (arith, deep j (omega (arith, le, l)), ap length (right k last), size)

    by_place : (k : ℕ) → (k < length es) ⊎ (k ≡ length es) → (get_or (es ++ c ∷ []) k [] ≡ []) ⊎ IsMade at (tried ++ m ∷ []) (es ++ c ∷ []) (get_or (es ++ c ∷ []) k [])
    by_place k (inl before) = subst (λ s. (s ≡ []) ⊎ IsMade at (tried ++ m ∷ []) (es ++ c ∷ []) s) (sym (left k before)) (made_more at tried m es c (get_or es k []) (q.made k before))
    by_place k (inr last) =
        inr (record {
          place = at;
          move = m;
          within = omega (arith, there, length_push es c);
          is_tried = inr (refl, Contains-push tried m);
          is = right k last ∙ (is ∙ ap (λ (s : List M). s ++ m ∷ []) (sym (left at there)));
        })

    old_child : (j : ℕ) (n : M) → j < length es → IsSettled nodes valid skips limit most cut es (get_or es j [] ++ n ∷ []) → IsSettled nodes valid skips limit most cut (es ++ c ∷ []) (get_or (es ++ c ∷ []) j [] ++ n ∷ [])
    old_child j n l h =
        subst (λ (s : List M). IsSettled nodes valid skips limit most cut (es ++ c ∷ []) (s ++ n ∷ [])) (sym (left j l)) (settled_more nodes valid skips limit most cut es c (get_or es j [] ++ n ∷ []) h)

    by_move : (j : ℕ) (n : M) → j < length es → Contains moves n → j ≡ at → (Contains tried n ⊎ (m ≡ n)) → IsSettled nodes valid skips limit most cut (es ++ c ∷ []) (get_or (es ++ c ∷ []) j [] ++ n ∷ [])
    by_move j n l i e (inl t) = old_child j n l (q.settled j n l i (inr (e, t)))
    by_move j n l i e (inr s) =
        let same : get_or (es ++ c ∷ []) j [] ++ n ∷ [] ≡ c = ap (λ (t : List M). t ++ n ∷ []) (left j l ∙ ap (λ k. get_or es k []) e) ∙ (ap (λ o. get_or es at [] ++ o ∷ []) (sym s) ∙ sym is) in
        Kept (subst (Contains (es ++ c ∷ [])) (sym same) (Contains-push es c))

    by_try : (j : ℕ) (n : M) → (j < length es) ⊎ (j ≡ length es) → Contains moves n → IsTried at (tried ++ m ∷ []) j n → IsSettled nodes valid skips limit most cut (es ++ c ∷ []) (get_or (es ++ c ∷ []) j [] ++ n ∷ [])
    by_try j n (inl l) i (inl t) = old_child j n l (q.settled j n l i (inl t))
    by_try j n (inl l) i (inr w) = by_move j n l i w.0 (Contains-push_cases tried m n w.1)
    by_try j n (inr last) i (inl t) = absurd (omega (arith, last, t, there))
    by_try j n (inr last) i (inr w) = absurd (omega (arith, last, w.0, there))

-- all moves of a place were tried, and the next place comes
pub next_place : {M : Type 0} (nodes valid skips : List M → Type 0) (moves : List M) (limit most : ℕ) (cut : Bool) (at : ℕ) (es : List (List M))
    → IsQueue nodes valid skips moves limit most cut at moves es → at < length es → IsQueue nodes valid skips moves limit most cut (at + 1) [] es
next_place nodes valid skips moves limit most cut at es q there =
    record {
      each = q.each;
      unmet = q.unmet;
      few = q.few;
      first = q.first;
      sorted = q.sorted;
      near = λ k next l. omega (arith, q.near k there l, q.sorted at (at + 1) (omega arith) next);
      made = λ k l. elim (q.made k l) [
        | inl e ↦ inl e
        | inr w ↦ inr (record { place = w.place; move = w.move; within = w.within; is_tried = inl (before w.place w.move w.is_tried); is = w.is })
      ];
      distinct = q.distinct;
      reached = q.reached;
      settled = λ j n l i t. q.settled j n l i (tried_before j n i t);
    }
  where
    before : (j : ℕ) (n : _) → IsTried at moves j n → j < at + 1
    before j n (inl l) = omega (arith, l)
    before j n (inr w) = omega (arith, w.0)

    there_or_before : (j : ℕ) → j < at + 1 → (j < at) ⊎ (j ≡ at)
    there_or_before j l = grind (arith, l)

    tried_before : (j : ℕ) (n : _) → Contains moves n → IsTried (at + 1) [] j n → IsTried at moves j n
    tried_before j n i (inl l) = elim (there_or_before j l) [ inl less ↦ inl less | inr e ↦ inr (e, i) ]
    tried_before j n i (inr w) = absurd (omega (arith, w.1.1))

-- at a full queue a child that is none of its nodes is deep
pub far_full : {M : Type 0} (nodes valid skips : List M → Type 0) (moves : List M) (limit most : ℕ) (cut : Bool) (at : ℕ) (tried : List M) (es : List (List M)) (m : M) (c : List M)
    → IsQueue nodes valid skips moves limit most cut at tried es → at < length es → (Contains tried m → ⊥) → most ≤ length es
    → c ≡ get_or es at [] ++ m ∷ [] → nodes c → (valid c → ⊥) → IsFar nodes valid limit most c
far_full {M} nodes valid skips moves limit most cut at tried es m c q there new full is is_node is_not =
    record { deep = λ n _ few. deep n few (compare (length c) n); unmet = λ _. is_not }
  where
    size : length c ≡ length (get_or es at []) + 1
    size = ap length is ∙ length_push (get_or es at []) m

    apart : AreDistinct (es ++ c ∷ [])
    apart = distinct_more es c q.distinct (λ k l e. is_fresh nodes valid skips moves limit most cut at tried es m q there new k l (e ∙ is))

    all : (n : ℕ) → length c < n → All (λ s. nodes s × (length s < n)) (es ++ c ∷ [])
    all n less = All-from_get_or (λ s. nodes s × (length s < n)) (es ++ c ∷ []) []
        (each_more (λ s. nodes s × (length s < n)) es c (λ k l. (q.each k l, omega (arith, q.near k there l, size, less))) (is_node, less))

    deep : (n : ℕ) → AreFew nodes n most → (length c < n) ⊎ (n ≤ length c) → n ≤ length c
    deep n few (inl less) = absurd (omega (arith, few (es ++ c ∷ []) apart (all n less), length_push es c, full))
    deep n few (inr le) = le

-- so there are nodes as deep as any depth before which there are few
pub reaches_far : {M : Type 0} (nodes valid skips : List M → Type 0) (moves : List M) (limit most : ℕ) (c : List M)
    → IsTree nodes valid skips moves → IsFar nodes valid limit most c → nodes c → Reaches nodes limit most
reaches_far nodes valid skips moves limit most c tree far is_node n le few =
    node_at nodes tree.prefix (length c - n) c n is_node (omega (arith, far.deep n le few))

-- a child past the limit is deep
pub far_past : {M : Type 0} (nodes valid : List M → Type 0) (limit most : ℕ) (c : List M) → limit < length c → IsFar nodes valid limit most c
far_past nodes valid limit most c past = record { deep = λ n le _. omega (arith, le, past); unmet = λ le _. omega (arith, le, past) }

-- and its parent is as deep as the limit
pub reaches_past : {M : Type 0} (nodes valid skips : List M → Type 0) (moves : List M) (limit most : ℕ) (s : List M)
    → IsTree nodes valid skips moves → limit ≤ length s → nodes s → Reaches nodes limit most
reaches_past nodes valid skips moves limit most s tree long is_node n le few =
    node_at nodes tree.prefix (length s - n) s n is_node (omega (arith, le, long))
