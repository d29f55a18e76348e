-- Folding keeps which truth values a formula may have.
use Rattle.std.proofs.Common.{◌≡◌, Bool, true, false, not, ◌&&◌, ◌||◌, cond, List, [], ◌∷◌, refl, sym, ap, ◌∙◌, true≢false}
use Rattle.std.specs.List.{list_any, filter}
use Rattle.stp_cond.specs.declared.known.Three.TheVariants.{Unknown}
use Rattle.stp_cond.specs.Formulas.{Formula, Formulas, Always, Never, Atomic, Negation, Conjunction, Disjunction, NoMore, More, formulas_of}
use Rattle.stp_cond.specs.Folded.{is_always, is_never, together, folded, folded_all, folded_not}
use Rattle.stp_task.specs.Certificates.{Pair, may_be, all_may_be, some_may_be}

always_is : (f : Formula) → is_always f ≡ true → f ≡ Always
always_is Always e = refl
always_is Never e = absurd (true≢false (sym e))
always_is (Atomic atom) e = absurd (true≢false (sym e))
always_is (Negation part) e = absurd (true≢false (sym e))
always_is (Conjunction parts) e = absurd (true≢false (sym e))
always_is (Disjunction parts) e = absurd (true≢false (sym e))

never_is : (f : Formula) → is_never f ≡ true → f ≡ Never
never_is Never e = refl
never_is Always e = absurd (true≢false (sym e))
never_is (Atomic atom) e = absurd (true≢false (sym e))
never_is (Negation part) e = absurd (true≢false (sym e))
never_is (Conjunction parts) e = absurd (true≢false (sym e))
never_is (Disjunction parts) e = absurd (true≢false (sym e))

and_true : (b : Bool) → (b && true) ≡ b
and_true true = refl
and_true false = refl

or_false : (b : Bool) → (b || false) ≡ b
or_false true = refl
or_false false = refl

module _ (q : Pair) (v : Bool) where
  -- whether all of these may have the value, or some of them
  abbrev alls : List Formula → Bool
  alls fs = all_may_be q v (formulas_of fs)

  abbrev somes : List Formula → Bool
  somes fs = some_may_be q v (formulas_of fs)

  -- ---- a member decides

  all_decided : (stop : Formula → Bool) → ((f : Formula) → stop f ≡ true → may_be q v f ≡ false) → (fs : List Formula) → list_any stop fs ≡ true → alls fs ≡ false
  all_decided stop h [] e = absurd (true≢false (sym e))
  all_decided stop h (f ∷ fs) e = at (stop f) (may_be q v f) (alls fs) (list_any stop fs) (h f) (all_decided stop h fs) e
    where
      at : (stopped here rest later : Bool) → (stopped ≡ true → here ≡ false) → (later ≡ true → rest ≡ false) → (stopped || later) ≡ true → (here && rest) ≡ false
      at stopped false rest later h k e = refl
      at true true rest later h k e = absurd (true≢false (h refl))
      at false true rest later h k e = k e

  some_decided : (stop : Formula → Bool) → ((f : Formula) → stop f ≡ true → may_be q v f ≡ true) → (fs : List Formula) → list_any stop fs ≡ true → somes fs ≡ true
  some_decided stop h [] e = absurd (true≢false (sym e))
  some_decided stop h (f ∷ fs) e = at (stop f) (may_be q v f) (somes fs) (list_any stop fs) (h f) (some_decided stop h fs) e
    where
      at : (stopped here rest later : Bool) → (stopped ≡ true → here ≡ true) → (later ≡ true → rest ≡ true) → (stopped || later) ≡ true → (here || rest) ≡ true
      at stopped true rest later h k e = refl
      at true false rest later h k e = absurd (true≢false (sym (h refl)))
      at false false rest later h k e = k e

  -- ---- members that say nothing

  all_left : (drop : Formula → Bool) → ((f : Formula) → drop f ≡ true → may_be q v f ≡ true) → (fs : List Formula) → alls (filter (λ f. not (drop f)) fs) ≡ alls fs
  all_left drop h [] = refl
  all_left drop h (f ∷ fs) = at f (filter (λ f. not (drop f)) fs) (drop f) (h f) ∙ ap (λ b. may_be q v f && b) (all_left drop h fs)
    where
      at : (f : Formula) (rest : List Formula) (dropped : Bool) → (dropped ≡ true → may_be q v f ≡ true) → alls (cond (not dropped) (f ∷ rest) rest) ≡ (may_be q v f && alls rest)
      at f rest true h = ap (λ b. b && alls rest) (sym (h refl))
      at f rest false h = refl

  some_left : (drop : Formula → Bool) → ((f : Formula) → drop f ≡ true → may_be q v f ≡ false) → (fs : List Formula) → somes (filter (λ f. not (drop f)) fs) ≡ somes fs
  some_left drop h [] = refl
  some_left drop h (f ∷ fs) = at f (filter (λ f. not (drop f)) fs) (drop f) (h f) ∙ ap (λ b. may_be q v f || b) (some_left drop h fs)
    where
      at : (f : Formula) (rest : List Formula) (dropped : Bool) → (dropped ≡ true → may_be q v f ≡ false) → somes (cond (not dropped) (f ∷ rest) rest) ≡ (may_be q v f || somes rest)
      at f rest true h = ap (λ b. b || somes rest) (sym (h refl))
      at f rest false h = refl

  -- ---- members in one formula

  all_together : (none : Formula) (all : Formulas → Formula) → may_be q v none ≡ true → ((parts : Formulas) → may_be q v (all parts) ≡ all_may_be q v parts) → (fs : List Formula) → may_be q v (together none all fs) ≡ alls fs
  all_together none all n h [] = n
  all_together none all n h (f ∷ []) = sym (and_true (may_be q v f))
  all_together none all n h (f ∷ g ∷ fs) = h (formulas_of (f ∷ g ∷ fs))

  some_together : (none : Formula) (all : Formulas → Formula) → may_be q v none ≡ false → ((parts : Formulas) → may_be q v (all parts) ≡ some_may_be q v parts) → (fs : List Formula) → may_be q v (together none all fs) ≡ somes fs
  some_together none all n h [] = n
  some_together none all n h (f ∷ []) = sym (or_false (may_be q v f))
  some_together none all n h (f ∷ g ∷ fs) = h (formulas_of (f ∷ g ∷ fs))

module _ (q : Pair) where
  always_so : (f : Formula) → is_always f ≡ true → may_be q true f ≡ true
  always_so f e = ap (may_be q true) (always_is f e)

  always_not : (f : Formula) → is_always f ≡ true → may_be q false f ≡ false
  always_not f e = ap (may_be q false) (always_is f e)

  never_so : (f : Formula) → is_never f ≡ true → may_be q true f ≡ false
  never_so f e = ap (may_be q true) (never_is f e)

  never_not : (f : Formula) → is_never f ≡ true → may_be q false f ≡ true
  never_not f e = ap (may_be q false) (never_is f e)

  not_folded : (v : Bool) (f : Formula) → may_be q v (folded_not f) ≡ may_be q (not v) f
  not_folded true Always = refl
  not_folded false Always = refl
  not_folded true Never = refl
  not_folded false Never = refl
  not_folded true (Atomic atom) = refl
  not_folded false (Atomic atom) = refl
  not_folded true (Negation part) = refl
  not_folded false (Negation part) = refl
  not_folded true (Conjunction parts) = refl
  not_folded false (Conjunction parts) = refl
  not_folded true (Disjunction parts) = refl
  not_folded false (Disjunction parts) = refl

  -- ---- conjunctions and disjunctions

  and_true_at : (fs : List Formula) (some : Bool) → list_any is_never fs ≡ some → may_be q true (cond some Never (together Always Conjunction (filter (λ f. not (is_always f)) fs))) ≡ alls q true fs
  and_true_at fs true e = sym (all_decided q true is_never never_so fs e)
  and_true_at fs false e = all_together q true Always Conjunction refl (λ parts. refl) (filter (λ f. not (is_always f)) fs) ∙ all_left q true is_always always_so fs

  and_false_at : (fs : List Formula) (some : Bool) → list_any is_never fs ≡ some → may_be q false (cond some Never (together Always Conjunction (filter (λ f. not (is_always f)) fs))) ≡ somes q false fs
  and_false_at fs true e = sym (some_decided q false is_never never_not fs e)
  and_false_at fs false e = some_together q false Always Conjunction refl (λ parts. refl) (filter (λ f. not (is_always f)) fs) ∙ some_left q false is_always always_not fs

  or_true_at : (fs : List Formula) (some : Bool) → list_any is_always fs ≡ some → may_be q true (cond some Always (together Never Disjunction (filter (λ f. not (is_never f)) fs))) ≡ somes q true fs
  or_true_at fs true e = sym (some_decided q true is_always always_so fs e)
  or_true_at fs false e = some_together q true Never Disjunction refl (λ parts. refl) (filter (λ f. not (is_never f)) fs) ∙ some_left q true is_never never_so fs

  or_false_at : (fs : List Formula) (some : Bool) → list_any is_always fs ≡ some → may_be q false (cond some Always (together Never Disjunction (filter (λ f. not (is_never f)) fs))) ≡ alls q false fs
  or_false_at fs true e = sym (all_decided q false is_always always_not fs e)
  or_false_at fs false e = all_together q false Never Disjunction refl (λ parts. refl) (filter (λ f. not (is_never f)) fs) ∙ all_left q false is_never never_not fs

  mutual
    pub folding_keeps : (v : Bool) (f : Formula) → may_be q v (folded (λ atom. Unknown) f) ≡ may_be q v f
    folding_keeps true Always = refl
    folding_keeps false Always = refl
    folding_keeps true Never = refl
    folding_keeps false Never = refl
    folding_keeps true (Atomic atom) = refl
    folding_keeps false (Atomic atom) = refl
    folding_keeps true (Negation part) = not_folded true (folded (λ atom. Unknown) part) ∙ folding_keeps false part
    folding_keeps false (Negation part) = not_folded false (folded (λ atom. Unknown) part) ∙ folding_keeps true part
    folding_keeps true (Conjunction parts) = let fs = folded_all (λ atom. Unknown) parts in and_true_at fs (list_any is_never fs) refl ∙ all_kept true parts
    folding_keeps false (Conjunction parts) = let fs = folded_all (λ atom. Unknown) parts in and_false_at fs (list_any is_never fs) refl ∙ some_kept false parts
    folding_keeps true (Disjunction parts) = let fs = folded_all (λ atom. Unknown) parts in or_true_at fs (list_any is_always fs) refl ∙ some_kept true parts
    folding_keeps false (Disjunction parts) = let fs = folded_all (λ atom. Unknown) parts in or_false_at fs (list_any is_always fs) refl ∙ all_kept false parts

    all_kept : (v : Bool) (parts : Formulas) → alls q v (folded_all (λ atom. Unknown) parts) ≡ all_may_be q v parts
    all_kept v NoMore = refl
    all_kept v (More part parts) =
        ap (λ b. b && alls q v (folded_all (λ atom. Unknown) parts)) (folding_keeps v part)
        ∙ ap (λ b. may_be q v part && b) (all_kept v parts)

    some_kept : (v : Bool) (parts : Formulas) → somes q v (folded_all (λ atom. Unknown) parts) ≡ some_may_be q v parts
    some_kept v NoMore = refl
    some_kept v (More part parts) =
        ap (λ b. b || somes q v (folded_all (λ atom. Unknown) parts)) (folding_keeps v part)
        ∙ ap (λ b. may_be q v part || b) (some_kept v parts)
