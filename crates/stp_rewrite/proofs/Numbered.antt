-- Numbered lists, one item more.
use Rattle.std.proofs.Common.{◌≡◌, ℕ, ◌+◌, ◌<◌, ◌≤◌, Bool, true, false, cond, List, [], ◌∷◌, ◌++◌, length, map, filter, drop, get_or, Some, None, refl, sym, ap, ◌∙◌, append_assoc, arith}
use Rattle.std.specs.List.{enumerate_from, sum_by}
use Rattle.std.proofs.lemmas.List.{append-nil, drop_more, drop_all, length-map}
use Rattle.std.proofs.lemmas.List.Sums.{sum_by-cons}
use Rattle.stp_cond.specs.Atoms.{PlainEvent}
use Rattle.stp_frac.specs.Fractions.{Fraction}
use Rattle.stp_task.specs.Actions.{PlainAction, PlainHappening}
use Rattle.stp_task.specs.Tasks.{PlainTimedEvent}
use Rattle.stp_rewriting.specs.Rewritten.{Rewriting, locks}
use Rattle.stp_rewrite.specs.Counts.{cut}
use Rattle.stp_rewrite.specs.Ends.{end_by, is_lock}
use Rattle.stp_rewrite.specs.Refusals.{first_of}
use Rattle.stp_rewrite.proofs.Settling.{locks_are}

module _ {X : Type 0} (k : ℕ) (xs : List X) (i : ℕ) (x : X) (below : i < length xs) (is : get_or xs i x ≡ x) where
  pub numbered_step : enumerate_from (i + k) (drop i xs) ≡ (i + k, x) ∷ enumerate_from (i + 1 + k) (drop (i + 1) xs)
  numbered_step =
      let next : (i + k) + 1 ≡ i + 1 + k = omega arith in
      ap (enumerate_from (i + k)) (drop_more xs i x below) ∙ (ap (λ y. (i + k, y) ∷ enumerate_from ((i + k) + 1) (drop (i + 1) xs)) is ∙ ap (λ n. (i + k, x) ∷ enumerate_from n (drop (i + 1) xs)) next)

  pub counted : (f : ℕ × X → ℕ) (count one now total : ℕ) → one ≡ cut (f (i + k, x)) → now ≡ cut (count + one) → cut (count + sum_by f (enumerate_from (i + k) (drop i xs))) ≡ total → cut (now + sum_by f (enumerate_from (i + 1 + k) (drop (i + 1) xs))) ≡ total
  counted f count one now total e h so_far =
      let step : sum_by f (enumerate_from (i + k) (drop i xs)) ≡ f (i + k, x) + sum_by f (enumerate_from (i + 1 + k) (drop (i + 1) xs))
      = ap (sum_by f) numbered_step ∙ sum_by-cons f (i + k, x) (enumerate_from (i + 1 + k) (drop (i + 1) xs)) in
      omega (arith, e, h, so_far, step)

  pub made_one : {A : Type 0} (g : ℕ × X → A) (made new whole : List A) → new ≡ made ++ g (i + k, x) ∷ [] → made ++ map g (enumerate_from (i + k) (drop i xs)) ≡ whole → new ++ map g (enumerate_from (i + 1 + k) (drop (i + 1) xs)) ≡ whole
  made_one g made new whole e h =
      ap (λ l. l ++ map g (enumerate_from (i + 1 + k) (drop (i + 1) xs))) e
      ∙ (append_assoc made (g (i + k, x) ∷ []) (map g (enumerate_from (i + 1 + k) (drop (i + 1) xs)))
      ∙ (ap (λ l. made ++ map g l) (sym numbered_step) ∙ h))

pub counted_all : {X : Type 0} (k : ℕ) (xs : List X) (i : ℕ) (f : ℕ × X → ℕ) (count total : ℕ) → length xs ≤ i → count ≤ 10000001 → cut (count + sum_by f (enumerate_from (i + k) (drop i xs))) ≡ total → count ≡ total
counted_all k xs i f count total past small so_far =
    let none : sum_by f (enumerate_from (i + k) (drop i xs)) ≡ 0 = ap (λ l. sum_by f (enumerate_from (i + k) l)) (drop_all i xs past) in
    omega (arith, none, small, so_far)

pub made_all : {X A : Type 0} (k : ℕ) (xs : List X) (i : ℕ) (g : ℕ × X → A) (made whole : List A) → length xs ≤ i → made ++ map g (enumerate_from (i + k) (drop i xs)) ≡ whole → made ≡ whole
made_all k xs i g made whole past h = sym (append-nil made) ∙ (ap (λ l. made ++ map g (enumerate_from (i + k) l)) (sym (drop_all i xs past)) ∙ h)

-- ---- the first action that passes

module _ (test : ℕ → PlainAction → Bool) (acts : List PlainAction) (i : ℕ) (a : PlainAction) (below : i < length acts) (is : get_or acts i a ≡ a) where
  pub first_here : (b : Bool) → test (i + 1) a ≡ b → first_of test (enumerate_from (i + 1) (drop i acts)) ≡ cond b (Some (i + 1)) (first_of test (enumerate_from (i + 1 + 1) (drop (i + 1) acts)))
  first_here b e = ap (first_of test) (numbered_step 1 acts i a below is) ∙ ap (λ c. cond c (Some (i + 1)) (first_of test (enumerate_from (i + 1 + 1) (drop (i + 1) acts)))) e

  pub none_here : first_of test (enumerate_from (i + 1) (drop i acts)) ≡ None → (test (i + 1) a ≡ false) × (first_of test (enumerate_from (i + 1 + 1) (drop (i + 1) acts)) ≡ None)
  none_here h = by_test (test (i + 1) a) refl (sym (first_here (test (i + 1) a) refl) ∙ h)
    where
      by_test : (b : Bool) → test (i + 1) a ≡ b → cond b (Some (i + 1)) (first_of test (enumerate_from (i + 1 + 1) (drop (i + 1) acts))) ≡ None → (test (i + 1) a ≡ false) × (first_of test (enumerate_from (i + 1 + 1) (drop (i + 1) acts)) ≡ None)
      by_test true e k = cc
      by_test false e k = (e, k)

-- ---- how many locks there are

pub locks_counted : (r : Rewriting) (key : ℕ) (e : PlainEvent) → length (filter (is_lock key e) (map (end_by r) r.endings)) ≡ length (locks r key e)
locks_counted r key e =
    sym (length-map (filter (is_lock key e) (map (end_by r) r.endings)) (λ o. o.opened))
    ∙ (ap length (locks_are r key e) ∙ length-map (locks r key e) (λ o. r.opened o.key))

abbrev pub timed_with : Fraction → PlainHappening → PlainTimedEvent
timed_with at event = record { at = at; event = event }
