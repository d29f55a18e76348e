-- Counts that are cut.
use Rattle.std.proofs.Common.{◌≡◌, ℕ, suc, ◌+◌, ◌-◌, ◌<◌, ◌≤◌, ◌||◌, Bool, true, false, cond, refl, sym, ap, ◌∙◌, arith, List, [], ◌∷◌, length, map, drop, get_or, Bor}
use Rattle.std.specs.List.{list_any, sum_by, range_with_len}
use Rattle.std.proofs.lemmas.List.{drop_more, drop_all}
use Rattle.std.proofs.lemmas.List.Sums.{sum_by-cons}
use Rattle.stp_cond.specs.declared.cond.Cond.{Cond}
use Rattle.stp_cond.specs.declared.cond.Cond.TheVariants.{And, Or}
use Rattle.stp_cond.specs.Formulas.{view, formulas_of}
use Rattle.stp_cond.proofs.Viewing.{view_and, view_or}
use Rattle.stp_expand.specs.Expanded.{is_consistent, picked}
use Rattle.stp_expand.specs.Footprints.{PlainFootprint, has_too_many}
use Rattle.stp_expand.proofs.Parts.{many_in_parts}
use Rattle.stp_rewrite.specs.Counts.{cut, expanded_nodes, expanded_nodes_all, nodes_at, set_nodes, nodes_from, nodes_in, nodes_in_all}

pub cut_small : (a : ℕ) → a ≤ 10000001 → cut a ≡ a
cut_small a h = omega arith

module _ {X : Type 0} (f : X → ℕ) where
  -- one item more
  pub count_next : (xs : List X) (i : ℕ) (d : X) (count one now total : ℕ) → i < length xs → one ≡ cut (f (get_or xs i d)) → now ≡ cut (count + one) → cut (count + sum_by f (drop i xs)) ≡ total → cut (now + sum_by f (drop (i + 1) xs)) ≡ total
  count_next xs i d count one now total h e k so_far =
      let step : sum_by f (drop i xs) ≡ f (get_or xs i d) + sum_by f (drop (i + 1) xs) = ap (sum_by f) (drop_more xs i d h) ∙ sum_by-cons f (get_or xs i d) (drop (i + 1) xs) in
      omega (arith, e, k, so_far, step)

  -- all items
  pub count_done : (xs : List X) (i count total : ℕ) → length xs ≤ i → count ≤ 10000001 → cut (count + sum_by f (drop i xs)) ≡ total → count ≡ total
  count_done xs i count total h small so_far =
      let none : sum_by f (drop i xs) ≡ 0 = ap (sum_by f) (drop_all i xs h) in
      omega (arith, none, small, so_far)

-- ---- nodes of formulas

all_nodes : (cs : List Cond) → nodes_in_all (formulas_of (map view cs)) ≡ sum_by (λ c. nodes_in (view c)) cs
all_nodes [] = refl
all_nodes (c ∷ cs) = ap (λ k. nodes_in (view c) + k) (all_nodes cs) ∙ sym (sum_by-cons (λ d. nodes_in (view d)) c cs)

pub and_nodes : (cond : Cond) (parts : Bor (List Cond)) → cond ≡ And parts → cut (1 + sum_by (λ c. nodes_in (view c)) parts.now) ≡ cut (nodes_in (view cond))
and_nodes cond parts is = ap (λ k. cut (1 + k)) (sym (all_nodes parts.now)) ∙ ap (λ f. cut (nodes_in f)) (sym (ap view is ∙ view_and parts))

pub or_nodes : (cond : Cond) (parts : Bor (List Cond)) → cond ≡ Or parts → cut (1 + sum_by (λ c. nodes_in (view c)) parts.now) ≡ cut (nodes_in (view cond))
or_nodes cond parts is = ap (λ k. cut (1 + k)) (sym (all_nodes parts.now)) ∙ ap (λ f. cut (nodes_in f)) (sym (ap view is ∙ view_or parts))

-- ---- nodes of expansions

all_expanded : (ends : List PlainFootprint) (cs : List Cond) → expanded_nodes_all ends (formulas_of (map view cs)) ≡ sum_by (λ c. expanded_nodes ends (view c)) cs
all_expanded ends [] = refl
all_expanded ends (c ∷ cs) = ap (λ k. expanded_nodes ends (view c) + k) (all_expanded ends cs) ∙ sym (sum_by-cons (λ d. expanded_nodes ends (view d)) c cs)

pub expanded_of_parts : (ends : List PlainFootprint) (cond : Cond) (parts : Bor (List Cond)) → cond ≡ And parts → cut (1 + sum_by (λ c. expanded_nodes ends (view c)) parts.now) ≡ cut (expanded_nodes ends (view cond))
expanded_of_parts ends cond parts is = ap (λ k. cut (1 + k)) (sym (all_expanded ends parts.now)) ∙ ap (λ f. cut (expanded_nodes ends f)) (sym (ap view is ∙ view_and parts))

pub many_of_parts : (ends : List PlainFootprint) (cond : Cond) (parts : Bor (List Cond)) → cond ≡ And parts → has_too_many ends (view cond) ≡ list_any (λ c. has_too_many ends (view c)) parts.now
many_of_parts ends cond parts is = ap (has_too_many ends) (ap view is ∙ view_and parts) ∙ many_in_parts ends parts.now

pub any_more : {X : Type 0} (p : X → Bool) (xs : List X) (i : ℕ) (d : X) → i < length xs → list_any p (drop i xs) ≡ (p (get_or xs i d) || list_any p (drop (i + 1) xs))
any_more p xs i d h = ap (list_any p) (drop_more xs i d h)

pub first_false : (b c : Bool) → (b || c) ≡ false → b ≡ false
first_false true c h = cc
first_false false c h = refl

pub rest_false : (b c : Bool) → (b || c) ≡ false → c ≡ false
rest_false true c h = cc
rest_false false c h = h

-- ---- nodes of sets by their numbers

pub set_next : (n : ℕ) (ps : List PlainFootprint) (number end count one now total : ℕ) → number < end → one ≡ cut (nodes_at n ps number) → now ≡ cut (count + one) →
    cut (count + nodes_from n ps number (end - number)) ≡ total → cut (now + nodes_from n ps (number + 1) (end - (number + 1))) ≡ total
set_next n ps number end count one now total below e k so_far =
    let d : end - number ≡ suc (end - (number + 1)) = omega (arith, below) in
    let step : nodes_from n ps number (end - number) ≡ nodes_at n ps number + nodes_from n ps (number + 1) (end - (number + 1))
    = ap (λ m. nodes_from n ps number m) d ∙ sum_by-cons (nodes_at n ps) number (range_with_len (number + 1) (end - (number + 1))) in
    omega (arith, e, k, so_far, step)

pub sets_done : (n : ℕ) (ps : List PlainFootprint) (number end count total : ℕ) → end ≤ number → count ≤ 10000001 → cut (count + nodes_from n ps number (end - number)) ≡ total → count ≡ total
sets_done n ps number end count total past small so_far =
    let z : end - number ≡ 0 = omega (arith, past) in
    let none : nodes_from n ps number (end - number) ≡ 0 = ap (λ m. nodes_from n ps number m) z in
    omega (arith, none, small, so_far)

pub at_used : (n : ℕ) (ps : List PlainFootprint) (number : ℕ) → is_consistent (picked ps number) ≡ true → set_nodes n (picked ps number) ≡ nodes_at n ps number
at_used n ps number h = ap (λ b. cond b (set_nodes n (picked ps number)) 0) (sym h)

pub at_unused : (n : ℕ) (ps : List PlainFootprint) (number : ℕ) → is_consistent (picked ps number) ≡ false → 0 ≡ nodes_at n ps number
at_unused n ps number h = ap (λ b. cond b (set_nodes n (picked ps number)) 0) (sym h)
