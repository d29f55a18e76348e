-- Counts that are cut.
use Rattle.std.proofs.Common.{◌≡◌, ℕ, zero, suc, ◌+◌, ◌*◌, ◌<◌, ◌≤◌, inl, inr, refl, sym, ap, ◌∙◌, arith, List, [], ◌∷◌, length, map, drop, get_or, Bor}
use Rattle.std.specs.List.{sum_by}
use Rattle.std.proofs.lemmas.Bool.{cases_lt, cases_eq}
use Rattle.std.proofs.lemmas.List.{drop_more, drop_all}
use Rattle.std.proofs.lemmas.List.Sums.{sum_by-cons}
use Rattle.std.proofs.Math.Nat.{mul_assoc, mul-one, mul-zero}
use Rattle.stp_schema.specs.declared.lifted.Lifted.{Lifted}
use Rattle.stp_schema.specs.declared.lifted.Lifted.TheVariants.{And, Or, Every, Any}
use Rattle.stp_schema.specs.Formula.{formula, formulas_of}
use Rattle.stp_schema.proofs.Equations.{formula_and, formula_or, formula_every, formula_any}
use Rattle.stp_problem.specs.Nodes.{bindings, nodes, nodes_of_all, nodes_of_parts}
use Rattle.stp_kept.specs.Counts.{cut}

pub cut_sum : (a b : ℕ) → cut (cut a + b) ≡ cut (a + b)
cut_sum a b = omega arith

pub cut_sums : (a b : ℕ) → cut (a + cut b) ≡ cut (a + b)
cut_sums a b = omega arith

pub cut_small : (a : ℕ) → a ≤ 10000001 → cut a ≡ a
cut_small a h = omega arith

past : (a b : ℕ) → 10000001 ≤ a → 0 < b → 10000001 ≤ a * b
past a zero h some = absurd (omega (arith, some))
past a (suc b) h some = let e : a * suc b ≡ a + a * b = grind arith in omega arith

pub cut_left : (a b : ℕ) → cut (cut a * b) ≡ cut (a * b)
cut_left a b = elim (cases_lt a 10000001) [
  | inl small ↦ ap (λ x. cut (x * b)) (cut_small a (omega arith))
  | inr large ↦ elim (cases_eq b 0) [
    | inl none ↦ ap (λ x. cut (cut a * x)) none ∙ ap cut (mul-zero (cut a) ∙ sym (mul-zero a)) ∙ ap (λ x. cut (a * x)) (sym none)
    | inr some ↦
        let e : cut a ≡ 10000001 = omega arith in
        let p = past (cut a) b (omega arith) (omega arith) in
        let q = past a b large (omega arith) in
        omega arith
  ]
]

swap : (a b : ℕ) → a * b ≡ b * a
swap a b = omega arith

pub cut_right : (a b : ℕ) → cut (a * cut b) ≡ cut (a * b)
cut_right a b = ap cut (swap a (cut b)) ∙ cut_left b a ∙ ap cut (swap b a)

-- ---- one variable more

pub bindings_more : (size : ℕ → ℕ) (kinds : List ℕ) (i count one now : ℕ) → i < length kinds → one ≡ cut (size (get_or kinds i 0)) → now ≡ cut (count * one) → cut (count * bindings size (drop i kinds)) ≡ cut (bindings size kinds) → cut (now * bindings size (drop (i + 1) kinds)) ≡ cut (bindings size kinds)
bindings_more size kinds i count one now h e is so_far =
    let s = size (get_or kinds i 0) in
    let rest = bindings size (drop (i + 1) kinds) in
    ap (λ x. cut (x * rest)) (is ∙ ap (λ y. cut (count * y)) e ∙ cut_right count s)
    ∙ cut_left (count * s) rest
    ∙ ap cut (mul_assoc count s rest)
    ∙ ap (λ l. cut (count * bindings size l)) (sym (drop_more kinds i 0 h))
    ∙ so_far

pub bindings_done : (size : ℕ → ℕ) (kinds : List ℕ) (i count : ℕ) → length kinds ≤ i → count ≤ 10000001 → cut (count * bindings size (drop i kinds)) ≡ cut (bindings size kinds) → count ≡ cut (bindings size kinds)
bindings_done size kinds i count h small so_far =
    sym (cut_small count small)
    ∙ ap cut (sym (mul-one count))
    ∙ ap (λ l. cut (count * bindings size l)) (sym (drop_all i kinds h))
    ∙ so_far

-- ---- one item more

module _ {X : Type 0} (count_of : X → ℕ) where
  pub count_more : (xs : List X) (i : ℕ) (x : X) (count one now total : ℕ) → i < length xs → x ≡ get_or xs i x → one ≡ cut (count_of x) → now ≡ cut (count + one) → cut (count + sum_by count_of (drop i xs)) ≡ total → cut (now + sum_by count_of (drop (i + 1) xs)) ≡ total
  count_more xs i x count one now total h is e f so_far =
      let n = count_of x in
      let rest = sum_by count_of (drop (i + 1) xs) in
      ap (λ k. cut (k + rest)) (f ∙ ap (λ k. cut (count + k)) e ∙ cut_sums count n)
      ∙ cut_sum (count + n) rest
      ∙ ap cut (sums count n rest)
      ∙ ap (λ y. cut (count + (count_of y + rest))) is
      ∙ ap (λ k. cut (count + k)) (sym (sum_by-cons count_of (get_or xs i x) (drop (i + 1) xs)))
      ∙ ap (λ l. cut (count + sum_by count_of l)) (sym (drop_more xs i x h))
      ∙ so_far
    where
      sums : (a b c : ℕ) → (a + b) + c ≡ a + (b + c)
      sums a b c = omega arith

  pub count_done : (xs : List X) (i count total : ℕ) → length xs ≤ i → count ≤ 10000001 → cut (count + sum_by count_of (drop i xs)) ≡ total → count ≡ total
  count_done xs i count total h small so_far =
      sym (cut_small count small) ∙ ap cut (plus_none count) ∙ ap (λ l. cut (count + sum_by count_of l)) (sym (drop_all i xs h)) ∙ so_far
    where
      plus_none : (a : ℕ) → a ≡ a + 0
      plus_none a = omega arith

  pub count_full : (rest : List X) (count total : ℕ) → count ≡ 10000001 → cut (count + sum_by count_of rest) ≡ total → count ≡ total
  count_full rest count total full so_far = let e : cut (count + sum_by count_of rest) ≡ count = omega arith in sym e ∙ so_far

-- ---- conditions

all_nodes : (size : ℕ → ℕ) (conds : List Lifted) → nodes_of_all size (formulas_of (map formula conds)) ≡ sum_by (λ c. nodes size (formula c)) conds
all_nodes size [] = refl
all_nodes size (c ∷ cs) = ap (λ k. nodes size (formula c) + k) (all_nodes size cs) ∙ sym (sum_by-cons (λ d. nodes size (formula d)) c cs)

module _ (size : ℕ → ℕ) (cond : Lifted) where
  pub and_nodes : (parts : Bor (List Lifted)) (inside result : ℕ) → cond ≡ And parts → inside ≡ cut (sum_by (λ c. nodes size (formula c)) parts.now) → result ≡ cut (1 + inside) → result ≡ cut (nodes size (formula cond))
  and_nodes parts inside result is e f =
      f ∙ ap (λ k. cut (1 + k)) e ∙ cut_sums 1 (sum_by (λ c. nodes size (formula c)) parts.now)
      ∙ ap (λ k. cut (1 + k)) (sym (all_nodes size parts.now))
      ∙ ap (λ f. cut (nodes size f)) (sym (ap formula is ∙ formula_and parts))

  pub or_nodes : (parts : Bor (List Lifted)) (inside result : ℕ) → cond ≡ Or parts → inside ≡ cut (sum_by (λ c. nodes size (formula c)) parts.now) → result ≡ cut (1 + inside) → result ≡ cut (nodes size (formula cond))
  or_nodes parts inside result is e f =
      f ∙ ap (λ k. cut (1 + k)) e ∙ cut_sums 1 (sum_by (λ c. nodes size (formula c)) parts.now)
      ∙ ap (λ k. cut (1 + k)) (sym (all_nodes size parts.now))
      ∙ ap (λ f. cut (nodes size f)) (sym (ap formula is ∙ formula_or parts))

  pub parts_nodes : (parts : Bor (List Lifted)) (result : ℕ) → cond ≡ And parts → result ≡ cut (sum_by (λ c. nodes size (formula c)) parts.now) → result ≡ cut (nodes_of_parts size (formula cond))
  parts_nodes parts result is e =
      e ∙ ap cut (sym (all_nodes size parts.now)) ∙ ap (λ f. cut (nodes_of_parts size f)) (sym (ap formula is ∙ formula_and parts))

  quantified : (kinds : List ℕ) (body : Lifted) (result product bound each : ℕ) → result ≡ cut (1 + product) → product ≡ cut (bound * each) → bound ≡ cut (bindings size kinds) → each ≡ cut (nodes size (formula body)) → result ≡ cut (1 + bindings size kinds * nodes size (formula body))
  quantified kinds body result product bound each r p b e =
      let n = nodes size (formula body) in
      r
      ∙ ap (λ x. cut (1 + x)) (p ∙ ap (λ x. cut (x * each)) b ∙ cut_left (bindings size kinds) each ∙ ap (λ x. cut (bindings size kinds * x)) e ∙ cut_right (bindings size kinds) n)
      ∙ cut_sums 1 (bindings size kinds * n)

  pub every_nodes : (kinds : Bor (List ℕ)) (body : Bor Lifted) (result product bound each : ℕ) → cond ≡ Every kinds body → result ≡ cut (1 + product) → product ≡ cut (bound * each) → bound ≡ cut (bindings size kinds.now) → each ≡ cut (nodes size (formula body.now)) → result ≡ cut (nodes size (formula cond))
  every_nodes kinds body result product bound each is r p b e =
      quantified kinds.now body.now result product bound each r p b e ∙ ap (λ f. cut (nodes size f)) (sym (ap formula is ∙ formula_every kinds body))

  pub any_nodes : (kinds : Bor (List ℕ)) (body : Bor Lifted) (result product bound each : ℕ) → cond ≡ Any kinds body → result ≡ cut (1 + product) → product ≡ cut (bound * each) → bound ≡ cut (bindings size kinds.now) → each ≡ cut (nodes size (formula body.now)) → result ≡ cut (nodes size (formula cond))
  any_nodes kinds body result product bound each is r p b e =
      quantified kinds.now body.now result product bound each r p b e ∙ ap (λ f. cut (nodes size f)) (sym (ap formula is ∙ formula_any kinds body))
