-- Nodes of the members of a condition, one after the other.
use Rattle.std.proofs.Common.{◌≡◌, ℕ, ◌+◌, ◌*◌, ◌<◌, ◌≤◌, ◌⊎◌, inl, inr, sym, ap, ◌∙◌, arith, List, length, map, drop, get_or, Bor}
use Rattle.std.proofs.lemmas.List.{drop_more, drop_all}
use Rattle.stp_schema.specs.declared.lifted.Lifted.{Lifted}
use Rattle.stp_schema.specs.declared.lifted.Lifted.TheVariants.{Every, Any}
use Rattle.stp_schema.specs.Formula.{formula, formulas_of}
use Rattle.stp_schema.proofs.Equations.{formula_every, formula_any}
use Rattle.stp_problem.specs.Nodes.{nodes, nodes_of_all, bindings, cut}
use Rattle.stp_problem.proofs.Cuts.{cut_sum, cut_sums, cut_small, cut_left, cut_right}

-- the nodes of all these conditions
abbrev pub nodes_of_each : (ℕ → ℕ) → List Lifted → ℕ
nodes_of_each size members = nodes_of_all size (formulas_of (map formula members))

pub members_more : (size : ℕ → ℕ) (total : ℕ) (members : List Lifted) (i : ℕ) (member : Lifted) (count now : ℕ) → i < length members → get_or members i member ≡ member → now ≡ cut (count + cut (nodes size (formula member))) → cut (count + nodes_of_each size (drop i members)) ≡ total → cut (now + nodes_of_each size (drop (i + 1) members)) ≡ total
members_more size total members i member count now h here is so_far =
    let n = nodes size (formula member) in
    let rest = nodes_of_each size (drop (i + 1) members) in
    ap (λ x. cut (x + rest)) (is ∙ cut_sums count n)
    ∙ cut_sum (count + n) rest
    ∙ ap cut (sums count n rest)
    ∙ ap (λ m. cut (count + (nodes size (formula m) + rest))) (sym here)
    ∙ ap (λ l. cut (count + nodes_of_each size l)) (sym (drop_more members i member h))
    ∙ so_far
  where
    sums : (a b c : ℕ) → (a + b) + c ≡ a + (b + c)
    sums a b c = omega arith

pub members_done : (size : ℕ → ℕ) (total : ℕ) (members : List Lifted) (i count : ℕ) → length members ≤ i → count ≤ 10001 → cut (count + nodes_of_each size (drop i members)) ≡ total → count ≡ total
members_done size total members i count h small so_far =
    sym (cut_small count small)
    ∙ ap cut (plus_none count)
    ∙ ap (λ l. cut (count + nodes_of_each size l)) (sym (drop_all i members h))
    ∙ so_far
  where
    plus_none : (a : ℕ) → a ≡ a + 0
    plus_none a = omega arith

-- ---- quantifiers

quantified : (size : ℕ → ℕ) (kinds : List ℕ) (body : Lifted) (result product bound each : ℕ) → result ≡ cut (1 + product) → product ≡ cut (bound * each) → bound ≡ cut (bindings size kinds) → each ≡ cut (nodes size (formula body)) → result ≡ cut (1 + bindings size kinds * nodes size (formula body))
quantified size kinds body result product bound each r p b e =
    let n = nodes size (formula body) in
    r
    ∙ ap (λ x. cut (1 + x)) (p ∙ ap (λ x. cut (x * each)) b ∙ cut_left (bindings size kinds) each ∙ ap (λ x. cut (bindings size kinds * x)) e ∙ cut_right (bindings size kinds) n)
    ∙ cut_sums 1 (bindings size kinds * n)

pub quantified_nodes : (size : ℕ → ℕ) (cond : Lifted) (kinds : Bor (List ℕ)) (body : Bor Lifted) (result product bound each : ℕ) → (cond ≡ Every kinds body) ⊎ (cond ≡ Any kinds body) → result ≡ cut (1 + product) → product ≡ cut (bound * each) → bound ≡ cut (bindings size kinds.now) → each ≡ cut (nodes size (formula body.now)) → result ≡ cut (nodes size (formula cond))
quantified_nodes size cond kinds body result product bound each is r p b e =
    quantified size kinds.now body.now result product bound each r p b e ∙ elim is [
      | inl every ↦ ap (λ f. cut (nodes size f)) (sym (ap formula every ∙ formula_every kinds body))
      | inr any ↦ ap (λ f. cut (nodes size f)) (sym (ap formula any ∙ formula_any kinds body))
    ]
