-- What leads to a type once one type more has passed its objects on.
use Rattle.std.proofs.Common.{◌≡◌, ◌≢◌, ℕ, zero, suc, ◌+◌, ◌<◌, ◌≤◌, inl, inr, Bool, true, false, cond, if◌then◌else◌, List, length, refl, sym, ap, ◌∙◌, arith}
use Rattle.std.specs.Prelude.{◌==◌}
use Rattle.std.proofs.lemmas.Bool.{cases_eq, eq-eqb, ne_eqb, eqb-true, false≢true}
use Rattle.stp_types.specs.declared.row.Ancestry.{Ancestry}
use Rattle.stp_types.specs.Forest.{parent_of, climbs}
use Rattle.stp_types.specs.Rows.{AreAncestries, parents_of, depth_of}
use Rattle.stp_types.proofs.Asking.{at_root, depth_parent, within}
use Rattle.stp_problem.specs.Passing.{leads}
use Rattle.stp_problem.proofs.Counts.{one}

same_or_no : (b : Bool) → (if b then true else false) ≡ b
same_or_no true = refl
same_or_no false = refl

-- where a type does not pass on
pub stays : (parents : List ℕ) (f : ℕ → Bool) (n x t : ℕ) → f x ≡ false → leads parents f n x t ≡ (x == t)
stays parents f zero x t e = refl
stays parents f (suc n) x t e = ap (λ b. if x == t then true else (if b then leads parents f n (parent_of parents x) t else false)) e ∙ same_or_no (x == t)

from_root : (parents : List ℕ) (n t : ℕ) → parent_of parents 0 ≡ 0 → climbs parents n 0 t ≡ (0 == t)
from_root parents zero t root = refl
from_root parents (suc n) t root = ap (λ b. if 0 == t then true else b) (ap (λ k. climbs parents n k t) root ∙ from_root parents n t root) ∙ either (0 == t)
  where
    either : (b : Bool) → (if b then true else b) ≡ b
    either true = refl
    either false = refl

-- where all types but the root pass on
pub all_pass : (parents : List ℕ) (f : ℕ → Bool) (n x t : ℕ) → parent_of parents 0 ≡ 0 → f 0 ≡ false → ((k : ℕ) → k ≢ 0 → f k ≡ true) → leads parents f n x t ≡ climbs parents n x t
all_pass parents f zero x t root none all = refl
all_pass parents f (suc n) x t root none all = elim (cases_eq x 0) [
  | inl z ↦ stays parents f (suc n) x t (ap f z ∙ none) ∙ ap (λ k. k == t) z ∙ sym (from_root parents (suc n) t root) ∙ ap (λ k. climbs parents (suc n) k t) (sym z)
  | inr child ↦
      ap (λ b. if x == t then true else (if b then leads parents f n (parent_of parents x) t else false)) (all x child)
      ∙ ap (λ b. if x == t then true else b) (all_pass parents f n (parent_of parents x) t root none all)
]

-- at the type that passes on
at_it : (here up : Bool) → (here ≡ true → up ≡ false) → one (if here then true else up) ≡ one here + cond up 1 0
at_it true true apart = absurd (false≢true (sym (apart refl)))
at_it true false apart = refl
at_it false true apart = refl
at_it false false apart = refl

-- at another type
at_other : (here up on q p k : Bool) → (on ≡ true → here ≡ true → up ≡ false) → one q ≡ one p + cond up (one k) 0 → one (if here then true else (if on then q else false)) ≡ one (if here then true else (if on then p else false)) + cond up (one (if on then k else false)) 0
at_other true true true q p k apart e = absurd (false≢true (sym (apart refl refl)))
at_other true true false q p k apart e = refl
at_other true false on q p k apart e = refl
at_other false up true q p k apart e = e
at_other false true false q p k apart e = refl
at_other false false false q p k apart e = refl

-- one type more passes on, whose parent does not
module _ (rows : List Ancestry) (a : AreAncestries rows) (p q : ℕ → Bool) (k : ℕ) (there : k < length rows) (child : k ≢ 0) (was : p k ≡ false) (now : q k ≡ true) (same : (x : ℕ) → x ≢ k → q x ≡ p x) (waits : p (parent_of (parents_of rows) k) ≡ false) where
  parent_apart : parent_of (parents_of rows) k ≢ k
  parent_apart e =
      let d = depth_parent rows a k there in
      let f = ap (depth_of rows) e in
      elim (cases_eq (depth_of rows k) 0) [
        | inl z ↦ child (at_root rows a k there z)
        | inr deep ↦ omega (arith, d, f)
      ]

  up_is : ℕ → Bool
  up_is t = parent_of (parents_of rows) k == t

  pub leads_more : (n x t : ℕ) → x < length rows → depth_of rows x ≤ n → one (leads (parents_of rows) q n x t) ≡ one (leads (parents_of rows) p n x t) + cond (parent_of (parents_of rows) k == t) (one (leads (parents_of rows) p n x k)) 0
  leads_more zero x t h deep =
      let z = at_root rows a x h (omega arith) in
      let e : (x == k) ≡ false = ne_eqb x k (λ s. child (sym s ∙ z)) in
      rw e (none (one (x == t)) (parent_of (parents_of rows) k == t))
    where
      none : (n : ℕ) (b : Bool) → n ≡ n + cond b 0 0
      none n true = omega arith
      none n false = omega arith
  leads_more (suc n) x t h deep = elim (cases_eq x k) [
    | inl e ↦
        let P = parents_of rows in
        let one_q : leads P q (suc n) x t ≡ (if x == t then true else (parent_of P k == t)) =
        ap (λ b. if x == t then true else (if b then leads P q n (parent_of P x) t else false)) (ap q e ∙ now)
        ∙ ap (λ b. if x == t then true else b) (ap (λ y. leads P q n (parent_of P y) t) e ∙ stays P q n (parent_of P k) t (same (parent_of P k) parent_apart ∙ waits))
        in
        let one_p : leads P p (suc n) x t ≡ (x == t) = stays P p (suc n) x t (ap p e ∙ was) in
        let one_k : leads P p (suc n) x k ≡ true = stays P p (suc n) x k (ap p e ∙ was) ∙ eq-eqb x k e in
        ap one one_q
        ∙ at_it (x == t) (parent_of P k == t) (λ s. ne_eqb (parent_of P k) t (λ u. parent_apart (u ∙ sym (eqb-true x t s) ∙ e)))
        ∙ ap (λ b. one b + cond (parent_of P k == t) 1 0) (sym one_p)
        ∙ ap (λ b. one (leads P p (suc n) x t) + cond (parent_of P k == t) (one b) 0) (sym one_k)
    | inr other ↦
        let P = parents_of rows in
        let d = depth_parent rows a x h in
        let ih = leads_more n (parent_of P x) t (within rows a 1 x h) (omega arith) in
        let apart : (x == k) ≡ false = ne_eqb x k other in
        let step = at_other (x == t) (parent_of P k == t) (p x) (leads P q n (parent_of P x) t) (leads P p n (parent_of P x) t) (leads P p n (parent_of P x) k)
        (λ on s. ne_eqb (parent_of P k) t (λ u. false≢true (sym waits ∙ ap p (u ∙ sym (eqb-true x t s)) ∙ on)))
        ih in
        ap (λ b. one (if x == t then true else (if b then leads P q n (parent_of P x) t else false))) (same x other)
        ∙ step
        ∙ ap (λ b. one (leads P p (suc n) x t) + cond (parent_of P k == t) (one (if b then true else (if p x then leads P p n (parent_of P x) k else false))) 0) (sym apart)
  ]
