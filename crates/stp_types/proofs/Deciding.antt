-- The tests by climbing are the relations.
use Rattle.std.proofs.Common.{◌≡◌, ◌≢◌, ℕ, zero, suc, ◌<◌, ◌≤◌, inl, inr, refl, sym, ap, ◌∙◌, arith, List, length, Bool, true, false, if◌then◌else◌}
use Rattle.std.specs.Prelude.{◌==◌, ◌&&◌, not}
use Rattle.std.proofs.lemmas.Bool.{eq-eqb, eqb-true}
use Rattle.std.proofs.lemmas.Bool.Decides.{eqb_tells}
use Rattle.stp_types.specs.Forest.{parent_of, above, climbs, is_below, is_own_ancestor, IsTable, IsBelow, IsOwnAncestor}
use Rattle.stp_types.proofs.Above.{shorter}

or_true : (b c : Bool) → c ≡ true → (if b then true else c) ≡ true
or_true true c e = refl
or_true false c e = e

pub both : (a b : Bool) → (a && b) ≡ true → (a ≡ true) × (b ≡ true)
both true b h = (refl, h)
both false b h = absurd (cc)

pub same_tests : (a b : Bool) → (a ≡ true → b ≡ true) → (b ≡ true → a ≡ true) → a ≡ b
same_tests true true f g = refl
same_tests true false f g = sym (f refl)
same_tests false true f g = g refl
same_tests false false f g = refl

pub climbs_up : (p : List ℕ) (n k other : ℕ) → climbs p n k other ≡ true → (m : ℕ) × (m ≤ n) × (above p m k ≡ other)
climbs_up p zero k other h = (0, omega arith, eqb-true k other h)
climbs_up p (suc n) k other h = elim (eqb_tells k other) [
  | inl w ↦ (0, omega arith, w.1)
  | inr w ↦
      let rest = climbs_up p n (parent_of p k) other (sym (ap (λ b. if b then true else climbs p n (parent_of p k) other) w.0) ∙ h) in
      (suc rest.0, omega arith, rest.2)
]

pub climbs_down : (p : List ℕ) (n m k other : ℕ) → m ≤ n → above p m k ≡ other → climbs p n k other ≡ true
climbs_down p zero zero k other h e = eq-eqb k other e
climbs_down p zero (suc m) k other h e = absurd (omega (arith, h))
climbs_down p (suc n) zero k other h e = ap (λ b. if b then true else climbs p n (parent_of p k) other) (eq-eqb k other e)
climbs_down p (suc n) (suc m) k other h e = or_true (k == other) (climbs p n (parent_of p k) other) (climbs_down p n m (parent_of p k) other (omega arith) e)

pub below_from_test : (p : List ℕ) (k other : ℕ) → is_below p k other ≡ true → IsBelow p k other
below_from_test p k other h = let w = climbs_up p (length p) k other h in (w.0, w.2)

pub test_from_below : (p : List ℕ) (k other : ℕ) → IsTable p → k < length p → IsBelow p k other → is_below p k other ≡ true
test_from_below p k other t there b = let w = shorter p t b.0 k other there b.1 in climbs_down p (length p) w.0 k other w.1 w.2

not_root : (k : ℕ) → k ≢ 0 → not (k == 0) ≡ true
not_root k d = elim (eqb_tells k 0) [ inl w ↦ absurd (d w.1) | inr w ↦ ap not w.0 ]

is_not_root : (k : ℕ) → not (k == 0) ≡ true → k ≢ 0
is_not_root k h e = let same : not (k == 0) ≡ false = ap not (eq-eqb k 0 e) in cc

pub own_from_test : (p : List ℕ) (k : ℕ) → is_own_ancestor p k ≡ true → IsOwnAncestor p k
own_from_test p k h =
    let w = both (not (k == 0)) (is_below p (parent_of p k) k) h in
    (is_not_root k w.0, below_from_test p (parent_of p k) k w.1)

pub test_from_own : (p : List ℕ) (k : ℕ) → IsTable p → k < length p → IsOwnAncestor p k → is_own_ancestor p k ≡ true
test_from_own p k t there o = rw (not_root k o.0, test_from_below p (parent_of p k) k t (t.within k there) o.1) refl
