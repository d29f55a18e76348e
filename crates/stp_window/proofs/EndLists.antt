-- Which owners are unsettled, owner by owner.
use Rattle.std.proofs.Common.{◌≡◌, ℕ, ◌<◌, nat_lt, nat_le, Bool, true, false, ◌&&◌, cond, List, [], ◌∷◌, ◌++◌, map, filter, All, refl, subst, arith}
use Rattle.std.specs.List.{list_all}
use Rattle.std.proofs.lemmas.Bool.Decides.{nat_tests}
use Rattle.std.proofs.lemmas.List.Elements.{All-tail}
use Rattle.stp_happen.specs.Boxes.{PlainOwner}
use Rattle.stp_happen.specs.Owners.{IsTimed, AreInOrder}
use Rattle.stp_happen.specs.Sound.{is_ascending}
use Rattle.stp_happen.proofs.Members.{and_both, all_pass, each_of, mapped_member, member_of_kept}
use Rattle.stp_window.specs.Windows.{is_unsettled}
use Rattle.stp_window.specs.OwnerWindows.{end_point, IsWellMade}
use Rattle.stp_window.specs.Ends.{unsettled_among}

first_apart : {X Y : Type 0} (f : X → Y) (x : X) (xs : List X) (b : Bool) → map f (cond b (x ∷ xs) xs) ≡ map f (cond b (x ∷ []) []) ++ map f xs
first_apart f x xs true = refl
first_apart f x xs false = refl

-- the first owner, and the rest
pub first_owner : (t : ℕ) (o : PlainOwner) (os : List PlainOwner) → unsettled_among (o ∷ os) t ≡ unsettled_among (o ∷ []) t ++ unsettled_among os t
first_owner t o os = first_apart (λ (x : PlainOwner). x.number) o (filter (λ x. is_unsettled t (end_point x)) os) (is_unsettled t (end_point o))

-- ---- in order

before : (m n : ℕ) → m < n → nat_lt m n ≡ true
before m n l = grind (arith, nat_tests)

-- an unsettled owner is no event of the environment at a fixed moment
not_timed : (t : ℕ) (o : PlainOwner) → IsWellMade o → is_unsettled t (end_point o) ≡ true → IsTimed o → ⊥
not_timed t o w h timed = by_numbers t o.low o.high (w.certain timed.certain) h
  where
    by_numbers : (t a b : ℕ) → a ≡ b → (nat_le a t && nat_lt t b) ≡ true → ⊥
    by_numbers t a b e h = grind (arith, nat_tests)

above : (t n : ℕ) (os : List PlainOwner) → All IsWellMade os → All (λ y. (IsTimed y → ⊥) → n < y.number) os → list_all (nat_lt n) (unsettled_among os t) ≡ true
above t n os made later = all_pass (nat_lt n) (unsettled_among os t) (λ m i.
    let r = mapped_member (λ (x : PlainOwner). x.number) (filter (λ x. is_unsettled t (end_point x)) os) m i in
    let k = member_of_kept (λ x. is_unsettled t (end_point x)) os r.0 r.1 in
    subst (λ x. nat_lt n x ≡ true) r.2 (before n r.0.number (each_of (λ y. (IsTimed y → ⊥) → n < y.number) os later r.0 k.0 (not_timed t r.0 (each_of IsWellMade os made r.0 k.0) k.1))))

pub numbers_rise : (t : ℕ) (owners : List PlainOwner) → All IsWellMade owners → AreInOrder owners → is_ascending nat_lt (unsettled_among owners t) ≡ true
numbers_rise t [] made order = refl
numbers_rise t (o ∷ os) made order =
    by_test (is_unsettled t (end_point o)) o (filter (λ x. is_unsettled t (end_point x)) os) (above t o.number os (All-tail IsWellMade o os made) order.0) (numbers_rise t os (All-tail IsWellMade o os made) order.1)
  where
    by_test : (b : Bool) (o : PlainOwner) (os : List PlainOwner) → list_all (nat_lt o.number) (map (λ x. x.number) os) ≡ true → is_ascending nat_lt (map (λ x. x.number) os) ≡ true → is_ascending nat_lt (map (λ x. x.number) (cond b (o ∷ os) os)) ≡ true
    by_test true o os later rest = and_both (list_all (nat_lt o.number) (map (λ x. x.number) os)) (is_ascending nat_lt (map (λ x. x.number) os)) later rest
    by_test false o os later rest = rest
