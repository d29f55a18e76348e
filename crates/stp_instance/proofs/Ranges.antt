-- What holds of all bindings, or of some.
use Rattle.std.proofs.Common.{◌≡◌, ◌↔◌, ℕ, ◌<◌, Bool, true, false, ◌&&◌, ◌||◌, ◌==◌, if◌then◌else◌, List, [], ◌∷◌, ◌++◌, length, map, get_or, refl, ap, sym, ◌∙◌, arith, Contains}
use Rattle.std.specs.Prelude.{slice_index}
use Rattle.std.specs.List.{flat_map, list_all, list_any, filter, range_with_len}
use Rattle.std.proofs.lemmas.Bool.{and_parts, and_from, and_right, eqb-true}
use Rattle.std.proofs.lemmas.List.Elements.{All-contains, Contains-get_or}
use Rattle.std.proofs.lemmas.List.FromFn.{length-range_with_len, get_or-range_with_len}
use Rattle.std.proofs.lemmas.List.Folds.{list_all-append, list_any-append, list_all-map, Any-from_list_any, list_any_at}
use Rattle.std.proofs.lemmas.List.Sums.{AllPass-from_list_all, list_all-from_AllPass}
use Rattle.stp_types.specs.Forest.{is_below}
use Rattle.stp_schema.specs.Rows.{Thing}
use Rattle.stp_schema.specs.Formula.{Formula, Every as ForEach, Any as ForAny}
use Rattle.stp_tables.specs.Atoms.{Atom}
use Rattle.stp_cond.specs.Atoms.{has}
use Rattle.stp_cond.proofs.Rising.{has_from_Contains, Contains_from_has}
use Rattle.stp_instance.specs.Expanded.{Claim, claims_of, objects_below, bindings_of, expanded}
use Rattle.stp_instance.specs.Laws.{is_so, all_are_so, one_is_so, AreOf}

-- ---- members of lists

module _ {X : Type 0} (p : X → Bool) where
  all_at : (xs : List X) → list_all p xs ≡ true → (x : X) → Contains xs x → p x ≡ true
  all_at xs e x c = All-contains (λ y. p y ≡ true) xs x (AllPass-from_list_all p xs e) c

  all_from : (xs : List X) → ((x : X) → Contains xs x → p x ≡ true) → list_all p xs ≡ true
  all_from xs h = list_all-from_AllPass p xs (λ k d l. h (get_or xs k d) (Contains-get_or xs k d l))

  any_at : (xs : List X) → list_any p xs ≡ true → (x : X) × Contains xs x × (p x ≡ true)
  any_at xs e = let a = Any-from_list_any p xs e in (a.1, (a.0, a.2, a.3), a.4)

  any_from : (xs : List X) (x : X) → Contains xs x → p x ≡ true → list_any p xs ≡ true
  any_from xs x c e = list_any_at p xs c.0 x c.1 (ap p c.2 ∙ e)

module _ {X Y : Type 0} (p : Y → Bool) where
  all_flat : (f : X → List Y) (xs : List X) → list_all p (flat_map f xs) ≡ list_all (λ x. list_all p (f x)) xs
  all_flat f [] = refl
  all_flat f (x ∷ xs) = list_all-append p (f x) (flat_map f xs) ∙ ap (λ b. list_all p (f x) && b) (all_flat f xs)

  any_flat : (f : X → List Y) (xs : List X) → list_any p (flat_map f xs) ≡ list_any (λ x. list_any p (f x)) xs
  any_flat f [] = refl
  any_flat f (x ∷ xs) = list_any-append p (f x) (flat_map f xs) ∙ ap (λ b. list_any p (f x) || b) (any_flat f xs)

  any_map : (f : X → Y) (xs : List X) → list_any p (map f xs) ≡ list_any (λ x. p (f x)) xs
  any_map f [] = refl
  any_map f (x ∷ xs) = ap (λ b. p (f x) || b) (any_map f xs)

-- ---- bindings

module _ (below : ℕ → List ℕ) where
  all_range : (p : List ℕ → Bool) (kinds : List ℕ) → list_all p (bindings_of below kinds) ≡ true → (objects : List ℕ) → AreOf below kinds objects → p objects ≡ true
  all_range p [] e [] are = all_at p ([] ∷ []) e [] (Contains-get_or ([] ∷ []) 0 [] (omega arith))
  all_range p [] e (o ∷ os) are = absurd are
  all_range p (k ∷ ks) e [] are = absurd are
  all_range p (k ∷ ks) e (o ∷ os) are =
      let rest = bindings_of below ks in
      let one = all_at (λ x. list_all p (map (λ r. x ∷ r) rest)) (below k) (sym (all_flat p (λ x. map (λ r. x ∷ r) rest) (below k)) ∙ e) o are.0 in
      all_range (λ r. p (o ∷ r)) ks (sym (list_all-map p (λ r. o ∷ r) rest) ∙ one) os are.1

  all_ranges : (p : List ℕ → Bool) (kinds : List ℕ) → ((objects : List ℕ) → AreOf below kinds objects → p objects ≡ true) → list_all p (bindings_of below kinds) ≡ true
  all_ranges p [] h = ap (λ b. b && true) (h [] tt)
  all_ranges p (k ∷ ks) h =
      let rest = bindings_of below ks in
      all_flat p (λ x. map (λ r. x ∷ r) rest) (below k)
      ∙ all_from (λ x. list_all p (map (λ r. x ∷ r) rest)) (below k) (λ o c. list_all-map p (λ r. o ∷ r) rest ∙ all_ranges (λ r. p (o ∷ r)) ks (λ os are. h (o ∷ os) (c, are)))

  some_range : (p : List ℕ → Bool) (kinds : List ℕ) → list_any p (bindings_of below kinds) ≡ true → (objects : List ℕ) × AreOf below kinds objects × (p objects ≡ true)
  some_range p [] e = ([], tt, only (p []) e)
    where
      only : (b : Bool) → (b || false) ≡ true → b ≡ true
      only true e = refl
      only false e = e
  some_range p (k ∷ ks) e =
      let rest = bindings_of below ks in
      let one = any_at (λ x. list_any p (map (λ r. x ∷ r) rest)) (below k) (sym (any_flat p (λ x. map (λ r. x ∷ r) rest) (below k)) ∙ e) in
      let others = some_range (λ r. p (one.0 ∷ r)) ks (sym (any_map p (λ r. one.0 ∷ r) rest) ∙ one.2) in
      (one.0 ∷ others.0, (one.1, others.1), others.2)

  some_ranges : (p : List ℕ → Bool) (kinds objects : List ℕ) → AreOf below kinds objects → p objects ≡ true → list_any p (bindings_of below kinds) ≡ true
  some_ranges p [] [] are e = ap (λ b. b || false) e
  some_ranges p [] (o ∷ os) are e = absurd are
  some_ranges p (k ∷ ks) [] are e = absurd are
  some_ranges p (k ∷ ks) (o ∷ os) are e =
      let rest = bindings_of below ks in
      any_flat p (λ x. map (λ r. x ∷ r) rest) (below k)
      ∙ any_from (λ x. list_any p (map (λ r. x ∷ r) rest)) (below k) o are.0 (any_map p (λ r. o ∷ r) rest ∙ some_ranges (λ r. p (o ∷ r)) ks os are.1 e)

-- ---- conditions

all_claims : (facts : Atom → Bool) (body : List ℕ → Claim) (bindings : List (List ℕ)) → all_are_so facts (claims_of (map body bindings)) ≡ list_all (λ b. is_so facts (body b)) bindings
all_claims facts body [] = refl
all_claims facts body (b ∷ bs) = ap (λ x. is_so facts (body b) && x) (all_claims facts body bs)

one_claim : (facts : Atom → Bool) (body : List ℕ → Claim) (bindings : List (List ℕ)) → one_is_so facts (claims_of (map body bindings)) ≡ list_any (λ b. is_so facts (body b)) bindings
one_claim facts body [] = refl
one_claim facts body (b ∷ bs) = ap (λ x. is_so facts (body b) || x) (one_claim facts body bs)

module _ (facts : Atom → Bool) (below : ℕ → List ℕ) (binding kinds : List ℕ) (body : Formula) where
  pub each_ranges : (is_so facts (expanded below binding (ForEach kinds body)) ≡ true) ↔ ((objects : List ℕ) → AreOf below kinds objects → is_so facts (expanded below (binding ++ objects) body) ≡ true)
  each_ranges = (
    λ e. all_range below (λ objects. is_so facts (expanded below (binding ++ objects) body)) kinds (sym (all_claims facts (λ objects. expanded below (binding ++ objects) body) (bindings_of below kinds)) ∙ e),
    λ h. all_claims facts (λ objects. expanded below (binding ++ objects) body) (bindings_of below kinds) ∙ all_ranges below (λ objects. is_so facts (expanded below (binding ++ objects) body)) kinds h,
  )

  pub some_ranges_over : (is_so facts (expanded below binding (ForAny kinds body)) ≡ true) ↔ ((objects : List ℕ) × AreOf below kinds objects × (is_so facts (expanded below (binding ++ objects) body) ≡ true))
  some_ranges_over = (
    λ e. some_range below (λ objects. is_so facts (expanded below (binding ++ objects) body)) kinds (sym (one_claim facts (λ objects. expanded below (binding ++ objects) body) (bindings_of below kinds)) ∙ e),
    λ h. one_claim facts (λ objects. expanded below (binding ++ objects) body) (bindings_of below kinds) ∙ some_ranges below (λ objects. is_so facts (expanded below (binding ++ objects) body)) kinds h.0 h.1 h.2,
  )

-- ---- objects of a type

kept_if : (test : Bool) (y x : ℕ) (rest : List ℕ) → has (if test then y ∷ rest else rest) x ≡ (if test then (y == x) || has rest x else has rest x)
kept_if true y x rest = refl
kept_if false y x rest = refl

-- where an element that is the same passes, the one passes
one_kept : (test same passes there : Bool) → (same ≡ true → test ≡ passes) → (if test then same || (passes && there) else (passes && there)) ≡ (passes && (same || there))
one_kept true true passes there h = ap (λ b. b && true) (h refl)
one_kept true false passes there h = refl
one_kept false true passes there h = ap (λ b. b && there) (sym (h refl)) ∙ ap (λ b. b && true) (h refl)
one_kept false false passes there h = refl

has_filter : (p : ℕ → Bool) (x : ℕ) (xs : List ℕ) → has (filter p xs) x ≡ (p x && has xs x)
has_filter p x [] = sym (and_right (p x) false refl)
has_filter p x (y ∷ ys) =
    kept_if (p y) y x (filter p ys)
    ∙ ap (λ b. if p y then (y == x) || b else b) (has_filter p x ys)
    ∙ one_kept (p y) (y == x) (p x) (has ys x) (λ e. ap p (eqb-true y x e))

pub members_range : (parents : List ℕ) (objects : List Thing) (kind number : ℕ) → Contains (objects_below parents objects kind) number ↔ ((number < length objects) × (is_below parents (slice_index (map (λ o. o.kind) objects) number) kind ≡ true))
members_range parents objects kind number =
    let n = length objects in
    let test : ℕ → Bool = λ k. is_below parents (slice_index (map (λ (o : Thing). o.kind) objects) k) kind in
    let len = length-range_with_len 0 n in (
      λ c.
          let both = and_parts (test number) (has (range_with_len 0 n) number) (sym (has_filter test number (range_with_len 0 n)) ∙ has_from_Contains (objects_below parents objects kind) number c) in
          let there = Contains_from_has (range_with_len 0 n) number both.1 in
          let below = there.1 in
          let k : there.0 < n = omega (arith, len, below) in
          let at = get_or-range_with_len 0 n there.0 number k in
          let is = there.2 in
          (omega (arith, k, at, is), both.0),
      λ h.
          let below = h.0 in
          let at = get_or-range_with_len 0 n number number below in
          let there : Contains (range_with_len 0 n) number = (number, omega (arith, len, below), omega (arith, at)) in
          Contains_from_has (objects_below parents objects kind) number (has_filter test number (range_with_len 0 n) ∙ and_from (test number) (has (range_with_len 0 n) number) h.1 (has_from_Contains (range_with_len 0 n) number there)),
    )
