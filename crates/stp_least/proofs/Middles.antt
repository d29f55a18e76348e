-- An owner in the middle of others: its duration, and what changing its window does to durations.
use Rattle.std.proofs.Common.{◌≡◌, ℕ, suc, ◌+◌, ◌<◌, ◌≤◌, Bool, true, false, cond, List, [], ◌∷◌, ◌++◌, drop, length, slice_index, refl, ap, ap₂, sym, ◌∙◌, subst, arith, true≢false}
use Rattle.std.specs.Cmp.Lexicographic.{slice_cmp}
use Rattle.std.specs.Cmp.{nat_cmp_is}
use Rattle.std.specs.Ordering.{nat_cmp, is_lt, is_le, ordering_then}
use Rattle.std.specs.declared.cmp.Ordering.{Ordering}
use Rattle.std.specs.declared.cmp.Ordering.TheVariants.{Less, Equal, Greater}
use Rattle.std.proofs.Math.Seq.{drop-nil}
use Rattle.std.proofs.lemmas.Map.Keys.{le_from_is_le}
use Rattle.std.proofs.lemmas.List.Elements.{All-head, All-tail}
use Rattle.stp_happen.specs.Boxes.{PlainOwner, rest_of, IsInInterval, IsVector}
use Rattle.stp_least.specs.Searching.{uncertain_among, AreFixed}

-- the durations of the owners after these
abbrev pub durations_after : List PlainOwner → List ℕ → List ℕ
durations_after before ds = drop (uncertain_among before) ds

after_more : (b : PlainOwner) (bs : List PlainOwner) (ds : List ℕ) → durations_after (b ∷ bs) ds ≡ durations_after bs (rest_of b ds)
after_more b bs ds = by_kind b bs ds b.uncertain refl
  where
    one_more : (n : ℕ) (ds : List ℕ) → drop (suc n) ds ≡ drop n (drop 1 ds)
    one_more n [] = sym (drop-nil n)
    one_more n (d ∷ ds) = refl

    by_kind : (b : PlainOwner) (bs : List PlainOwner) (ds : List ℕ) (u : Bool) → b.uncertain ≡ u → durations_after (b ∷ bs) ds ≡ durations_after bs (rest_of b ds)
    by_kind b bs ds true e = rw e (one_more (uncertain_among bs) ds)
    by_kind b bs ds false e = rw e refl

pub vector_after : (before owners : List PlainOwner) (ds : List ℕ) → IsVector (before ++ owners) ds → IsVector owners (durations_after before ds)
vector_after [] owners ds v = v
vector_after (b ∷ bs) owners ds v = subst (IsVector owners) (sym (after_more b bs ds)) (vector_after bs owners (rest_of b ds) v.1)

pub vector_changed : (before : List PlainOwner) (s t : PlainOwner) (rest : List PlainOwner) (ds : List ℕ) → s.uncertain ≡ t.uncertain → IsVector (before ++ s ∷ rest) ds → IsInInterval t (durations_after before ds) →
    IsVector (before ++ t ∷ rest) ds
vector_changed [] s t rest ds e v w = (w, subst (λ (u : Bool). IsVector rest (cond u (drop 1 ds) ds)) e v.1)
vector_changed (b ∷ bs) s t rest ds e v w = (v.0, vector_changed bs s t rest (rest_of b ds) e v.1 (subst (IsInInterval t) (after_more b bs ds) w))

-- ---- dictionary order

same_cmp : (x : ℕ) → nat_cmp x x ≡ Equal
same_cmp x = sym (nat_cmp_is x x Equal refl)

-- durations that agree on the first come in the order of the rest
same_first : (x y : ℕ) (xs ys : List ℕ) → x ≡ y → slice_cmp nat_cmp (x ∷ xs) (y ∷ ys) ≡ slice_cmp nat_cmp xs ys
same_first x y xs ys e = ap (λ z. ordering_then (nat_cmp x z) (slice_cmp nat_cmp xs ys)) (sym e) ∙ ap (λ o. ordering_then o (slice_cmp nat_cmp xs ys)) (same_cmp x)

first_is_le : (o rest : Ordering) → is_lt (ordering_then o rest) ≡ true → is_le o ≡ true
first_is_le Less rest h = refl
first_is_le Equal rest h = refl
first_is_le Greater rest h = absurd (true≢false (sym h))

-- owners that are fixed to one end do not count in the order
pub order_after : (before owners : List PlainOwner) → AreFixed before → (xs ys : List ℕ) → IsVector (before ++ owners) xs → IsVector (before ++ owners) ys →
    slice_cmp nat_cmp xs ys ≡ slice_cmp nat_cmp (durations_after before xs) (durations_after before ys)
order_after [] owners f xs ys v w = refl
order_after (b ∷ bs) owners f xs ys v w =
    by_kind b bs owners b.uncertain refl (All-head (λ (s : PlainOwner). s.low ≡ s.high) b bs f) xs ys v w (order_after bs owners (All-tail (λ (s : PlainOwner). s.low ≡ s.high) b bs f))
  where
    first_fixed : (b : PlainOwner) (bs owners : List PlainOwner) → b.low ≡ b.high → (xs ys : List ℕ) →
        (0 < length xs) × (b.low ≤ b.start + slice_index xs 0) × (b.start + slice_index xs 0 ≤ b.high) → (0 < length ys) × (b.low ≤ b.start + slice_index ys 0) × (b.start + slice_index ys 0 ≤ b.high) →
        slice_cmp nat_cmp (drop 1 xs) (drop 1 ys) ≡ slice_cmp nat_cmp (durations_after bs (drop 1 xs)) (durations_after bs (drop 1 ys)) →
        slice_cmp nat_cmp xs ys ≡ slice_cmp nat_cmp (durations_after bs (drop 1 xs)) (durations_after bs (drop 1 ys))
    first_fixed b bs owners l [] ys v w h = absurd (omega (arith, v.0))
    first_fixed b bs owners l (x ∷ xs) [] v w h = absurd (omega (arith, w.0))
    first_fixed b bs owners l (x ∷ xs) (y ∷ ys) v w h =
        let a : b.low ≤ b.start + x = v.1 in
        let c : b.start + x ≤ b.high = v.2 in
        let d : b.low ≤ b.start + y = w.1 in
        let e : b.start + y ≤ b.high = w.2 in
        same_first x y xs ys (omega arith) ∙ h

    by_kind : (b : PlainOwner) (bs owners : List PlainOwner) (u : Bool) → b.uncertain ≡ u → b.low ≡ b.high → (xs ys : List ℕ) → IsVector (b ∷ (bs ++ owners)) xs → IsVector (b ∷ (bs ++ owners)) ys →
        ((xs ys : List ℕ) → IsVector (bs ++ owners) xs → IsVector (bs ++ owners) ys → slice_cmp nat_cmp xs ys ≡ slice_cmp nat_cmp (durations_after bs xs) (durations_after bs ys)) →
        slice_cmp nat_cmp xs ys ≡ slice_cmp nat_cmp (durations_after (b ∷ bs) xs) (durations_after (b ∷ bs) ys)
    by_kind b bs owners u e l xs ys v w more =
        by_rest b bs owners u e l xs ys v w (more (rest_of b xs) (rest_of b ys) v.1 w.1) ∙ ap₂ (slice_cmp nat_cmp) (sym (after_more b bs xs)) (sym (after_more b bs ys))
      where
        by_rest : (b : PlainOwner) (bs owners : List PlainOwner) (u : Bool) → b.uncertain ≡ u → b.low ≡ b.high → (xs ys : List ℕ) → IsVector (b ∷ (bs ++ owners)) xs → IsVector (b ∷ (bs ++ owners)) ys →
            slice_cmp nat_cmp (rest_of b xs) (rest_of b ys) ≡ slice_cmp nat_cmp (durations_after bs (rest_of b xs)) (durations_after bs (rest_of b ys)) →
            slice_cmp nat_cmp xs ys ≡ slice_cmp nat_cmp (durations_after bs (rest_of b xs)) (durations_after bs (rest_of b ys))
        by_rest b bs owners true e l xs ys v w h = rw e (first_fixed b bs owners l xs ys (v.0 e) (w.0 e) (subst (λ (u : Bool). slice_cmp nat_cmp (cond u (drop 1 xs) xs) (cond u (drop 1 ys) ys) ≡ slice_cmp nat_cmp (durations_after bs (cond u (drop 1 xs) xs)) (durations_after bs (cond u (drop 1 ys) ys))) e h))
        by_rest b bs owners false e l xs ys v w h = subst (λ (u : Bool). slice_cmp nat_cmp (cond u (drop 1 xs) xs) (cond u (drop 1 ys) ys) ≡ slice_cmp nat_cmp (durations_after bs (rest_of b xs)) (durations_after bs (rest_of b ys))) e h

-- durations before others have a first duration up to theirs
pub first_up : (xs ys : List ℕ) → 0 < length xs → 0 < length ys → is_lt (slice_cmp nat_cmp xs ys) ≡ true → slice_index xs 0 ≤ slice_index ys 0
first_up [] ys l k h = absurd (omega arith)
first_up (x ∷ xs) [] l k h = absurd (omega arith)
first_up (x ∷ xs) (y ∷ ys) l k h = le_from_is_le x y (first_is_le (nat_cmp x y) (slice_cmp nat_cmp xs ys) h)
