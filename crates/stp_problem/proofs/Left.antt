-- Types that are left, and the deepest of them.
use Rattle.std.proofs.Common.{◌≡◌, ◌≢◌, ℕ, ◌+◌, ◌<◌, ◌≤◌, ◌⊎◌, inl, inr, Bool, true, false, List, [], ◌∷◌, ◌++◌, length, refl, sym, ap, ◌∙◌, arith, length-append, subst}
use Rattle.std.specs.Prelude.{◌==◌, not, ◌&&◌, All}
use Rattle.std.specs.List.Sorted.{IsNonDecreasingBy, IsPermutation}
use Rattle.std.proofs.lemmas.Bool.{cases_eq, eq-eqb, ne_eqb}
use Rattle.std.proofs.lemmas.Bool.Decides.{eqb_tells}
use Rattle.std.proofs.lemmas.List.{get_or_append_left, get_or_push}
use Rattle.std.proofs.lemmas.List.Elements.{All-push}
use Rattle.std.proofs.lemmas.List.Sums.{sum_by_push}
use Rattle.std.proofs.lemmas.List.Sorted.{sum_by-IsPermutation, All-permutation}
use Rattle.stp_types.specs.declared.row.Ancestry.{Ancestry}
use Rattle.stp_types.specs.Forest.{parent_of}
use Rattle.stp_types.specs.Rows.{AreAncestries, parents_of, depth_of}
use Rattle.stp_types.proofs.Asking.{depth_parent, within, at_root}
use Rattle.stp_problem.specs.declared.rung.Rung.{Rung}
use Rattle.stp_problem.specs.Passing.{times, has_passed, IsRung, AreLeft, AreAllLeft}
use Rattle.stp_problem.proofs.Counts.{one, count-cons, head, tail}

pub times_push : (rest : List Rung) (r : Rung) (x : ℕ) → times (rest ++ r ∷ []) x ≡ times rest x + one (r.kind == x)
times_push rest r x = sum_by_push (λ s. one (s.kind == x)) rest r

-- what has not passed is left, or is the root
pub not_passed : (left : List Rung) (x : ℕ) → (x ≡ 0) ⊎ (0 < times left x) → has_passed left x ≡ false
not_passed left x (inl z) = ap (λ b. not b && (times left x == 0)) (eq-eqb x 0 z)
not_passed left x (inr some) = ap (λ b. not (x == 0) && b) (ne_eqb (times left x) 0 (λ z. omega arith)) ∙ never (not (x == 0))
  where
    never : (b : Bool) → (b && false) ≡ false
    never true = refl
    never false = refl

pub is_passed : (left : List Rung) (x : ℕ) → x ≢ 0 → times left x ≡ 0 → has_passed left x ≡ true
is_passed left x child none = ap (λ b. not b && (times left x == 0)) (ne_eqb x 0 child) ∙ eq-eqb (times left x) 0 none

front : {X : Type 0} (P : X → Type 0) (xs : List X) (y : X) → All P (xs ++ y ∷ []) → All P xs
front P xs y all = λ k d h. let l = length-append xs (y ∷ []) in subst P (get_or_append_left xs (y ∷ []) d k h) (all k d (omega arith))

last : {X : Type 0} (P : X → Type 0) (xs : List X) (y : X) → All P (xs ++ y ∷ []) → P y
last P xs y all = let l = length-append xs (y ∷ []) in subst P (get_or_push xs y y (length xs) refl) (all (length xs) y (omega arith))

front_sorted : {X : Type 0} (n : X → ℕ) (xs : List X) (y : X) → IsNonDecreasingBy n (xs ++ y ∷ []) → IsNonDecreasingBy n xs
front_sorted n xs y up = λ i j d le h.
    let l = length-append xs (y ∷ []) in
    let e = ap n (get_or_append_left xs (y ∷ []) d i (omega arith)) in
    let f = ap n (get_or_append_left xs (y ∷ []) d j h) in
    let u = up i j d le (omega arith) in
    omega arith

below_last : {X : Type 0} (n : X → ℕ) (xs : List X) (y : X) → IsNonDecreasingBy n (xs ++ y ∷ []) → All (λ x. n x ≤ n y) xs
below_last n xs y up = λ k d h.
    let l = length-append xs (y ∷ []) in
    let e = ap n (get_or_append_left xs (y ∷ []) d k h) in
    let f = ap n (get_or_push xs y d (length xs) refl) in
    let u = up k (length xs) d (omega arith) (omega arith) in
    omega arith

-- a type that stands among some is as deep as one of them
deep : (rows : List Ancestry) (bound : ℕ) (rs : List Rung) (x : ℕ) → All (IsRung rows) rs → All (λ r. r.depth ≤ bound) rs → 0 < times rs x → depth_of rows x ≤ bound
deep rows bound [] x all low some = absurd (omega (arith, some))
deep rows bound (r ∷ rs) x all low some = elim (eqb_tells r.kind x) [
  | inl w ↦
      let here = head (IsRung rows) r rs all in
      let e = here.2 in
      let f = ap (depth_of rows) w.1 in
      let b = head (λ s. s.depth ≤ bound) r rs low in
      omega (arith, e, f, b)
  | inr w ↦ deep rows bound rs x (tail (IsRung rows) r rs all) (tail (λ s. s.depth ≤ bound) r rs low)
      (let c = count-cons (λ s. s.kind == x) r rs in let o : one (r.kind == x) ≡ 0 = ap one w.0 in omega (arith, c, o, some))
]

-- ---- the deepest passes on

module _ (rows : List Ancestry) (a : AreAncestries rows) (rest : List Rung) (r : Rung) (l : AreLeft rows (rest ++ r ∷ [])) where
  pub is_rung : IsRung rows r
  is_rung = last (IsRung rows) rest r l.rungs

  itself : times (rest ++ r ∷ []) r.kind ≡ times rest r.kind + 1
  itself = times_push rest r r.kind ∙ ap (λ b. times rest r.kind + one b) (eq-eqb r.kind r.kind refl)

  not_again : times rest r.kind ≡ 0
  not_again = let i = itself in let o = l.once r.kind in omega arith

  another : (x : ℕ) → x ≢ r.kind → times (rest ++ r ∷ []) x ≡ times rest x
  another x d = times_push rest r x ∙ ap (λ b. times rest x + one b) (ne_eqb r.kind x (λ e. d (sym e))) ∙ (omega arith)

  pub was_waiting : has_passed (rest ++ r ∷ []) r.kind ≡ false
  was_waiting = not_passed (rest ++ r ∷ []) r.kind (inr (let i = itself in omega arith))

  pub passes_now : has_passed rest r.kind ≡ true
  passes_now = is_passed rest r.kind is_rung.0 not_again

  pub others_stay : (x : ℕ) → x ≢ r.kind → has_passed rest x ≡ has_passed (rest ++ r ∷ []) x
  others_stay x d = ap (λ n. not (x == 0) && (n == 0)) (sym (another x d))

  pub parent_waits : has_passed (rest ++ r ∷ []) (parent_of (parents_of rows) r.kind) ≡ false
  parent_waits = not_passed (rest ++ r ∷ []) (parent_of (parents_of rows) r.kind) (l.above r.kind is_rung.1 (let i = itself in omega arith))

  child_is_deeper : (x : ℕ) → x < length rows → 0 < times rest x → parent_of (parents_of rows) x ≢ r.kind
  child_is_deeper x h some e =
      let d = depth_parent rows a x h in
      let f = ap (depth_of rows) e in
      let g = is_rung.2 in
      let low = deep rows r.depth rest x (front (IsRung rows) rest r l.rungs) (below_last (λ s. s.depth) rest r l.sorted) some in
      elim (cases_eq (depth_of rows r.kind) 0) [
        | inl z ↦ is_rung.0 (at_root rows a r.kind is_rung.1 z)
        | inr up ↦ omega (arith, d, f, g, low)
      ]

  pub rest_left : AreLeft rows rest
  rest_left = record {
    rungs = front (IsRung rows) rest r l.rungs;
    sorted = front_sorted (λ s. s.depth) rest r l.sorted;
    once = λ x. let t = times_push rest r x in let o = l.once x in omega arith;
    above = λ x h some.
        let t = times_push rest r x in
        elim (l.above x h (omega arith)) [
          | inl z ↦ inl z
          | inr w ↦ inr (let e = another (parent_of (parents_of rows) x) (child_is_deeper x h some) in omega arith)
        ];
  }

-- ---- all in order

pub all_left : (rows : List Ancestry) (unsorted sorted : List Rung) → AreAncestries rows → All (IsRung rows) unsorted → ((kind : ℕ) → times unsorted kind ≤ 1) → ((kind : ℕ) → kind ≢ 0 → kind < length rows → times unsorted kind ≡ 1) → IsPermutation unsorted sorted → IsNonDecreasingBy (λ r. r.depth) sorted → AreAllLeft rows sorted
all_left rows unsorted sorted a all once complete moved up =
    let same : (x : ℕ) → times sorted x ≡ times unsorted x = λ x. sum_by-IsPermutation (λ r. one (r.kind == x)) unsorted sorted moved in
    record {
      lawful = record {
        rungs = All-permutation (IsRung rows) unsorted sorted moved all;
        sorted = up;
        once = λ x. let s = same x in let o = once x in omega arith;
        above = λ x h some. elim (cases_eq (parent_of (parents_of rows) x) 0) [
          | inl z ↦ inl z
          | inr child ↦ inr (
              let c = complete (parent_of (parents_of rows) x) child (within rows a 1 x h) in
              let s = same (parent_of (parents_of rows) x) in
              omega arith)
        ];
      };
      complete = λ x child h. same x ∙ complete x child h;
    }

-- ---- one type more is written down

pub record AreWritten (rows : List Ancestry) (rungs : List Rung) (n : ℕ) : Type 0 where
  pub right : All (IsRung rows) rungs
  pub none : (kind : ℕ) → n ≤ kind → times rungs kind ≡ 0
  pub once : (kind : ℕ) → times rungs kind ≤ 1
  pub complete : (kind : ℕ) → kind ≢ 0 → kind < n → times rungs kind ≡ 1

pub written_more : (rows : List Ancestry) (rungs new : List Rung) (r : Rung) → new ≡ rungs ++ r ∷ [] → 0 < r.kind → r.kind < length rows → r.depth ≡ depth_of rows r.kind → AreWritten rows rungs r.kind → AreWritten rows new (r.kind + 1)
written_more rows rungs new r is child there deep w = subst (λ x. AreWritten rows x (r.kind + 1)) (sym is) (record {
  right = All-push (IsRung rows) rungs r w.right ((λ z. omega (arith, z, child)), there, deep);
  none = λ kind h.
      let t = times_push rungs r kind in
      let e : one (r.kind == kind) ≡ 0 = ap one (ne_eqb r.kind kind (λ same. omega (arith, same, h))) in
      let n = w.none kind (omega arith) in
      omega arith;
  once = λ kind.
      let t = times_push rungs r kind in
      let o = w.once kind in
      elim (cases_eq r.kind kind) [
        | inl same ↦
            let e : one (r.kind == kind) ≡ 1 = ap one (eq-eqb r.kind kind same) in
            let n = w.none kind (omega (arith, same)) in
            omega arith
        | inr other ↦ let e : one (r.kind == kind) ≡ 0 = ap one (ne_eqb r.kind kind other) in omega arith
      ];
  complete = λ kind some h.
      let t = times_push rungs r kind in
      elim (cases_eq r.kind kind) [
        | inl same ↦
            let e : one (r.kind == kind) ≡ 1 = ap one (eq-eqb r.kind kind same) in
            let n = w.none kind (omega (arith, same)) in
            omega arith
        | inr other ↦
            let e : one (r.kind == kind) ≡ 0 = ap one (ne_eqb r.kind kind other) in
            let n = w.complete kind some (omega arith) in
            omega arith
      ];
})

pub written_none : (rows : List Ancestry) (rungs : List Rung) → rungs ≡ [] → AreWritten rows rungs 1
written_none rows rungs is = subst (λ x. AreWritten rows x 1) (sym is) (record {
  right = λ k d h. absurd (omega (arith, h));
  none = λ kind h. refl;
  once = λ kind. omega arith;
  complete = λ kind some h. absurd (omega (arith, some, h));
})
