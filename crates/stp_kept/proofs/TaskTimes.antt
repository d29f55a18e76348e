-- The greatest duration, and the grid of times one after the other.
use Rattle.std.proofs.Common.{◌≡◌, ℕ, zero, suc, ◌+◌, ◌-◌, ◌<◌, ◌≤◌, pos, if◌then◌else◌, List, [], ◌∷◌, ◌++◌, length, map, drop, get_or, Option, Some, None, IfSome, sym, ap, subst, ◌∙◌, arith}
use Prim.Native.Nat.{◌∣◌}
use Rattle.std.specs.List.{All}
use Rattle.std.proofs.lemmas.List.Elements.{All-nil, All-cons, All-head, All-tail}
use Rattle.std.proofs.lemmas.Bool.Decides.{nat_tests}
use Rattle.std.proofs.lemmas.List.{drop_more, append-nil}
use Rattle.std.proofs.lemmas.Nat.Gcd.{le_of_dvd, dvd_refl, dvd_trans}
use Rattle.stp_base.specs.declared.limits.TheConstants.{MAX_DURATION}
use Rattle.stp_frac.specs.declared.frac.Frac.{Frac}
use Rattle.stp_frac.specs.Divisors.{lcm}
use Rattle.stp_frac.specs.Fractions.{Fraction, fraction, is_in_range, up_to, value_of}
use Rattle.stp_frac.proofs.Reading.{lowest_whole}
use Rattle.stp_frac.proofs.Divisors.{lcm_pos, lcm_multiple_left, lcm_multiple_right}
use Rattle.stp_schema.specs.Timed.{PlainTimedFact}
use Rattle.stp_kept.specs.KeptTasks.{LieOn, event_times, grid_of_times, longest}

longest_in_lowest : fraction (pos MAX_DURATION) 1 ≡ Some longest
unfolding fraction
longest_in_lowest = ap (λ f. if is_in_range f then Some f else None) (lowest_whole (pos MAX_DURATION))

some_same : (f g : Fraction) → Some f ≡ Some g → f ≡ g
some_same f g e = cc

none_not_some : (f : Fraction) → None ≡ Some f → ⊥
none_not_some f e = cc

pub longest_is : (f : Fraction) → Some f ≡ fraction (pos MAX_DURATION) 1 → f ≡ longest
longest_is f e = some_same f longest (e ∙ longest_in_lowest)

pub longest_is_some : None ≡ fraction (pos MAX_DURATION) 1 → ⊥
longest_is_some e = none_not_some longest (e ∙ longest_in_lowest)

-- ---- lists of times

pub put_all : {A : Type 0} (old new all : List A) (rest : List A) → rest ≡ [] → new ++ rest ≡ all → new ≡ all
put_all old new all rest e so_far = sym (append-nil new) ∙ ap (λ l. new ++ l) (sym e) ∙ so_far

-- ---- grids

grid_pos : (fs : List Frac) → 1 ≤ grid_of_times (map value_of fs)
grid_pos [] = omega arith
grid_pos (f ∷ fs) =
    let low = f.low in
    let so_far = grid_pos fs in
    let one : 0 < grid_of_times (map value_of fs) = omega (arith, so_far) in
    let other : 0 < f.bottom = omega (arith, low) in
    let all = lcm_pos (grid_of_times (map value_of fs)) f.bottom one other in
    omega (arith, all)

grid_above : (f : Frac) (fs : List Frac) → grid_of_times (map value_of fs) ≤ grid_of_times (map value_of (f ∷ fs))
grid_above f fs =
    let low = f.low in
    let so_far = grid_pos fs in
    let one : 0 < grid_of_times (map value_of fs) = omega (arith, so_far) in
    let other : 0 < f.bottom = omega (arith, low) in
    le_of_dvd (lcm_pos (grid_of_times (map value_of fs)) f.bottom one other) (lcm_multiple_left (grid_of_times (map value_of fs)) f.bottom one other)

-- fewer times have a grid that is no finer
grid_of_fewer : (fs : List Frac) (i : ℕ) → grid_of_times (map value_of (drop i fs)) ≤ grid_of_times (map value_of fs)
grid_of_fewer fs zero = omega arith
grid_of_fewer [] (suc i) = omega arith
grid_of_fewer (f ∷ fs) (suc i) =
    let one = grid_of_fewer fs i in
    let other = grid_above f fs in
    omega (arith, one, other)

pub within_is : (limit n k : ℕ) → Some k ≡ up_to limit n → k ≡ n
within_is limit n k e = grind (arith, nat_tests)

pub within_low : (limit n k : ℕ) → Some k ≡ up_to limit n → k ≤ limit
within_low limit n k e = grind (arith, nat_tests)

within_from : (limit n : ℕ) → n ≤ limit → Some n ≡ up_to limit n
within_from limit n h = grind (arith, nat_tests)

pub beyond_is : (limit n : ℕ) → None ≡ up_to limit n → limit < n
beyond_is limit n e = grind (arith, nat_tests)

beyond_from : (limit n : ℕ) → limit < n → None ≡ up_to limit n
beyond_from limit n h = grind (arith, nat_tests)

module _ (fs : List Frac) (i : ℕ) (f : Frac) (grid : ℕ) where
  grid_at : 0 < i → i ≤ length fs → f ≡ get_or fs (i - 1) f → grid ≡ grid_of_times (map value_of (drop i fs)) → lcm grid f.bottom ≡ grid_of_times (map value_of (drop (i - 1) fs))
  grid_at some h is same =
      let next : i - 1 + 1 ≡ i = omega arith in
      ap (λ g. lcm g f.bottom) (same ∙ ap (λ k. grid_of_times (map value_of (drop k fs))) (sym next))
      ∙ ap (λ g. lcm (grid_of_times (map value_of (drop (i - 1 + 1) fs))) g.bottom) is
      ∙ ap (λ l. grid_of_times (map value_of l)) (sym (drop_more fs (i - 1) f (omega arith)))

  pub grid_more : (joint : ℕ) → 0 < i → i ≤ length fs → f ≡ get_or fs (i - 1) f → grid ≡ grid_of_times (map value_of (drop i fs)) → Some joint ≡ up_to 600000 (lcm grid f.bottom) → joint ≡ grid_of_times (map value_of (drop (i - 1) fs))
  grid_more joint some h is same e = within_is 600000 (lcm grid f.bottom) joint e ∙ grid_at some h is same

  pub grid_low : (joint : ℕ) → 0 < i → i ≤ length fs → f ≡ get_or fs (i - 1) f → grid ≡ grid_of_times (map value_of (drop i fs)) → Some joint ≡ up_to 600000 (lcm grid f.bottom) → 1 ≤ joint
  grid_low joint some h is same e = let n = grid_more joint some h is same e in let p = grid_pos (drop (i - 1) fs) in omega (arith, n, p)

  pub grid_high : (joint : ℕ) → Some joint ≡ up_to 600000 (lcm grid f.bottom) → joint ≤ 600000
  grid_high joint e = within_low 600000 (lcm grid f.bottom) joint e

  pub grid_beyond : 0 < i → i ≤ length fs → f ≡ get_or fs (i - 1) f → grid ≡ grid_of_times (map value_of (drop i fs)) → None ≡ up_to 600000 (lcm grid f.bottom) → None ≡ up_to 600000 (grid_of_times (map value_of fs))
  grid_beyond some h is same e =
      let past = beyond_is 600000 (lcm grid f.bottom) e in
      let at = grid_at some h is same in
      let more = grid_of_fewer fs (i - 1) in
      beyond_from 600000 (grid_of_times (map value_of fs)) (omega (arith, past, at, more))

pub grid_all : (fs : List Frac) (i grid : ℕ) → i ≡ 0 → grid ≤ 600000 → grid ≡ grid_of_times (map value_of (drop i fs)) → Some grid ≡ up_to 600000 (grid_of_times (map value_of fs))
grid_all fs i grid e h same = within_from 600000 grid h ∙ ap (up_to 600000) (same ∙ ap (λ k. grid_of_times (map value_of (drop k fs))) e)

-- ---- what lies on a grid

abbrev Divides : ℕ → Fraction → Type 0
Divides grid f = f.bottom ∣ grid

all_divide : (fs : List Frac) (grid : ℕ) → grid_of_times (map value_of fs) ∣ grid → All (Divides grid) (map value_of fs)
all_divide [] grid h = All-nil (Divides grid)
all_divide (f ∷ fs) grid h =
    let low = f.low in
    let so_far = grid_pos fs in
    let one : 0 < grid_of_times (map value_of fs) = omega (arith, so_far) in
    let other : 0 < f.bottom = omega (arith, low) in
    All-cons (Divides grid) (value_of f) (map value_of fs)
    (dvd_trans f.bottom (lcm_multiple_right (grid_of_times (map value_of fs)) f.bottom one other) h)
    (all_divide fs grid (dvd_trans (grid_of_times (map value_of fs)) (lcm_multiple_left (grid_of_times (map value_of fs)) f.bottom one other) h))

events_lie : (bounds : List Fraction) (events : List PlainTimedFact) (grid : ℕ) → All (Divides grid) (bounds ++ event_times events) → All (λ (e : PlainTimedFact). e.high.bottom ∣ grid) events
events_lie [] [] grid h = All-nil (λ (e : PlainTimedFact). e.high.bottom ∣ grid)
events_lie [] (e ∷ es) grid h =
    All-cons (λ (e : PlainTimedFact). e.high.bottom ∣ grid) e es (All-head (Divides grid) e.high (event_times es) h)
    (events_lie [] es grid (All-tail (Divides grid) e.high (event_times es) h))
events_lie (b ∷ bs) events grid h = events_lie bs events grid (All-tail (Divides grid) b (bs ++ event_times events) h)

-- the events of times that have a grid which is coarse enough lie on it
pub lie_where : (fs : List Frac) (bounds : List Fraction) (events : List PlainTimedFact) (r : Option ℕ) → map value_of fs ≡ bounds ++ event_times events → r ≡ up_to 600000 (grid_of_times (map value_of fs)) → IfSome r (λ grid. LieOn grid events)
lie_where fs bounds events None e h = tt
lie_where fs bounds events (Some grid) e h =
    let same : grid ≡ grid_of_times (map value_of fs) = within_is 600000 (grid_of_times (map value_of fs)) grid h in
    let some = grid_pos fs in
    record {
      low = omega (arith, same, some);
      all = events_lie bounds events grid (subst (All (Divides grid)) e
          (all_divide fs grid (subst (λ g. grid_of_times (map value_of fs) ∣ g) (sym same) (dvd_refl (grid_of_times (map value_of fs))))));
    }

pub lie_some : (events : List PlainTimedFact) (r : Option ℕ) (grid : ℕ) → r ≡ Some grid → IfSome r (λ g. LieOn g events) → LieOn grid events
lie_some events None grid e h = cc
lie_some events (Some g) grid e h = let same : g ≡ grid = cc in subst (λ g. LieOn g events) same h
