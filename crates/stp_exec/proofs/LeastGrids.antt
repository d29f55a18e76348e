-- The base grid is the least one on which all steps and events lie, and finer grids keep moments.
use Rattle.std.proofs.Common.{◌≡◌, ℕ, ◌+◌, ◌*◌, ◌/◌, ◌<◌, ◌&&◌, nat_lt, Bool, true, List, [], ◌∷◌, flat_map, unsigned_abs, refl, sym, ap, ap₂, ◌∙◌, arith, mul-add, mul-div_cancel}
use Rattle.std.specs.List.{list_all}
use Prim.Native.Nat.{◌∣◌}
use Rattle.std.proofs.lemmas.Bool.Decides.{nat_tests}
use Rattle.std.proofs.lemmas.Nat.Gcd.{dvd_refl}
use Rattle.std.proofs.lemmas.List.Folds.{list_all-append}
use Rattle.std.proofs.Math.Nat.{one-dvd, div-mul_cancel}
use Rattle.stp_frac.specs.Divisors.{divides}
use Rattle.stp_frac.specs.Fractions.{Fraction}
use Rattle.stp_frac.proofs.Divisors.{divides_to, left_true, right_true, lcm_least}
use Rattle.stp_exec.specs.Held.{PlainHeld, Instant, Fixed, Open}
use Rattle.stp_exec.specs.Timed.{PlainTimes, denominators, event_denominators, held_denominators, all_denominators, common_multiple, base_grid, count_of, ends_of, moments_between}
use Rattle.stp_exec.specs.GridLaws.{are_proper, TimesLieOnTheBaseGrid, TheBaseGridIsLeast, finer, FinerGridsKeepMoments, FinerGridsKeepEvents}
use Rattle.stp_exec.proofs.Multiples.{Positive, common_pos}
use Rattle.stp_exec.proofs.Joining.{denominators_lie}
use Rattle.stp_exec.proofs.Bounds.{Lies, HeldLies, bottom_pos, first_lies, second_lies}

-- ---- the denominators of all steps and events

all_of_each : {A : Type 0} (p : ℕ → Bool) (bottoms : A → List ℕ) (xs : List A) → list_all p (flat_map bottoms xs) ≡ list_all (λ x. list_all p (bottoms x)) xs
all_of_each p bottoms [] = refl
all_of_each p bottoms (x ∷ xs) =
    list_all-append p (bottoms x) (flat_map bottoms xs) ∙ ap (λ b. list_all p (bottoms x) && b) (all_of_each p bottoms xs)

denominators_of_all : (p : ℕ → Bool) (times : PlainTimes) → list_all p (all_denominators times) ≡ (list_all (λ step. list_all p (denominators step)) times.steps && list_all (λ e. list_all p (event_denominators e)) times.events)
denominators_of_all p times =
    list_all-append p (flat_map denominators times.steps) (flat_map event_denominators times.events)
    ∙ ap₂ (λ a b. a && b) (all_of_each p denominators times.steps) (all_of_each p event_denominators times.events)

above_none : (d : ℕ) → nat_lt 0 d ≡ true → 0 < d
above_none d h = grind (arith, nat_tests)

positive_from : (ns : List ℕ) → list_all (λ d. nat_lt 0 d) ns ≡ true → Positive ns
positive_from [] h = tt
positive_from (n ∷ ns) h = (above_none n (left_true (nat_lt 0 n) (list_all (λ d. nat_lt 0 d) ns) h), positive_from ns (right_true (nat_lt 0 n) (list_all (λ d. nat_lt 0 d) ns) h))

proper_positive : (times : PlainTimes) → are_proper times ≡ true → Positive (all_denominators times)
proper_positive times h = positive_from (all_denominators times) (denominators_of_all (λ d. nat_lt 0 d) times ∙ h)

-- ---- the base grid

pub times_lie_on_the_base_grid : TimesLieOnTheBaseGrid
times_lie_on_the_base_grid times h =
    sym (denominators_of_all (λ d. divides d (base_grid times)) times)
    ∙ denominators_lie (all_denominators times) (base_grid times) (proper_positive times h) (dvd_refl (base_grid times))

common_least : (ns : List ℕ) (g : ℕ) → Positive ns → list_all (λ d. divides d g) ns ≡ true → common_multiple ns ∣ g
common_least [] g p h = one-dvd g
common_least (n ∷ ns) g p h =
    lcm_least n (common_multiple ns) g p.0 (common_pos ns p.1)
    (divides_to n g (left_true (divides n g) (list_all (λ d. divides d g) ns) h))
    (common_least ns g p.1 (right_true (divides n g) (list_all (λ d. divides d g) ns) h))

pub the_base_grid_is_least : TheBaseGridIsLeast
the_base_grid_is_least times g h l =
    common_least (all_denominators times) g (proper_positive times h) (denominators_of_all (λ d. divides d g) times ∙ l)

-- ---- finer grids

part_finer : (k grid b : ℕ) → 0 < b → b ∣ grid → k * grid / b ≡ k * (grid / b)
part_finer k grid b pb h =
    let is : k * grid ≡ k * (grid / b) * b = ap (λ n. k * n) (sym (div-mul_cancel b h)) ∙ (omega arith) in
    ap (λ n. n / b) is ∙ mul-div_cancel (k * (grid / b)) pb

count_finer : (k grid : ℕ) (f : Fraction) → 0 < grid → Lies grid f → count_of (k * grid) f ≡ k * count_of grid f
count_finer k grid f pg l =
    ap (λ n. unsigned_abs f.top * n) (part_finer k grid f.bottom (bottom_pos grid f pg l) (divides_to f.bottom grid l)) ∙ (omega arith)

sum_finer : (k s c t d : ℕ) → s ≡ k * t → c ≡ k * d → s + c ≡ k * (t + d)
sum_finer k s c t d e e' = ap₂ (λ x y. x + y) e e' ∙ sym (mul-add k t d)

moments_same : (s t l m h n : ℕ) → s ≡ t → l ≡ m → h ≡ n → moments_between s (l, h) ≡ moments_between t (m, n)
moments_same s t l m h n e e' e'' = ap (λ x. moments_between x (l, h)) e ∙ ap₂ (λ x y. moments_between t (x, y)) e' e''

ends_finer : (k grid s t : ℕ) (held : PlainHeld) → 0 < grid → s ≡ k * t → HeldLies grid held → moments_between s (ends_of (k * grid) s held) ≡ finer k (moments_between t (ends_of grid t held))
ends_finer k grid s t Instant pg e l = moments_same s (k * t) s (k * t) s (k * t) e e e
ends_finer k grid s t (Fixed duration) pg e l =
    let end = sum_finer k s (count_of (k * grid) duration) t (count_of grid duration) e (count_finer k grid duration pg (first_lies grid duration true l)) in
    moments_same s (k * t) (s + count_of (k * grid) duration) (k * (t + count_of grid duration)) (s + count_of (k * grid) duration) (k * (t + count_of grid duration)) e end end
ends_finer k grid s t (Open low high) pg e l =
    moments_same s (k * t) (s + count_of (k * grid) low) (k * (t + count_of grid low)) (s + count_of (k * grid) high) (k * (t + count_of grid high)) e
    (sum_finer k s (count_of (k * grid) low) t (count_of grid low) e (count_finer k grid low pg (first_lies grid low (divides high.bottom grid && true) l)))
    (sum_finer k s (count_of (k * grid) high) t (count_of grid high) e (count_finer k grid high pg (second_lies grid low high l)))

pub finer_grids_keep_moments : FinerGridsKeepMoments
finer_grids_keep_moments step k grid pg l =
    ends_finer k grid (count_of (k * grid) step.start) (count_of grid step.start) step.held pg
    (count_finer k grid step.start pg (left_true (divides step.start.bottom grid) (list_all (λ d. divides d grid) (held_denominators step.held)) l))
    (right_true (divides step.start.bottom grid) (list_all (λ d. divides d grid) (held_denominators step.held)) l)

pub finer_grids_keep_events : FinerGridsKeepEvents
finer_grids_keep_events e k grid pg l = (
  count_finer k grid e.low pg (first_lies grid e.low (divides e.high.bottom grid && true) l),
  count_finer k grid e.high pg (second_lies grid e.low e.high l),
)
