-- Times of steps, and the limits that they keep.
use Rattle.std.proofs.Common.{◌≡◌, ℕ, ◌+◌, ◌≤◌, Bool, true, false, if◌then◌else◌, List, [], ◌∷◌, map, get_or, Option, Some, None, refl, sym, ap, ◌∙◌, subst, arith}
use Rattle.std.specs.Prelude.{nat_le, option_map}
use Rattle.std.specs.List.{All}
use Rattle.std.proofs.lemmas.Bool.Decides.{nat_tests}
use Rattle.std.proofs.lemmas.List.Elements.{All-nil, All-cons, All-head, All-tail, All-map}
use Rattle.stp_frac.specs.Fractions.{up_to}
use Rattle.stp_exec.specs.declared.timed_step.TimedStep.{TimedStep}
use Rattle.stp_exec.specs.Timed.{PlainTimedStep, PlainTimes, plain_timed, is_lawful_timed, base_grid, lies_on, is_too_late, late_from, first_too_late}
use Rattle.stp_exec.specs.declared.fault.ExecFault.TheVariants.{GridTooFine}
use Rattle.stp_exec.specs.declared.placed.Placed.{Placed}
use Rattle.stp_exec.specs.Times.{IsTimely}
use Rattle.stp_exec.specs.Placed.{step_times}
use Rattle.stp_exec.specs.Views.{plain_placed}
use Rattle.stp_exec.specs.Boxed.{too_large, beyond}

-- ---- times

abbrev pub timed_of : List Placed → List TimedStep
timed_of placed = map (λ (s : Placed). s.timed) placed

pub times_are : (placed : List Placed) → map plain_timed (timed_of placed) ≡ step_times (map plain_placed placed)
times_are [] = refl
times_are (s ∷ placed) = ap (λ l. plain_timed s.timed ∷ l) (times_are placed)

pub times_are_lawful : (placed : List Placed) → All (λ step. is_lawful_timed (plain_timed step) ≡ true) (timed_of placed)
times_are_lawful placed = All-map (λ (step : TimedStep). is_lawful_timed (plain_timed step) ≡ true) (λ (s : Placed). s.timed) placed (λ k d within. (get_or placed k d).lawful)

-- ---- limits

fine_if : (b : Bool) (n : ℕ) → None ≡ (if b then Some n else None) → b ≡ false
fine_if true n e = cc
fine_if false n e = refl

pub fine_beyond : (times : PlainTimes) → None ≡ up_to 999999999 (base_grid times) → beyond times ≡ Some GridTooFine
fine_beyond times e = ap (λ b. if b then option_map too_large (first_too_late times.steps) else Some GridTooFine) (fine_if (nat_le (base_grid times) 999999999) (base_grid times) e)

is_coarse : (g n : ℕ) → g ≡ n → g ≤ 999999999 → nat_le n 999999999 ≡ true
is_coarse g n e h = grind (arith, nat_tests)

coarse_beyond : (times : PlainTimes) (g : ℕ) → g ≡ base_grid times → g ≤ 999999999 → beyond times ≡ option_map too_large (first_too_late times.steps)
coarse_beyond times g e h = ap (λ b. if b then option_map too_large (first_too_late times.steps) else Some GridTooFine) (is_coarse g (base_grid times) e h)

pub none_beyond : (times : PlainTimes) (g : ℕ) → g ≡ base_grid times → g ≤ 999999999 → None ≡ first_too_late times.steps → beyond times ≡ None
none_beyond times g e h f = coarse_beyond times g e h ∙ ap (option_map too_large) (sym f)

early_first : (b : Bool) (n : ℕ) (others : Option ℕ) → (if b then Some n else others) ≡ None → (b ≡ false) × (others ≡ None)
early_first true n others e = cc
early_first false n others e = (refl, e)

early_all : (n : ℕ) (times : List TimedStep) → late_from n (map plain_timed times) ≡ None → All (λ t. is_too_late (plain_timed t) ≡ false) times
early_all n [] e = All-nil (λ (t : TimedStep). is_too_late (plain_timed t) ≡ false)
early_all n (t ∷ times) e =
    let parts : (is_too_late (plain_timed t) ≡ false) × (late_from (n + 1) (map plain_timed times) ≡ None) = early_first (is_too_late (plain_timed t)) n (late_from (n + 1) (map plain_timed times)) e in
    All-cons (λ (t : TimedStep). is_too_late (plain_timed t) ≡ false) t times parts.0 (early_all (n + 1) times parts.1)

pub all_timely : (grid : ℕ) (times : List TimedStep) → All (λ step. lies_on grid (plain_timed step) ≡ true) times → None ≡ first_too_late (map plain_timed times) → All (λ step. IsTimely grid (plain_timed step)) times
all_timely grid times lies e = λ k d within. record { lies = lies k d within; early = early_all 1 times (sym e) k d within }

-- the same of steps with these times
placed_timely : (grid : ℕ) (placed : List Placed) → All (IsTimely grid) (step_times (map plain_placed placed)) → All (λ s. IsTimely grid (plain_timed s.timed)) placed
placed_timely grid [] h = All-nil (λ (s : Placed). IsTimely grid (plain_timed s.timed))
placed_timely grid (s ∷ placed) h =
    All-cons (λ (s : Placed). IsTimely grid (plain_timed s.timed)) s placed
    (All-head (IsTimely grid) (plain_timed s.timed) (step_times (map plain_placed placed)) h)
    (placed_timely grid placed (All-tail (IsTimely grid) (plain_timed s.timed) (step_times (map plain_placed placed)) h))

pub all_placed_timely : (grid : ℕ) (times : List TimedStep) (placed : List Placed) → map plain_timed times ≡ step_times (map plain_placed placed) → All (λ step. IsTimely grid (plain_timed step)) times → All (λ s. IsTimely grid (plain_timed s.timed)) placed
all_placed_timely grid times placed e h =
    placed_timely grid placed (subst (λ (l : List PlainTimedStep). All (IsTimely grid) l) e (All-map (IsTimely grid) plain_timed times h))
