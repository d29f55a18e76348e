-- A plan read line by line.
use Rattle.std.proofs.Common.{◌≡◌, ℕ, suc, ◌≤◌, ◌<◌, ◌+◌, ◌-◌, Bool, true, false, cond, nat_lt, List, [], ◌∷◌, ◌++◌, length, map, slice_get, filter_map, Option, Some, None, unwrap_or, Result, Err, refl, ap, ◌∙◌, sym, arith, append_assoc, ltb-true}
use Rattle.std.proofs.lemmas.Bool.{ltb-false}
use Rattle.std.proofs.lemmas.List.{append-nil, length_push}
use Rattle.std.proofs.lemmas.Simd.{map-map}
use Rattle.stp_plan.specs.declared.fault.PlanFault.{PlanFault}
use Rattle.stp_plan.specs.declared.fault.PlanFault.TheVariants.{BadLine}
use Rattle.stp_plan.specs.declared.line.Line.{Line}
use Rattle.stp_plan.specs.Lines.{texts_of, text_at}
use Rattle.stp_plan.specs.Steps.{PlainStep}
use Rattle.stp_plan.specs.Plans.{LineKind, Empty, AStep, Bad, kind_of, is_bad, is_step, step_in, numbers_of, unless_bad, unless_many, plan_in, plan_of, SoFar, with_step}

-- what comes of the lines from the one of this number on
abbrev pub read_on : ℕ → SoFar → List LineKind → Result (List PlainStep) PlanFault
read_on n so_far [] = unless_many so_far.extra so_far.steps
read_on n so_far (Empty ∷ lines) = read_on (n + 1) so_far lines
read_on n so_far (AStep step ∷ lines) = read_on (n + 1) (with_step n step so_far) lines
read_on n so_far (Bad ∷ lines) = Err (BadLine n)

-- ---- the same by the definition

abbrev either : Option ℕ → Option ℕ → Option ℕ
either None found = found
either (Some n) found = Some n

-- the refusal of these lines, or the steps, where some were kept before
abbrev rest_of : ℕ → SoFar → List LineKind → Result (List PlainStep) PlanFault
rest_of n so_far lines =
    unless_bad (slice_get (numbers_of is_bad n lines) 0)
    (unless_many (either so_far.extra (slice_get (numbers_of is_step n lines) (500 - length so_far.steps))) (so_far.steps ++ filter_map step_in lines))

either_none : (o : Option ℕ) → either o None ≡ o
either_none None = refl
either_none (Some n) = refl

either_first : (o : Option ℕ) (n : ℕ) (steps others : List PlainStep) → unless_many (either o (Some n)) steps ≡ unless_many (Some (unwrap_or o n)) others
either_first None n steps others = refl
either_first (Some m) n steps others = refl

next_number : (n m : ℕ) (numbers : List ℕ) → m < 500 → slice_get numbers (500 - (m + 1)) ≡ slice_get (n ∷ numbers) (500 - m)
next_number n m numbers h = let e : 500 - m ≡ suc (500 - (m + 1)) = omega arith in sym (ap (slice_get (n ∷ numbers)) e)

this_number : (n m : ℕ) (numbers : List ℕ) → 500 ≤ m → slice_get (n ∷ numbers) (500 - m) ≡ Some n
this_number n m numbers h = let e : 500 - m ≡ 0 = omega arith in ap (slice_get (n ∷ numbers)) e

-- the plan with one more step
abbrev pushed : PlainStep → SoFar → SoFar
pushed step so_far = record so_far { steps = so_far.steps ++ step ∷ [] }

abbrev passed : ℕ → SoFar → SoFar
passed n so_far = record so_far { extra = Some (unwrap_or so_far.extra n) }

step_pushed : (n : ℕ) (step : PlainStep) (so_far : SoFar) (lines : List LineKind) → length so_far.steps < 500 → rest_of (n + 1) (pushed step so_far) lines ≡ rest_of n so_far (AStep step ∷ lines)
step_pushed n step so_far lines h =
    let numbers : List ℕ = numbers_of is_step (n + 1) lines in
    let bad : Option ℕ = slice_get (numbers_of is_bad (n + 1) lines) 0 in
    ap (λ m. unless_bad bad (unless_many (either so_far.extra (slice_get numbers (500 - m))) ((so_far.steps ++ step ∷ []) ++ filter_map step_in lines))) (length_push so_far.steps step)
    ∙ ap (λ o. unless_bad bad (unless_many (either so_far.extra o) ((so_far.steps ++ step ∷ []) ++ filter_map step_in lines))) (next_number n (length so_far.steps) numbers h)
    ∙ ap (λ steps. unless_bad bad (unless_many (either so_far.extra (slice_get (n ∷ numbers) (500 - length so_far.steps))) steps)) (append_assoc so_far.steps (step ∷ []) (filter_map step_in lines))

step_passed : (n : ℕ) (step : PlainStep) (so_far : SoFar) (lines : List LineKind) → 500 ≤ length so_far.steps → rest_of (n + 1) (passed n so_far) lines ≡ rest_of n so_far (AStep step ∷ lines)
step_passed n step so_far lines h =
    let numbers : List ℕ = numbers_of is_step (n + 1) lines in
    let bad : Option ℕ = slice_get (numbers_of is_bad (n + 1) lines) 0 in
    ap (unless_bad bad) (sym (either_first so_far.extra n (so_far.steps ++ step ∷ filter_map step_in lines) (so_far.steps ++ filter_map step_in lines)))
    ∙ ap (λ o. unless_bad bad (unless_many (either so_far.extra o) (so_far.steps ++ step ∷ filter_map step_in lines))) (sym (this_number n (length so_far.steps) numbers h))

step_kept : (n : ℕ) (step : PlainStep) (so_far : SoFar) (lines : List LineKind) (few : Bool) → nat_lt (length so_far.steps) 500 ≡ few → rest_of (n + 1) (with_step n step so_far) lines ≡ rest_of n so_far (AStep step ∷ lines)
step_kept n step so_far lines true e =
    ap (λ b. rest_of (n + 1) (cond b (pushed step so_far) (passed n so_far)) lines) e ∙ step_pushed n step so_far lines (ltb-true _ _ e)
step_kept n step so_far lines false e =
    ap (λ b. rest_of (n + 1) (cond b (pushed step so_far) (passed n so_far)) lines) e ∙ step_passed n step so_far lines (ltb-false _ _ e)

read_on_is : (n : ℕ) (so_far : SoFar) (lines : List LineKind) → read_on n so_far lines ≡ rest_of n so_far lines
read_on_is n so_far [] = sym (ap (λ o. unless_many o (so_far.steps ++ [])) (either_none so_far.extra) ∙ ap (unless_many so_far.extra) (append-nil so_far.steps))
read_on_is n so_far (Empty ∷ lines) = read_on_is (n + 1) so_far lines
read_on_is n so_far (AStep step ∷ lines) = read_on_is (n + 1) (with_step n step so_far) lines ∙ step_kept n step so_far lines (nat_lt (length so_far.steps) 500) refl
read_on_is n so_far (Bad ∷ lines) = refl

-- ---- lines by their places

-- what a line is that stands at a place
abbrev pub kind_at : List ℕ → Line → LineKind
kind_at bytes line = kind_of (text_at bytes line)

-- nothing is kept yet
pub plan_start : (bytes : List ℕ) (found : List Line) (none : List PlainStep) → none ≡ [] → map (text_at bytes) found ≡ texts_of bytes → read_on 1 (record { steps = none; extra = None }) (map (kind_at bytes) found) ≡ plan_of bytes
unfolding plan_of plan_in
plan_start bytes found none n e =
    ap (λ (steps : List PlainStep). read_on 1 (record { steps = steps; extra = None }) (map (kind_at bytes) found)) n
    ∙ ap (read_on 1 (record { steps = []; extra = None })) (sym (map-map kind_of (text_at bytes) found) ∙ ap (map kind_of) e)
    ∙ read_on_is 1 (record { steps = []; extra = None }) (map kind_of (texts_of bytes))
