-- The steps of a plan in their places, one after the other.
use Rattle.std.proofs.Common.{◌≡◌, ℕ, ◌+◌, ◌<◌, ◌≤◌, false, List, [], ◌∷◌, ◌++◌, length, map, drop, get_or, Option, Some, None, Result, Ok, Err, IfOk, refl, sym, ap, ap₂, ◌∙◌, subst, append_assoc, arith, true, ◌&&◌, ◌==◌, bytes_eq, eq-eqb}
use Rattle.std.specs.List.{All}
use Rattle.std.proofs.lemmas.List.{append-nil, drop_more, drop_all, map_push, length-map}
use Rattle.std.proofs.Math.ListN.{get_or-map}
use Rattle.std.proofs.lemmas.List.Elements.{All-nil, All-cons, All-head, All-tail, All-map}
use Rattle.stp_frac.specs.Fractions.{is_below_zero}
use Rattle.stp_frac.proofs.Divisors.{both_true}
use Rattle.stp_refusal.specs.declared.code.Code.{Code}
use Rattle.stp_schema.specs.Views.{PlainProblem}
use Rattle.stp_ground.specs.declared.fault.InstanceFault.{InstanceFault}
use Rattle.stp_ground.specs.Chosen.{PlainChosen, chosen_by}
use Rattle.stp_plan.specs.declared.steps.Step.{Step}
use Rattle.stp_plan.specs.Laws.{IsAbove, IsLawfulPlan, bracket_numbers}
use Rattle.stp_plan.specs.Steps.{PlainStep}
use Rattle.stp_plan.specs.Views.{plain_step}
use Rattle.stp_exec.specs.Held.{PlainHeld, held_of}
use Rattle.stp_exec.specs.declared.fault.ExecFault.{ExecFault}
use Rattle.stp_exec.specs.declared.fault.ExecFault.TheVariants as faults
use Rattle.stp_exec.specs.declared.placed.Placed.{Placed}
use Rattle.stp_base.specs.Results.{◌>>=◌}
use Rattle.stp_exec.specs.Faults.{choice_fault, or_fault, step_number, unless}
use Rattle.stp_exec.specs.Placed.{PlainPlaced, placed_at, placed_step, placed_from}
use Rattle.stp_exec.specs.Views.{plain_placed}
use Rattle.stp_exec.specs.Plans.{HasLowestTerms, IsStepOf, IsPlan}
use Rattle.stp_exec.specs.Boxed.{beyond_limits}
use Rattle.stp_exec.specs.Laws.{PlacedStepsArePlans, SameWordsAreOneAction}
use Rattle.stp_exec.proofs.Fitting.{AnswerFits, held_fits, times_are_lowest}

-- ---- one step

module _ (p : PlainProblem) (n : ℕ) (s : PlainStep) where
  abbrev then_placed : PlainChosen → Result PlainHeld ExecFault → Result PlainPlaced ExecFault
  then_placed c r = r >>= (λ (held : PlainHeld). Ok (placed_at c s.at held))

  -- what a bracket makes of a choice
  abbrev then_held : PlainChosen → Result PlainPlaced ExecFault
  then_held c = then_placed c (or_fault (faults.Step (step_number n)) (held_of c.duration s.bracket))

  abbrev then_all : Result PlainChosen InstanceFault → Result PlainPlaced ExecFault
  then_all r = or_fault (choice_fault (step_number n)) r >>= then_held

  pub not_chosen_is : (fault : InstanceFault) → chosen_by p s.name s.args ≡ Err fault → placed_step n p s ≡ Err (choice_fault (step_number n) fault)
  not_chosen_is fault e = ap then_all e

  pub not_held_is : (c : PlainChosen) (code : Code) → chosen_by p s.name s.args ≡ Ok c → held_of c.duration s.bracket ≡ Err code → placed_step n p s ≡ Err (faults.Step (step_number n) code)
  not_held_is c code e f = ap then_all e ∙ ap (λ (r : Result PlainHeld Code). then_placed c (or_fault (faults.Step (step_number n)) r)) f

  pub step_is_placed : (c : PlainChosen) (held : PlainHeld) → chosen_by p s.name s.args ≡ Ok c → held_of c.duration s.bracket ≡ Ok held → placed_step n p s ≡ Ok (placed_at c s.at held)
  step_is_placed c held e f = ap then_all e ∙ ap (λ (r : Result PlainHeld Code). then_placed c (or_fault (faults.Step (step_number n)) r)) f

-- ---- all steps

-- steps in their places, and then those that are left
abbrev pub joined : List PlainPlaced → Result (List PlainPlaced) ExecFault → Result (List PlainPlaced) ExecFault
joined placed left = left >>= (λ (others : List PlainPlaced). Ok (placed ++ others))

joined_next : (placed : List PlainPlaced) (one : PlainPlaced) (left : Result (List PlainPlaced) ExecFault) → joined placed (left >>= (λ (others : List PlainPlaced). Ok (one ∷ others))) ≡ joined (placed ++ one ∷ []) left
joined_next placed one (Ok others) = ap Ok (sym (append_assoc placed (one ∷ []) others))
joined_next placed one (Err fault) = refl

abbrev pub IsPlacedSoFar : PlainProblem → List Step → ℕ → List Placed → Type 0
IsPlacedSoFar p steps i placed = joined (map plain_placed placed) (placed_from (i + 1) p (map plain_step (drop i steps))) ≡ placed_from 1 p (map plain_step steps)

joined_none : (left : Result (List PlainPlaced) ExecFault) → joined [] left ≡ left
joined_none (Ok others) = refl
joined_none (Err fault) = refl

pub placed_none : (p : PlainProblem) (steps : List Step) → IsPlacedSoFar p steps 0 []
placed_none p steps = joined_none (placed_from 1 p (map plain_step steps))

module _ (p : PlainProblem) (steps : List Step) (i : ℕ) (step : Step) (h : i < length steps) (is : get_or steps i step ≡ step) where
  abbrev then_others : Result PlainPlaced ExecFault → Result (List PlainPlaced) ExecFault
  then_others r = r >>= (λ (one : PlainPlaced). placed_from (i + 1 + 1) p (map plain_step (drop (i + 1) steps)) >>= (λ (others : List PlainPlaced). Ok (one ∷ others)))

  left_is : placed_from (i + 1) p (map plain_step (drop i steps)) ≡ then_others (placed_step (i + 1) p (plain_step step))
  left_is = ap (λ l. placed_from (i + 1) p (map plain_step l)) (drop_more steps i step h ∙ ap (λ s. s ∷ drop (i + 1) steps) is)

  pub placed_next : (placed : List Placed) (one : Placed) → placed_step (i + 1) p (plain_step step) ≡ Ok (plain_placed one) → IsPlacedSoFar p steps i placed → IsPlacedSoFar p steps (i + 1) (placed ++ one ∷ [])
  placed_next placed one e so_far =
      let rest = placed_from (i + 1 + 1) p (map plain_step (drop (i + 1) steps)) in
      ap (λ l. joined l rest) (map_push plain_placed placed one)
      ∙ sym (joined_next (map plain_placed placed) (plain_placed one) rest)
      ∙ ap (joined (map plain_placed placed)) (sym (left_is ∙ ap then_others e))
      ∙ so_far

  pub placed_fault : (placed : List Placed) (fault : ExecFault) → placed_step (i + 1) p (plain_step step) ≡ Err fault → IsPlacedSoFar p steps i placed → placed_from 1 p (map plain_step steps) ≡ Err fault
  placed_fault placed fault e so_far = sym so_far ∙ ap (joined (map plain_placed placed)) (left_is ∙ ap then_others e)

pub placed_done : (p : PlainProblem) (steps : List Step) (i : ℕ) (placed : List Placed) → length steps ≤ i → IsPlacedSoFar p steps i placed → placed_from 1 p (map plain_step steps) ≡ Ok (map plain_placed placed)
placed_done p steps i placed h so_far =
    sym so_far
    ∙ ap (λ l. joined (map plain_placed placed) (placed_from (i + 1) p (map plain_step l))) (drop_all i steps h)
    ∙ ap Ok (append-nil (map plain_placed placed))

-- ---- what is placed is a plan

abbrev IsFound : PlainProblem → PlainPlaced → Type 0
IsFound p s = HasLowestTerms s.timed → IsStepOf p s

abbrev AreFound : PlainProblem → List PlainPlaced → Type 0
AreFound p steps = All (λ s. HasLowestTerms s.timed) steps → IsPlan p steps

module _ (p : PlainProblem) (n : ℕ) (s : PlainStep) (above : is_below_zero s.at.top ≡ false) where
  found_held : (c : PlainChosen) → chosen_by p s.name s.args ≡ Ok c → (r : Result PlainHeld Code) → AnswerFits c.duration r → IfOk (then_placed p n s c (or_fault (faults.Step (step_number n)) r)) (IsFound p)
  found_held c e (Ok held) fit = λ low. record { instance = (s.name, (s.args, e)); start = above; lasts = fit; lowest = low }
  found_held c e (Err code) fit = tt

  found_chosen : (r : Result PlainChosen InstanceFault) → chosen_by p s.name s.args ≡ r → IfOk (then_all p n s r) (IsFound p)
  found_chosen (Ok c) e = found_held c e (held_of c.duration s.bracket) (held_fits c.duration s.bracket)
  found_chosen (Err fault) e = tt

found_more : (p : PlainProblem) (one : Result PlainPlaced ExecFault) (others : Result (List PlainPlaced) ExecFault) → IfOk one (IsFound p) → IfOk others (AreFound p) → IfOk (one >>= (λ (x : PlainPlaced). others >>= (λ (xs : List PlainPlaced). Ok (x ∷ xs)))) (AreFound p)
found_more p (Ok x) (Ok xs) h k = λ low.
    All-cons (IsStepOf p) x xs (h (All-head (λ (s : PlainPlaced). HasLowestTerms s.timed) x xs low)) (k (All-tail (λ (s : PlainPlaced). HasLowestTerms s.timed) x xs low))
found_more p (Ok x) (Err fault) h k = tt
found_more p (Err fault) others h k = tt

abbrev pub StartsAbove : List PlainStep → Type 0
StartsAbove plan = All (λ s. is_below_zero s.at.top ≡ false) plan

all_found : (p : PlainProblem) (n : ℕ) (plan : List PlainStep) → StartsAbove plan → IfOk (placed_from n p plan) (AreFound p)
all_found p n [] above = λ _. All-nil (IsStepOf p)
all_found p n (s ∷ plan) above =
    found_more p (placed_step n p s) (placed_from (n + 1) p plan)
    (found_chosen p n s (All-head (λ (s : PlainStep). is_below_zero s.at.top ≡ false) s plan above) (chosen_by p s.name s.args) refl)
    (all_found p (n + 1) plan (All-tail (λ (s : PlainStep). is_below_zero s.at.top ≡ false) s plan above))

found_within : (p : PlainProblem) (steps : List PlainPlaced) (limit : Option ExecFault) → AreFound p steps → IfOk (unless limit steps) (AreFound p)
found_within p steps None h = h
found_within p steps (Some fault) h = tt

found_in_limits : (p : PlainProblem) (r : Result (List PlainPlaced) ExecFault) → IfOk r (AreFound p) → IfOk (r >>= (λ (steps : List PlainPlaced). unless (beyond_limits p steps) steps)) (AreFound p)
found_in_limits p (Ok steps) h = found_within p steps (beyond_limits p steps) h
found_in_limits p (Err fault) h = tt

pub placed_steps_are_plans : PlacedStepsArePlans
placed_steps_are_plans p plan placed e above =
    subst (λ (r : Result (List PlainPlaced) ExecFault). IfOk r (AreFound p)) e (found_in_limits p (placed_from 1 p plan) (all_found p 1 plan above))

pub placed_is_plan : (p : PlainProblem) (plan : List PlainStep) (placed : List Placed) → placed_from 1 p plan ≡ Ok (map plain_placed placed) → StartsAbove plan → IsPlan p (map plain_placed placed)
placed_is_plan p plan placed e above =
    subst (λ (r : Result (List PlainPlaced) ExecFault). IfOk r (AreFound p)) e
    (all_found p 1 plan above)
    (All-map (λ (s : PlainPlaced). HasLowestTerms s.timed) plain_placed placed (λ k d within. times_are_lowest (get_or placed k d).timed))

-- the start of a step of a plan whose steps start from 0 on
pub start_above : (steps : List Step) (i : ℕ) (step : Step) → StartsAbove (map plain_step steps) → i < length steps → get_or steps i step ≡ step → is_below_zero (plain_step step).at.top ≡ false
start_above steps i step above h is =
    let within : i < length (map plain_step steps) = omega (arith, length-map steps plain_step) in
    subst (λ (s : PlainStep). is_below_zero s.at.top ≡ false) (get_or-map plain_step steps i step ∙ ap plain_step is)
    (above i (plain_step step) within)

-- the steps of a plan that was read start from 0 on
pub lawful_starts : (plan : List PlainStep) → IsLawfulPlan IsAbove plan → StartsAbove plan
lawful_starts plan lawful = λ k d within. All-head IsAbove (get_or plan k d).at (bracket_numbers (get_or plan k d).bracket) (lawful.steps k d within).numbers

-- ---- actions

abbrev IsChoiceOf : PlainProblem → PlainStep → PlainPlaced → Type 0
IsChoiceOf p s x = chosen_by p s.name s.args ≡ Ok x.chosen

module _ (p : PlainProblem) (n : ℕ) (s : PlainStep) where
  chosen_held : (c : PlainChosen) → chosen_by p s.name s.args ≡ Ok c → (r : Result PlainHeld Code) → IfOk (then_placed p n s c (or_fault (faults.Step (step_number n)) r)) (IsChoiceOf p s)
  chosen_held c e (Ok held) = e
  chosen_held c e (Err code) = tt

  chosen_is : (r : Result PlainChosen InstanceFault) → chosen_by p s.name s.args ≡ r → IfOk (then_all p n s r) (IsChoiceOf p s)
  chosen_is (Ok c) e = chosen_held c e (held_of c.duration s.bracket)
  chosen_is (Err fault) e = tt

  pub choice_is : (x : PlainPlaced) → placed_step n p s ≡ Ok x → IsChoiceOf p s x
  choice_is x e = subst (λ (r : Result PlainPlaced ExecFault). IfOk r (IsChoiceOf p s)) e (chosen_is (chosen_by p s.name s.args) refl)

same_list : (xs : List ℕ) → bytes_eq xs xs ≡ true
same_list [] = refl
same_list (x ∷ xs) = both_true (x == x) (bytes_eq xs xs) (eq-eqb x x refl) (same_list xs)

same_choice : (c d : PlainChosen) → c ≡ d → ((c.schema == d.schema) && bytes_eq c.args d.args) ≡ true
same_choice c d e =
    ap (λ (x : PlainChosen). (c.schema == x.schema) && bytes_eq c.args x.args) (sym e)
    ∙ both_true (c.schema == c.schema) (bytes_eq c.args c.args) (eq-eqb c.schema c.schema refl) (same_list c.args)

chosen_alike : (c d : PlainChosen) (r : Result PlainChosen InstanceFault) → r ≡ Ok c → r ≡ Ok d → c ≡ d
chosen_alike c d r e f = cc

pub same_words_are_one_action : SameWordsAreOneAction
same_words_are_one_action p i j s t x y e f names args =
    same_choice x.chosen y.chosen
    (chosen_alike x.chosen y.chosen (chosen_by p s.name s.args) (choice_is p i s x e) (ap₂ (chosen_by p) names args ∙ choice_is p j t y f))
