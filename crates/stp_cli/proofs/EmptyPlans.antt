-- Where the task of a problem is accepted, the plan without steps is within all limits.
use Rattle.std.proofs.Common.{◌≡◌, ◌||◌, ℕ, ◌<◌, ◌≤◌, nat_le, nat_lt, Bool, true, false, if◌then◌else◌, List, [], ◌∷◌, length, flat_map, Option, Some, None, option_map, Ok, refl, sym, ap, ◌∙◌, subst, arith}
use Rattle.std.proofs.lemmas.Bool.Decides.{nat_tests}
use Rattle.std.proofs.Common.{Ordering, Less, Equal, Greater}
use Rattle.std.specs.Ordering.{is_lt, is_le}
use Rattle.std.specs.List.{All, list_any}
use Rattle.std.proofs.lemmas.List.Elements.{All-nil, All-head, All-tail}
use Prim.Native.Nat.{◌∣◌}
use Rattle.std.proofs.Math.Nat.{one-dvd}
use Rattle.std.proofs.lemmas.Nat.Gcd.{le_of_dvd}
use Rattle.stp_base.specs.declared.limits.TheConstants.{MAX_ACTIONS, MAX_ACTION_NODES, MAX_ATOMS, MAX_BINDINGS, MAX_DURATION_GRID}
use Rattle.stp_frac.specs.Divisors.{lcm}
use Rattle.stp_frac.specs.Fractions.{Fraction, value_of, order_of}
use Rattle.stp_frac.proofs.Divisors.{lcm_least, lcm_pos}
use Rattle.stp_frac.proofs.Values.{same_from_order}
use Rattle.stp_schema.specs.declared.timed.TimedFact.{TimedFact}
use Rattle.stp_schema.specs.Timed.{IsTimedFact, PlainTimedFact, is_chosen, timed_fact_of, timed_facts_of}
use Rattle.stp_schema.specs.Views.{PlainProblem}
use Rattle.stp_task.specs.Tasks.{PlainTask}
use Rattle.stp_kept.specs.declared.fault.GroundFault.{GroundFault}
use Rattle.stp_kept.specs.declared.fault.GroundFault.TheVariants.{UncontrollableEvent, TooManyBindings, TooManyActions, TooManyNodes, TooManyAtoms}
use Rattle.stp_kept.specs.Instances.{kept}
use Rattle.stp_kept.specs.Counts.{binding_count, node_count}
use Rattle.stp_kept.specs.KeptTasks.{LieOn, first_too_long, refusal_by, task_atoms, task_grid, task_of, task_or_fault, unless_refused}
use Rattle.stp_exec.specs.declared.fault.ExecFault.TheVariants as execs
use Rattle.stp_exec.specs.Timed.{common_multiple, event_denominators, first_too_late}
use Rattle.stp_exec.specs.Boxed.{beyond_limits, too_large}
use Rattle.stp_schema.specs.declared.problem.Problem.{Problem}
use Rattle.stp_schema.specs.Views.{problem_of}
use Rattle.stp_task.specs.Certificates.{IsClosed, Pair, possible}
use Rattle.stp_exec.specs.Plans.{IsStepOf, IsStrongPlan}
use Rattle.stp_unreachable.specs.PlansOf.{HasPlainSimpleActions}
use Rattle.stp_unreachable.proofs.NoRuns.{no_plan_is_strong}
use Rattle.stp_unreachable.proofs.Premises.{events_are_proper}
use Rattle.stp_report.specs.declared.answer.Answer.{Answer}
use Rattle.stp_cli.specs.Case.{task_in}
use Rattle.stp_cli.specs.Refusals.{IsOrRefused, or_fault, ground_fault}

equal_from : (o : Ordering) → is_le o ≡ true → is_lt o ≡ false → o ≡ Equal
equal_from Less h k = cc
equal_from Equal h k = refl
equal_from Greater h k = cc

none_first : (b c : Bool) → (b || c) ≡ false → b ≡ false
none_first true c e = cc
none_first false c e = refl

none_rest : (b c : Bool) → (b || c) ≡ false → c ≡ false
none_rest true c e = cc
none_rest false c e = e

-- an event at a fixed time has one bound
same_bounds : (e : TimedFact) → is_chosen (timed_fact_of e) ≡ false → IsTimedFact (timed_fact_of e) → value_of e.low ≡ value_of e.high
same_bounds e fixed lawful = same_from_order e.low e.high (equal_from (order_of (value_of e.low) (value_of e.high)) lawful.up fixed)

abbrev of_events : List TimedFact → ℕ
of_events es = common_multiple (flat_map event_denominators (timed_facts_of es))

multiple_pos : (es : List TimedFact) → 0 < of_events es
multiple_pos [] = omega arith
multiple_pos (e ∷ es) =
    let low = e.low.low in
    let high = e.high.low in
    lcm_pos e.low.bottom (lcm e.high.bottom (of_events es)) (omega (arith, low)) (lcm_pos e.high.bottom (of_events es) (omega (arith, high)) (multiple_pos es))

multiple_divides : (grid : ℕ) (es : List TimedFact) → All (λ (e : PlainTimedFact). e.high.bottom ∣ grid) (timed_facts_of es) → list_any is_chosen (timed_facts_of es) ≡ false → All IsTimedFact (timed_facts_of es) → of_events es ∣ grid
multiple_divides grid [] lie fixed lawful = one-dvd grid
multiple_divides grid (e ∷ es) lie fixed lawful =
    let low = e.low.low in
    let high = e.high.low in
    let some : 0 < e.low.bottom = omega (arith, low) in
    let some' : 0 < e.high.bottom = omega (arith, high) in
    let one : e.high.bottom ∣ grid = All-head (λ (e : PlainTimedFact). e.high.bottom ∣ grid) (timed_fact_of e) (timed_facts_of es) lie in
    let same = same_bounds e (none_first (is_chosen (timed_fact_of e)) (list_any is_chosen (timed_facts_of es)) fixed) (All-head IsTimedFact (timed_fact_of e) (timed_facts_of es) lawful) in
    let others = multiple_divides grid es (All-tail (λ (e : PlainTimedFact). e.high.bottom ∣ grid) (timed_fact_of e) (timed_facts_of es) lie)
    (none_rest (is_chosen (timed_fact_of e)) (list_any is_chosen (timed_facts_of es)) fixed) (All-tail IsTimedFact (timed_fact_of e) (timed_facts_of es) lawful) in
    lcm_least e.low.bottom (lcm e.high.bottom (of_events es)) grid some (lcm_pos e.high.bottom (of_events es) some' (multiple_pos es))
    (subst (λ (f : Fraction). f.bottom ∣ grid) (sym same) one)
    (lcm_least e.high.bottom (of_events es) grid some' (multiple_pos es) one others)

grid_fits : (grid : ℕ) (es : List TimedFact) → LieOn grid (timed_facts_of es) → grid ≤ 600000 → list_any is_chosen (timed_facts_of es) ≡ false → All IsTimedFact (timed_facts_of es) → of_events es ≤ 600000
grid_fits grid es lie high fixed lawful =
    let low = lie.low in
    let within : of_events es ≤ grid = le_of_dvd (omega (arith, low)) (multiple_divides grid es lie.all fixed lawful) in
    omega (arith, within, high)

-- ---- what an accepted task says of its problem

module _ (one two three four five : GroundFault) (t made : PlainTask) where
  accepted_by : (a b c d e : Bool) (o : Option ℕ) (f : Bool)
      → unless_refused (if a then Some one else if b then Some two else if c then Some three else if d then Some four else if e then Some five else refusal_by o f) t ≡ Ok made
      → (a ≡ false) × (f ≡ false) × (t ≡ made)
  accepted_by true b c d e o f h = cc
  accepted_by false true c d e o f h = cc
  accepted_by false false true d e o f h = cc
  accepted_by false false false true e o f h = cc
  accepted_by false false false false true o f h = cc
  accepted_by false false false false false (Some n) f h = cc
  accepted_by false false false false false None true h = cc
  accepted_by false false false false false None false h = (refl, refl, cc)

low_limit : (n : ℕ) → nat_lt 600000 n ≡ false → n ≤ 600000
low_limit n h = grind (arith, nat_tests)

high_limit : (n : ℕ) → n ≤ 600000 → nat_le n 999999999 ≡ true
high_limit n h = grind (arith, nat_tests)

pub empty_plan_fits : (p : PlainProblem) (es : List TimedFact) (made : PlainTask) → p.timed ≡ timed_facts_of es → All IsTimedFact (timed_facts_of es) → task_or_fault p ≡ Ok made → LieOn made.grid p.timed → beyond_limits p [] ≡ None
empty_plan_fits p es made same lawful accepted lie =
    let (fixed, coarse, is) = accepted_by UncontrollableEvent TooManyBindings TooManyActions TooManyNodes TooManyAtoms (task_of p) made
    (list_any is_chosen p.timed) (nat_lt MAX_BINDINGS (binding_count p)) (nat_lt MAX_ACTIONS (length (kept p))) (nat_lt MAX_ACTION_NODES (node_count p)) (nat_lt MAX_ATOMS (length (task_atoms p)))
    (first_too_long (kept p)) (nat_lt MAX_DURATION_GRID (task_grid p)) accepted in
    let grid : task_grid p ≡ made.grid = ap (λ (t : PlainTask). t.grid) is in
    let high : made.grid ≤ 600000 = subst (λ n. n ≤ 600000) grid (low_limit (task_grid p) coarse) in
    let fits : of_events es ≤ 600000 = grid_fits made.grid es (subst (LieOn made.grid) same lie) high (ap (list_any is_chosen) (sym same) ∙ fixed) lawful in
    ap (λ b. if b then option_map too_large (first_too_late []) else Some execs.GridTooFine)
    (ap (λ events. nat_le (common_multiple (flat_map event_denominators events)) 999999999) same ∙ high_limit (of_events es) fits)

-- what is right on the task of a problem
pub task_read : (right : PlainTask → Answer → Type 0) (p : PlainProblem) (made : PlainTask) (answer : Answer) → task_or_fault p ≡ Ok made → right made answer → IsOrRefused right (task_in p) answer
task_read right p made answer e h = subst (λ r. IsOrRefused right (or_fault ground_fault r) answer) (sym e) h

-- ---- a plan without steps that is strong

only_true : (b : Bool) → (b ≡ false → ⊥) → b ≡ true
only_true true h = refl
only_true false h = absurd (h refl)

-- leaves the goal possible under each closed pair
pub strong_may_hold : (problem : Problem) (made : PlainTask) → HasPlainSimpleActions (problem_of problem) → task_or_fault (problem_of problem) ≡ Ok made → IsStrongPlan (problem_of problem) [] → (pair : Pair) → IsClosed made pair → possible pair made.goal ≡ true
strong_may_hold problem made simple grounded strong pair closed =
    only_true (possible pair made.goal)
    (λ impossible. no_plan_is_strong (problem_of problem) made pair (record { simple = simple; grounded = grounded; certificate = record { closed = closed; impossible = impossible } })
    (events_are_proper problem) [] (All-nil (IsStepOf (problem_of problem))) strong)
