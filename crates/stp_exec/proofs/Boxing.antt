-- The atoms and the box of placed steps.
use Rattle.std.proofs.Common.{◌≡◌, ℕ, ◌+◌, ◌<◌, ◌≤◌, Bool, List, [], length, map, drop, get_or, Some, None, Result, Ok, Err, sym, ap, ◌∙◌}
use Rattle.std.proofs.lemmas.List.{drop_all}
use Rattle.stp_schema.specs.Views.{PlainProblem}
use Rattle.stp_tables.specs.Atoms.{Atom}
use Rattle.stp_cond.specs.declared.cond.Cond.{Cond}
use Rattle.stp_cond.specs.Formulas.{view}
use Rattle.stp_cond.specs.Truth.{meaning_of, state_of_row}
use Rattle.stp_instance.specs.Numbered.{with_atoms}
use Rattle.stp_instance.proofs.Gathered.{with_both}
use Rattle.stp_ground.specs.Problems.{is_fact, goal_of, initial_atoms, event_atoms, goal_atoms}
use Rattle.stp_ground.specs.Ground.{atoms_of_chosen, left_of}
use Rattle.stp_happen.specs.Owners.{PlainBoxStep, PlainBoxTimed, owners_of}
use Rattle.stp_happen.specs.Boxes.{PlainBox}
use Rattle.stp_plan.specs.Steps as steps
use Rattle.stp_exec.specs.declared.fault.ExecFault.{ExecFault}
use Rattle.stp_exec.specs.declared.placed.Placed.{Placed}
use Rattle.stp_base.specs.Results.{◌>>=◌}
use Rattle.stp_exec.specs.Faults.{unless}
use Rattle.stp_exec.specs.Placed.{PlainPlaced, placed_from}
use Rattle.stp_exec.specs.Views.{plain_placed}
use Rattle.stp_exec.specs.Plans.{meaning, step_in, timed_in, atoms_of_steps, atoms_of_plan, box_over, box_on, grid_of_plan, box_of_plan}
use Rattle.stp_exec.specs.Boxed.{beyond_limits, box_or_fault}
use Rattle.stp_exec.proofs.Joining.{at_item}
use Rattle.stp_exec.proofs.Stepping.{meaning_is}

-- ---- atoms

-- the atoms so far, once the steps that are left have theirs
abbrev pub AreNumbered : PlainProblem → List Atom → List Atom → ℕ → List Placed → Type 0
AreNumbered p old now i placed = with_atoms now (atoms_of_steps p (map plain_placed (drop i placed))) ≡ with_atoms old (atoms_of_steps p (map plain_placed placed))

pub numbered_more : (p : PlainProblem) (old now new : List Atom) (i : ℕ) (placed : List Placed) (s : Placed) → i < length placed → get_or placed i s ≡ s → new ≡ with_atoms now (atoms_of_chosen p (plain_placed s).chosen) → AreNumbered p old now i placed → AreNumbered p old new (i + 1) placed
numbered_more p old now new i placed s h is e so_far =
    let rest = atoms_of_steps p (map plain_placed (drop (i + 1) placed)) in
    ap (λ t. with_atoms t rest) e
    ∙ sym (with_both now (atoms_of_chosen p (plain_placed s).chosen) rest)
    ∙ ap (λ l. with_atoms now (atoms_of_steps p (map plain_placed l))) (sym (at_item placed i s h is))
    ∙ so_far

pub numbered_all : (p : PlainProblem) (old now : List Atom) (i : ℕ) (placed : List Placed) → length placed ≤ i → AreNumbered p old now i placed → now ≡ with_atoms old (atoms_of_steps p (map plain_placed placed))
numbered_all p old now i placed h so_far =
    sym (ap (λ l. with_atoms now (atoms_of_steps p (map plain_placed l))) (drop_all i placed h)) ∙ so_far

-- the tables, one after the other, of a problem that stays the same
pub plan_numbered : (p q : PlainProblem) → q ≡ p → (placed : List PlainPlaced) (none first second third fourth : List Atom) → none ≡ [] → first ≡ with_atoms none (initial_atoms p) → second ≡ with_atoms first (event_atoms p) → third ≡ with_atoms second (goal_atoms p) → fourth ≡ with_atoms third (atoms_of_steps q placed) → fourth ≡ atoms_of_plan p placed
plan_numbered p q same placed none first second third fourth a b c d e =
    e
    ∙ ap (λ r. with_atoms third (atoms_of_steps r placed)) same
    ∙ ap (λ t. with_atoms t (atoms_of_steps p placed))
    (d ∙ ap (λ t. with_atoms t (goal_atoms p)) (c ∙ ap (λ t. with_atoms t (event_atoms p)) (b ∙ ap (λ t. with_atoms t (initial_atoms p)) a)))

-- ---- the box

abbrev pub the_box : List PlainBoxStep → List PlainBoxTimed → List Bool → Cond → PlainBox
the_box steps timed initial goal = record { owners = owners_of steps timed; initial = state_of_row initial; goal = meaning_of goal }

module _ (p : PlainProblem) (table : List Atom) (grid : ℕ) (placed : List PlainPlaced) where
  pub box_is : (steps : List PlainBoxStep) (timed : List PlainBoxTimed) (initial : List Bool) (goal : Cond) → table ≡ atoms_of_plan p placed → steps ≡ map (step_in p table grid placed) placed → timed ≡ map (timed_in table grid) p.timed → initial ≡ map (is_fact p) table → view goal ≡ left_of p table (goal_of p) → the_box steps timed initial goal ≡ box_on grid p placed
  box_is steps timed initial goal numbered stepped events first left =
      (λ i. record { owners = owners_of (stepped i) (events i); initial = state_of_row (first i); goal = (meaning_is goal ∙ ap meaning left) i })
      ∙ ap (λ t. box_over p t grid placed) numbered

-- ---- the box of a plan

module _ (p : PlainProblem) (plan : List steps.PlainStep) where
  abbrev then_box : Result (List PlainPlaced) ExecFault → Result (ℕ × PlainBox) ExecFault
  then_box r = r >>= (λ (placed : List PlainPlaced). Ok (grid_of_plan p placed, box_of_plan p placed))

  abbrev within : Result (List PlainPlaced) ExecFault → Result (List PlainPlaced) ExecFault
  within r = r >>= (λ (placed : List PlainPlaced). unless (beyond_limits p placed) placed)

  -- a step is refused
  pub step_is_refused : (fault : ExecFault) → placed_from 1 p plan ≡ Err fault → box_or_fault p plan ≡ Err fault
  step_is_refused fault e = ap (λ r. then_box (within r)) e

  -- a limit is broken
  pub limit_is_refused : (placed : List PlainPlaced) (fault : ExecFault) → placed_from 1 p plan ≡ Ok placed → beyond_limits p placed ≡ Some fault → box_or_fault p plan ≡ Err fault
  limit_is_refused placed fault e f = ap (λ r. then_box (within r)) e ∙ ap (λ limit. then_box (unless limit placed)) f

  -- nothing is refused
  pub box_is_found : (placed : List PlainPlaced) (grid : ℕ) (box : PlainBox) → placed_from 1 p plan ≡ Ok placed → beyond_limits p placed ≡ None → grid ≡ grid_of_plan p placed → box ≡ box_of_plan p placed → box_or_fault p plan ≡ Ok (grid, box)
  box_is_found placed grid box e f g h =
      ap (λ r. then_box (within r)) e
      ∙ ap (λ limit. then_box (unless limit placed)) f
      ∙ (λ i. Ok (sym g i, sym h i))
