-- The atoms of what is chosen, of the events and of the goal are in the tables of the task and of the plan.
use Rattle.std.proofs.Common.{◌≡◌, Bool, true, List, [], ◌++◌, filter, Contains, sym, ap, ◌∙◌, subst}
use Rattle.std.specs.Option.{is_some}
use Rattle.std.specs.List.{list_all}
use Rattle.std.proofs.lemmas.Bool.{and_parts}
use Rattle.std.proofs.lemmas.List.Folds.{list_all-append}
use Rattle.stp_schema.specs.Timed.{PlainTimedFact}
use Rattle.stp_schema.specs.Views.{PlainProblem}
use Rattle.stp_tables.specs.Atoms.{Atom}
use Rattle.stp_happen.proofs.Members.{all_pass, and_both, mapped_member, member_map, member_of_kept}
use Rattle.stp_instance.specs.Numbered.{IsGrown, fluent_atoms, is_in, with_atoms}
use Rattle.stp_instance.proofs.Gained.{each, numbers_stay, with_atoms_grow}
use Rattle.stp_ground.specs.Problems.{atom_of_literal, atoms_of_event, atoms_of_kind, event_atoms, goal_atoms, initial_atoms, is_kind, is_written}
use Rattle.stp_ground.specs.Chosen.{PlainChosen}
use Rattle.stp_ground.specs.Ground.{atoms_of_chosen}
use Rattle.stp_kept.specs.Instances.{chosen_of, kept}
use Rattle.stp_kept.specs.KeptTasks.{atoms_before, atoms_of_instances, task_atoms}
use Rattle.stp_exec.specs.Placed.{PlainPlaced}
use Rattle.stp_exec.specs.Plans.{atoms_of_plan, atoms_of_steps}
use Rattle.stp_unreachable.proofs.Choosing.{member_flat}
use Rattle.stp_unreachable.proofs.KeptChoices.{IsKeptChoice}
use Rattle.stp_unreachable.proofs.Moved.{is_in_both}
use Rattle.stp_unreachable.proofs.MovedEvents.{its_number}

-- ---- the atoms of what is chosen, part by part

pub record AllPass (q : Atom → Bool) (p : PlainProblem) (c : PlainChosen) : Type 0 where
  pub start_cond : list_all q (fluent_atoms (is_written p) c.start_cond) ≡ true
  pub over_all : list_all q (fluent_atoms (is_written p) c.over_all) ≡ true
  pub end_cond : list_all q (fluent_atoms (is_written p) c.end_cond) ≡ true
  pub start_adds : list_all q c.start_adds ≡ true
  pub start_dels : list_all q c.start_dels ≡ true
  pub end_adds : list_all q c.end_adds ≡ true
  pub end_dels : list_all q c.end_dels ≡ true

halves : (q : Atom → Bool) (xs ys : List Atom) → list_all q (xs ++ ys) ≡ true → (list_all q xs ≡ true) × (list_all q ys ≡ true)
halves q xs ys h = and_parts (list_all q xs) (list_all q ys) (sym (list_all-append q xs ys) ∙ h)

pub part_by_part : (q : Atom → Bool) (p : PlainProblem) (c : PlainChosen) → list_all q (atoms_of_chosen p c) ≡ true → AllPass q p c
part_by_part q p c h =
    let start = fluent_atoms (is_written p) c.start_cond in
    let over = fluent_atoms (is_written p) c.over_all in
    let end = fluent_atoms (is_written p) c.end_cond in
    let six = halves q (start ++ over ++ end ++ c.start_adds ++ c.start_dels ++ c.end_adds) c.end_dels h in
    let five = halves q (start ++ over ++ end ++ c.start_adds ++ c.start_dels) c.end_adds six.0 in
    let four = halves q (start ++ over ++ end ++ c.start_adds) c.start_dels five.0 in
    let three = halves q (start ++ over ++ end) c.start_adds four.0 in
    let two = halves q (start ++ over) end three.0 in
    let one = halves q start over two.0 in
    record { start_cond = one.0; over_all = one.1; end_cond = two.1; start_adds = three.1; start_dels = four.1; end_adds = five.1; end_dels = six.1 }

-- ---- tables

in_grown : (old new : List Atom) (atom : Atom) → IsGrown old new → is_in old atom ≡ true → is_in new atom ≡ true
in_grown old new atom grown h =
    let n = its_number old atom h in
    ap is_some (numbers_stay old new atom n.0 grown n.1)

-- a table that has the atoms of what is true at first, of the events and of the goal, and then others
module _ (p : PlainProblem) (more : List Atom) where
  abbrev pub table : List Atom
  table = with_atoms (atoms_before p) more

  pub goal_there : (atom : Atom) → Contains (goal_atoms p) atom → is_in table atom ≡ true
  goal_there atom i = in_grown (atoms_before p) table atom (with_atoms_grow (atoms_before p) more) (each (with_atoms (with_atoms [] (initial_atoms p)) (event_atoms p)) (goal_atoms p) atom i)

  pub event_there : (atom : Atom) → Contains (event_atoms p) atom → is_in table atom ≡ true
  event_there atom i =
      let events = with_atoms (with_atoms [] (initial_atoms p)) (event_atoms p) in
      in_grown (atoms_before p) table atom (with_atoms_grow (atoms_before p) more)
      (in_grown events (atoms_before p) atom (with_atoms_grow events (goal_atoms p)) (each (with_atoms [] (initial_atoms p)) (event_atoms p) atom i))

  pub more_there : (atom : Atom) → Contains more atom → is_in table atom ≡ true
  more_there atom i = each (atoms_before p) more atom i

-- the atoms of one kind that an event names are among those of all events
kind_named : (p : PlainProblem) (e : PlainTimedFact) → Contains p.timed e → (adds : Bool) (atom : Atom) → Contains (atoms_of_kind adds e.literals) atom → Contains (event_atoms p) atom
kind_named p e i adds atom j =
    let l = mapped_member atom_of_literal (filter (is_kind adds) e.literals) atom j in
    let m = member_of_kept (is_kind adds) e.literals l.0 l.1 in
    member_flat atoms_of_event p.timed e atom i (subst (Contains (atoms_of_event e)) l.2 (member_map atom_of_literal e.literals l.0 m.0))

-- ---- the tables of the task and of a plan

module _ (p : PlainProblem) (steps : List PlainPlaced) where
  chosen_in_task : (c : PlainChosen) → IsKeptChoice p c → (atom : Atom) → Contains (atoms_of_chosen p c) atom → is_in (task_atoms p) atom ≡ true
  chosen_in_task c k atom i =
      more_there p (atoms_of_instances p (kept p)) atom
      (member_flat (λ j. atoms_of_chosen p (chosen_of p j)) (kept p) k.instance atom k.there (subst (λ d. Contains (atoms_of_chosen p d) atom) (sym k.is) i))

  chosen_in_plan : (s : PlainPlaced) → Contains steps s → (atom : Atom) → Contains (atoms_of_chosen p s.chosen) atom → is_in (atoms_of_plan p steps) atom ≡ true
  chosen_in_plan s h atom i =
      more_there p (atoms_of_steps p steps) atom
      (member_flat (λ (s : PlainPlaced). atoms_of_chosen p s.chosen) steps s atom h i)

  both_in : (atoms : List Atom) → ((atom : Atom) → Contains atoms atom → is_in (task_atoms p) atom ≡ true) → ((atom : Atom) → Contains atoms atom → is_in (atoms_of_plan p steps) atom ≡ true) → list_all (is_in_both (task_atoms p) (atoms_of_plan p steps)) atoms ≡ true
  both_in atoms f g = all_pass (is_in_both (task_atoms p) (atoms_of_plan p steps)) atoms (λ atom i. and_both (is_in (task_atoms p) atom) (is_in (atoms_of_plan p steps) atom) (f atom i) (g atom i))

  -- all atoms of a step are in the plan's table
  pub step_in_plan : (s : PlainPlaced) → Contains steps s → AllPass (is_in (atoms_of_plan p steps)) p s.chosen
  step_in_plan s h = part_by_part (is_in (atoms_of_plan p steps)) p s.chosen (all_pass (is_in (atoms_of_plan p steps)) (atoms_of_chosen p s.chosen) (chosen_in_plan s h))

  -- and those of a kept one in both tables
  pub step_in_both : (s : PlainPlaced) → Contains steps s → IsKeptChoice p s.chosen → AllPass (is_in_both (task_atoms p) (atoms_of_plan p steps)) p s.chosen
  step_in_both s h k = part_by_part (is_in_both (task_atoms p) (atoms_of_plan p steps)) p s.chosen (both_in (atoms_of_chosen p s.chosen) (chosen_in_task s.chosen k) (chosen_in_plan s h))

  pub goal_in_both : list_all (is_in_both (task_atoms p) (atoms_of_plan p steps)) (goal_atoms p) ≡ true
  goal_in_both = both_in (goal_atoms p) (goal_there p (atoms_of_instances p (kept p))) (goal_there p (atoms_of_steps p steps))

  pub event_in_both : (e : PlainTimedFact) → Contains p.timed e → (adds : Bool) → list_all (is_in_both (task_atoms p) (atoms_of_plan p steps)) (atoms_of_kind adds e.literals) ≡ true
  event_in_both e i adds =
      both_in (atoms_of_kind adds e.literals)
      (λ atom j. event_there p (atoms_of_instances p (kept p)) atom (kind_named p e i adds atom j))
      (λ atom j. event_there p (atoms_of_steps p steps) atom (kind_named p e i adds atom j))
