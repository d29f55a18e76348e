-- The definitions of readers never answer want of memory.
use Rattle.std.proofs.Common.{◌≢◌, ℕ, ◌+◌, Bool, true, false, if◌then◌else◌, ◌==◌, nat_lt, List, [], ◌∷◌, ◌++◌, length, Option, Some, None, Result, Ok, Err, IfErr, IfSome, option_map, refl, map, filter_map, slice_get}
use Rattle.std.specs.Option.{ok_or}
use Rattle.std.proofs.lemmas.List.Elements.{All-nil, All-cons, All-head, All-append}
use Rattle.std.specs.List.{All}
use Rattle.stp_base.specs.Results.{◌>>=◌}
use Rattle.stp_base.specs.declared.ids.StepId.{StepId}
use Rattle.stp_base.specs.declared.limits.TheConstants.{MAX_ACTIONS, MAX_ACTION_NODES, MAX_ATOMS, MAX_BINDINGS, MAX_DURATION_GRID, MAX_STEPS}
use Rattle.stp_text.specs.declared.fault.TextFault.{TextFault}
use Rattle.stp_text.specs.declared.fault.TextFault.TheVariants as texts
use Rattle.stp_text.specs.Tree.{Tree, Word, Node}
use Rattle.stp_text.specs.Signs.{Sign, Opens, Closes, Spells, Strange, signs_of}
use Rattle.stp_text.specs.Offences.{wrong, misplaced, open_after, offences, unclosed}
use Rattle.stp_text.specs.Reading.{judged, read_on, only_list, whole, tree_of, outer_items}
use Rattle.stp_refusal.specs.declared.code.Code.{Code}
use Rattle.stp_refusal.specs.declared.offence.Offence.{Offence}
use Rattle.stp_refusal.specs.declared.phase.ReadFault.{ReadFault}
use Rattle.stp_refusal.specs.declared.phase.ReadFault.TheVariants as reads
use Rattle.stp_refusal.specs.Phases.{unless_refused}
use Rattle.stp_frac.specs.Fractions.{Fraction}
use Rattle.stp_schema.specs.Views.{PlainDomain, PlainProblem}
use Rattle.stp_domain.specs.Reading.{domain_or_refusal}
use Rattle.stp_problem.specs.Reading.{problem_or_refusal}
use Rattle.stp_plan.specs.declared.fault.PlanFault.{PlanFault}
use Rattle.stp_plan.specs.declared.fault.PlanFault.TheVariants as plans
use Rattle.stp_plan.specs.Steps.{PlainStep}
use Rattle.stp_plan.specs.Plans.{LineKind, kind_of, is_bad, is_step, step_in, numbers_of, unless_bad, unless_many, plan_in, plan_of}
use Rattle.stp_plan.specs.Lines.{texts_of}
use Rattle.stp_ground.specs.declared.fault.InstanceFault.{InstanceFault}
use Rattle.stp_ground.specs.declared.fault.InstanceFault.TheVariants as choices
use Rattle.stp_tables.specs.Names.{number_of}
use Rattle.stp_schema.specs.Rows.{thing_names}
use Rattle.stp_schema.specs.Schemas.{PlainSchema}
use Rattle.stp_schema.specs.Timed.{is_chosen}
use Rattle.stp_task.specs.Durations.{PlainDuration}
use Rattle.stp_task.specs.Tasks.{PlainTask}
use Rattle.stp_kept.specs.declared.fault.GroundFault.TheVariants as grounds
use Rattle.stp_kept.specs.Counts.{binding_count, node_count}
use Rattle.stp_kept.specs.Instances.{kept}
use Rattle.stp_kept.specs.KeptTasks as kepts
use Rattle.stp_kept.specs.KeptTasks.{first_too_long, refusal_by, task_atoms, task_grid, task_of}
use Rattle.std.specs.List.{list_any}
use Rattle.stp_instance.specs.Timings.{duration_of}
use Rattle.stp_ground.specs.Problems.{below}
use Rattle.stp_ground.specs.Chosen.{chosen_under, named, fitting, argument, arguments, bound, chosen_by}
use Rattle.stp_exec.specs.declared.fault.ExecFault.{ExecFault}
use Rattle.stp_exec.specs.declared.fault.ExecFault.TheVariants as execs
use Rattle.stp_exec.specs.Faults as steps
use Rattle.stp_exec.specs.Faults.{choice_fault, step_number, unless}
use Rattle.stp_exec.specs.Held.{held_of}
use Rattle.stp_exec.specs.Lists.{durations_in}
use Rattle.stp_exec.specs.Fitting.{judge_list}
use Rattle.stp_exec.specs.Placed.{placed_step, placed_from}
use Rattle.stp_exec.specs.Boxed.{too_large, beyond_limits, placed_or_fault}
use Rattle.stp_report.specs.declared.answer.FileName.{FileName}
use Rattle.stp_cli.specs.declared.refusal.CaseFault.TheVariants as cases
use Rattle.stp_cli.specs.Refusals.{text_fault, read_fault, plan_fault, exec_fault, ground_fault, or_fault}
use Rattle.stp_cli.specs.Case.{problem_of_texts, steps_of, case_of}
use Rattle.stp_cli.specs.Replay.{list_read, list_fits}
use Rattle.stp_cli.specs.Headline.{NoCaseIsWantOfMemory, NoListIsWantOfMemory, NoTaskIsWantOfMemory}

abbrev Never : {A F : Type 0} → F → Result A F → Type 0
Never want r = IfErr r (λ fault. fault ≢ want)

never_then : {A B F : Type 0} (want : F) (r : Result A F) (f : A → Result B F) → Never want r → ((x : A) → Never want (f x)) → Never want (r >>= f)
never_then want (Ok x) f h k = k x
never_then want (Err fault) f h k = h

never_or : {A F : Type 0} (want fault : F) (o : Option A) → fault ≢ want → Never want (ok_or o fault)
never_or want fault None h = h
never_or want fault (Some x) h = tt

never_if : {A F : Type 0} (want : F) (b : Bool) (r s : Result A F) → Never want r → Never want s → Never want (if b then r else s)
never_if want true r s h k = h
never_if want false r s h k = k

-- ---- texts

abbrev IsOffence : TextFault → Type 0
IsOffence fault = fault ≢ texts.Memory

one_if : (b : Bool) (fault : TextFault) → IsOffence fault → All IsOffence (if b then fault ∷ [] else [])
one_if true fault h = All-cons IsOffence fault [] h (All-nil IsOffence)
one_if false fault h = All-nil IsOffence

wrong_offences : (s : Sign) → All IsOffence (wrong s)
wrong_offences (Opens at) = All-nil IsOffence
wrong_offences (Closes at) = All-nil IsOffence
wrong_offences (Spells at text) = one_if (nat_lt 100 (length text)) (texts.WordTooLong at) (λ e. cc)
wrong_offences (Strange at) = one_if true (texts.BadByte at) (λ e. cc)

misplaced_offences : (outer : List ℕ) (s : Sign) → All IsOffence (misplaced outer s)
misplaced_offences outer (Opens at) = one_if (length outer == 100) (texts.TooDeep at) (λ e. cc)
misplaced_offences [] (Closes at) = one_if true (texts.StrayClose at) (λ e. cc)
misplaced_offences (last ∷ outer) (Closes at) = All-nil IsOffence
misplaced_offences outer (Spells at text) = All-nil IsOffence
misplaced_offences outer (Strange at) = All-nil IsOffence

all_offences : (outer : List ℕ) (ss : List Sign) → All IsOffence (offences outer ss)
unfolding offences
all_offences outer [] = All-nil IsOffence
all_offences outer (s ∷ ss) =
    All-append IsOffence (wrong s ++ misplaced outer s) (offences (open_after outer s) ss)
    (All-append IsOffence (wrong s) (misplaced outer s) (wrong_offences s) (misplaced_offences outer s))
    (all_offences (open_after outer s) ss)

never_judged : {A : Type 0} (faults : List TextFault) (outer : List ℕ) (value : A) → All IsOffence faults → Never texts.Memory (judged faults outer value)
never_judged (fault ∷ faults) outer value all = All-head IsOffence fault faults all
never_judged [] (last ∷ outer) value all = λ e. cc
never_judged [] [] value all = tt

never_only : (end : ℕ) (items : List Tree) → Never texts.Memory (only_list end items)
never_only end [] = λ e. cc
never_only end (Word at text ∷ items) = λ e. cc
never_only end (Node at inner ∷ []) = tt
never_only end (Node at inner ∷ second ∷ items) = λ e. cc

never_whole : (end : ℕ) (r : Result (List Tree) TextFault) → Never texts.Memory r → Never texts.Memory (whole end r)
never_whole end (Ok items) h = never_only end items
never_whole end (Err fault) h = h

never_read_on : (ss : List Sign) → Never texts.Memory (read_on [] [] ss)
unfolding read_on
never_read_on ss = never_judged (offences [] ss) (unclosed [] ss) (outer_items [] [] ss) (all_offences [] ss)

never_tree : (bytes : List ℕ) → Never texts.Memory (tree_of bytes)
unfolding tree_of
never_tree bytes = never_whole (length bytes) (read_on [] [] (signs_of bytes)) (never_read_on (signs_of bytes))

-- ---- domains, problems and plans

never_refused : {A : Type 0} (value : A) (o : Option Offence) → Never reads.Memory (unless_refused value o)
never_refused value None = tt
never_refused value (Some o) = λ e. cc

never_many : (o : Option ℕ) (plan : List PlainStep) → Never plans.Memory (unless_many o plan)
never_many None plan = tt
never_many (Some n) plan = λ e. cc

never_bad : (o : Option ℕ) (r : Result (List PlainStep) PlanFault) → Never plans.Memory r → Never plans.Memory (unless_bad o r)
never_bad None r h = h
never_bad (Some n) r h = λ e. cc

never_plan : (bytes : List ℕ) → Never plans.Memory (plan_of bytes)
unfolding plan_of plan_in
never_plan bytes =
    let lines : List LineKind = map kind_of (texts_of bytes) in
    let extra : Option ℕ = slice_get (numbers_of is_step 1 lines) MAX_STEPS in
    let steps : List PlainStep = filter_map step_in lines in
    never_bad (slice_get (numbers_of is_bad 1 lines) 0) (unless_many extra steps) (never_many extra steps)

-- ---- steps

module _ (p : PlainProblem) where
  never_argument : (kind : ℕ) (name : List ℕ) → Never choices.Memory (argument p kind name)
  never_argument kind name =
      let object : Option ℕ = number_of (thing_names p.objects) name in
      never_then choices.Memory (ok_or object choices.UnknownObject) (fitting p kind) (never_or choices.Memory choices.UnknownObject object (λ e. cc))
      (λ o. never_if choices.Memory _ (Ok o) (Err choices.WrongType) tt (λ e. cc))

  never_arguments : (kinds : List ℕ) (names : List (List ℕ)) → Never choices.Memory (arguments p kinds names)
  never_arguments [] names = tt
  never_arguments (kind ∷ kinds) [] = tt
  never_arguments (kind ∷ kinds) (name ∷ names) =
      never_then choices.Memory (argument p kind name) _ (never_argument kind name)
      (λ one. never_then choices.Memory (arguments p kinds names) _ (never_arguments kinds names) (λ others. tt))

  never_bound : (kinds : List ℕ) (names : List (List ℕ)) → Never choices.Memory (bound p kinds names)
  never_bound kinds names = never_if choices.Memory (length kinds == length names) (arguments p kinds names) (Err choices.WrongCount) (never_arguments kinds names) (λ e. cc)

  never_named : (name : List ℕ) → Never choices.Memory (named p name)
  never_named name =
      let number : Option ℕ = number_of (map (λ (s : PlainSchema). s.name) p.domain.schemas) name in
      let then_schema : ℕ → Result (ℕ × PlainSchema) InstanceFault = λ n. ok_or (slice_get p.domain.schemas n) choices.UnknownAction >>= (λ schema. Ok (n, schema)) in
      never_then choices.Memory (ok_or number choices.UnknownAction) then_schema (never_or choices.Memory choices.UnknownAction number (λ e. cc))
      (λ n. never_then choices.Memory (ok_or (slice_get p.domain.schemas n) choices.UnknownAction) (λ schema. Ok (n, schema)) (never_or choices.Memory choices.UnknownAction (slice_get p.domain.schemas n) (λ e. cc)) (λ schema. tt))

  never_chosen : (name : List ℕ) (names : List (List ℕ)) → Never choices.Memory (chosen_by p name names)
  never_chosen name names =
      never_then choices.Memory (named p name) _ (never_named name)
      (λ schema. never_then choices.Memory (bound p schema.1.parameters names) _ (never_bound schema.1.parameters names)
      (λ objects.
      let lasting : Option PlainDuration = duration_of p.values objects schema.1.timing in
      never_then choices.Memory (ok_or lasting choices.NoDuration) (λ (d : PlainDuration). Ok (chosen_under (below p) schema.0 schema.1 objects d)) (never_or choices.Memory choices.NoDuration lasting (λ e. cc)) (λ d. tt)))

never_choice : {A : Type 0} (n : StepId) (r : Result A InstanceFault) → Never choices.Memory r → Never execs.Memory (steps.or_fault (choice_fault n) r)
never_choice n (Ok x) h = tt
never_choice n (Err choices.UnknownAction) h = λ e. cc
never_choice n (Err choices.WrongCount) h = λ e. cc
never_choice n (Err choices.UnknownObject) h = λ e. cc
never_choice n (Err choices.WrongType) h = λ e. cc
never_choice n (Err choices.NoDuration) h = λ e. cc
never_choice n (Err choices.Memory) h = absurd (h refl)

never_held : {A : Type 0} (n : StepId) (r : Result A Code) → Never execs.Memory (steps.or_fault (execs.Step n) r)
never_held n (Ok x) = tt
never_held n (Err code) = λ e. cc

never_placed : (n : ℕ) (p : PlainProblem) (s : PlainStep) → Never execs.Memory (placed_step n p s)
never_placed n p s =
    never_then execs.Memory (steps.or_fault (choice_fault (step_number n)) (chosen_by p s.name s.args)) _ (never_choice (step_number n) (chosen_by p s.name s.args) (never_chosen p s.name s.args))
    (λ c. never_then execs.Memory (steps.or_fault (execs.Step (step_number n)) (held_of c.duration s.bracket)) _ (never_held (step_number n) (held_of c.duration s.bracket)) (λ held. tt))

never_placed_from : (n : ℕ) (p : PlainProblem) (plan : List PlainStep) → Never execs.Memory (placed_from n p plan)
never_placed_from n p [] = tt
never_placed_from n p (s ∷ plan) =
    never_then execs.Memory (placed_step n p s) _ (never_placed n p s)
    (λ one. never_then execs.Memory (placed_from (n + 1) p plan) _ (never_placed_from (n + 1) p plan) (λ others. tt))

never_late : (o : Option ℕ) → IfSome (option_map too_large o) (λ fault. fault ≢ execs.Memory)
never_late None = tt
never_late (Some n) = λ e. cc

never_beyond : (b : Bool) (o : Option ℕ) → IfSome (if b then option_map too_large o else Some execs.GridTooFine) (λ fault. fault ≢ execs.Memory)
never_beyond true o = never_late o
never_beyond false o = λ e. cc

never_unless : {A : Type 0} (o : Option ExecFault) (x : A) → IfSome o (λ fault. fault ≢ execs.Memory) → Never execs.Memory (unless o x)
never_unless None x h = tt
never_unless (Some fault) x h = h

never_in_limits : (p : PlainProblem) (plan : List PlainStep) → Never execs.Memory (placed_or_fault p plan)
never_in_limits p plan =
    never_then execs.Memory (placed_from 1 p plan) _ (never_placed_from 1 p plan)
    (λ steps. never_unless (beyond_limits p steps) steps (never_beyond _ _))

-- ---- what they are to a command

text_told : {A : Type 0} (file : FileName) (r : Result A TextFault) → Never texts.Memory r → Never cases.Memory (or_fault (text_fault file) r)
text_told file (Ok x) h = tt
text_told file (Err (texts.BadByte at)) h = λ e. cc
text_told file (Err (texts.StrayClose at)) h = λ e. cc
text_told file (Err (texts.TooDeep at)) h = λ e. cc
text_told file (Err (texts.Unclosed at)) h = λ e. cc
text_told file (Err (texts.WordTooLong at)) h = λ e. cc
text_told file (Err (texts.NotOneList at)) h = λ e. cc
text_told file (Err texts.Memory) h = absurd (h refl)

read_told : {A : Type 0} (file : FileName) (r : Result A ReadFault) → Never reads.Memory r → Never cases.Memory (or_fault (read_fault file) r)
read_told file (Ok x) h = tt
read_told file (Err (reads.Refused code at)) h = λ e. cc
read_told file (Err reads.Memory) h = absurd (h refl)

plan_told : {A : Type 0} (r : Result A PlanFault) → Never plans.Memory r → Never cases.Memory (or_fault plan_fault r)
plan_told (Ok x) h = tt
plan_told (Err (plans.BadLine line)) h = λ e. cc
plan_told (Err (plans.TooManySteps line)) h = λ e. cc
plan_told (Err plans.Memory) h = absurd (h refl)

steps_told : {A : Type 0} (r : Result A ExecFault) → Never execs.Memory r → Never cases.Memory (or_fault exec_fault r)
steps_told (Ok x) h = tt
steps_told (Err (execs.Step step code)) h = λ e. cc
steps_told (Err execs.GridTooFine) h = λ e. cc
steps_told (Err (execs.TimeTooLarge step)) h = λ e. cc
steps_told (Err execs.Memory) h = absurd (h refl)

never_domain : (t : Tree) → Never reads.Memory (domain_or_refusal t)
never_domain t = never_refused _ _

never_problem : (d : PlainDomain) (t : Tree) → Never reads.Memory (problem_or_refusal d t)
never_problem d t = never_refused _ _

never_problem_of : (domain problem : List ℕ) → Never cases.Memory (problem_of_texts domain problem)
unfolding problem_of_texts
never_problem_of domain problem =
    never_then cases.Memory _ _ (text_told _ (tree_of domain) (never_tree domain))
    (λ t. never_then cases.Memory _ _ (read_told _ (domain_or_refusal t) (never_domain t))
    (λ d. never_then cases.Memory _ _ (text_told _ (tree_of problem) (never_tree problem))
    (λ u. read_told _ (problem_or_refusal d u) (never_problem d u))))

never_steps : (p : PlainProblem) (plan : List ℕ) → Never cases.Memory (steps_of p plan)
unfolding steps_of
never_steps p plan =
    never_then cases.Memory _ _ (plan_told (plan_of plan) (never_plan plan))
    (λ lines. steps_told (placed_or_fault p lines) (never_in_limits p lines))

pub no_case_is_want : NoCaseIsWantOfMemory
unfolding case_of
no_case_is_want domain problem plan =
    never_then cases.Memory (problem_of_texts domain problem) _ (never_problem_of domain problem)
    (λ read. never_then cases.Memory (steps_of read plan) _ (never_steps read plan) (λ steps. tt))

-- ---- lists of durations

never_list : (o : Option (List Fraction)) → Never cases.Memory (list_read o)
never_list None = λ e. cc
never_list (Some durations) = tt

never_fits : (o : Option (Code × ℕ)) (durations : List Fraction) → Never cases.Memory (list_fits o durations)
never_fits None durations = tt
never_fits (Some fault) durations = λ e. cc

pub no_list_is_want : NoListIsWantOfMemory
no_list_is_want times list =
    never_then cases.Memory (list_read (durations_in list)) _ (never_list (durations_in list))
    (λ durations. never_fits (judge_list times durations) durations)

-- ---- tasks

never_task : (a b c d e : Bool) (o : Option ℕ) (f : Bool) (t : PlainTask)
    → Never cases.Memory (or_fault ground_fault (kepts.unless_refused (if a then Some grounds.UncontrollableEvent else if b then Some grounds.TooManyBindings else if c then Some grounds.TooManyActions else if d then Some grounds.TooManyNodes else if e then Some grounds.TooManyAtoms else refusal_by o f) t))
never_task true b c d e o f t = λ e. cc
never_task false true c d e o f t = λ e. cc
never_task false false true d e o f t = λ e. cc
never_task false false false true e o f t = λ e. cc
never_task false false false false true o f t = λ e. cc
never_task false false false false false (Some n) f t = λ e. cc
never_task false false false false false None true t = λ e. cc
never_task false false false false false None false t = tt

pub no_task_is_want : NoTaskIsWantOfMemory
no_task_is_want p =
    never_task (list_any is_chosen p.timed) (nat_lt MAX_BINDINGS (binding_count p)) (nat_lt MAX_ACTIONS (length (kept p))) (nat_lt MAX_ACTION_NODES (node_count p)) (nat_lt MAX_ATOMS (length (task_atoms p)))
    (first_too_long (kept p)) (nat_lt MAX_DURATION_GRID (task_grid p)) (task_of p)
