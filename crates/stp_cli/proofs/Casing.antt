-- The case that bytes make, by what each part of them is.
use Rattle.std.proofs.Common.{◌≡◌, ◌≢◌, ℕ, List, Some, None, Result, Ok, Err, refl, sym, ap, subst, ◌∙◌}
use Rattle.stp_text.specs.Tree.{Tree}
use Rattle.stp_text.specs.Reading.{tree_of}
use Rattle.stp_schema.specs.Views.{PlainDomain, PlainProblem}
use Rattle.stp_domain.specs.Reading.{domain_or_refusal}
use Rattle.stp_problem.specs.Reading.{problem_or_refusal}
use Rattle.stp_plan.specs.Steps.{PlainStep}
use Rattle.stp_plan.specs.Plans.{plan_of}
use Rattle.stp_exec.specs.declared.fault.ExecFault.{ExecFault}
use Rattle.stp_exec.specs.Placed.{PlainPlaced, placed_from}
use Rattle.stp_exec.specs.Boxed.{beyond_limits}
use Rattle.stp_report.specs.declared.answer.Answer.{Answer}
use Rattle.stp_report.specs.declared.answer.FileName.TheVariants as files
use Rattle.stp_happen.specs.BoxViews.{plain_box}
use Rattle.stp_exec.specs.declared.boxed_plan.BoxedPlan.{BoxedPlan}
use Rattle.stp_cli.specs.Refusals.{or_fault, text_fault, read_fault, plan_fault, exec_fault, refused, IsOrRefused}
use Rattle.stp_cli.specs.Case.{PlainCase, case_with, problem_of_texts, steps_of, case_of, grid_of, box_of}
use Rattle.stp_cli.specs.Cases.{StandsFor}
use Rattle.stp_cli.specs.Verdict.{IsVerdict}
use Rattle.stp_cli.specs.declared.refusal.CaseFault.{CaseFault}
use Rattle.stp_cli.specs.declared.refusal.CaseFault.TheVariants as faults
use Rattle.stp_cli.specs.declared.refusal.Refusal.{Refusal}

-- ---- faults

-- a fault of a reader that is no want of memory to a command is none of the reader's
pub fault_told : {A F : Type 0} (fault_of : F → CaseFault) (memory fault : F) (read : Result A F) → fault_of memory ≡ faults.Memory → (fault ≢ memory → read ≡ Err fault) → fault_of fault ≢ faults.Memory → or_fault fault_of read ≡ Err (fault_of fault)
fault_told fault_of memory fault read is told other = ap (or_fault fault_of) (told (λ e. other (ap fault_of e ∙ is)))

-- a refusal is no want of memory
pub is_refusal : (fault : CaseFault) (r : Refusal) → fault ≡ faults.Refused r → fault ≢ faults.Memory
is_refusal fault r e = λ same. let both = sym e ∙ same in cc

-- ---- the problem

module _ (domain problem : List ℕ) where
  pub refused_domain : (r : CaseFault) → or_fault (text_fault files.Domain) (tree_of domain) ≡ Err r → problem_of_texts domain problem ≡ Err r
  unfolding problem_of_texts
  refused_domain r d = rw d refl

  module _ (t : Tree) (is_tree : or_fault (text_fault files.Domain) (tree_of domain) ≡ Ok t) where
    pub refused_world : (r : CaseFault) → or_fault (read_fault files.Domain) (domain_or_refusal t) ≡ Err r → problem_of_texts domain problem ≡ Err r
    unfolding problem_of_texts
    refused_world r w = rw (is_tree, w) refl

    module _ (world : PlainDomain) (is_world : or_fault (read_fault files.Domain) (domain_or_refusal t) ≡ Ok world) where
      pub refused_problem_tree : (r : CaseFault) → or_fault (text_fault files.Problem) (tree_of problem) ≡ Err r → problem_of_texts domain problem ≡ Err r
      unfolding problem_of_texts
      refused_problem_tree r p = rw (is_tree, is_world, p) refl

      module _ (u : Tree) (is_problem : or_fault (text_fault files.Problem) (tree_of problem) ≡ Ok u) where
        by_trees : problem_of_texts domain problem ≡ or_fault (read_fault files.Problem) (problem_or_refusal world u)
        unfolding problem_of_texts
        by_trees = rw (is_tree, is_world, is_problem) refl

        pub a_problem : (read : PlainProblem) → or_fault (read_fault files.Problem) (problem_or_refusal world u) ≡ Ok read → problem_of_texts domain problem ≡ Ok read
        a_problem read k = by_trees ∙ k

        pub refused_problem : (r : CaseFault) → or_fault (read_fault files.Problem) (problem_or_refusal world u) ≡ Err r → problem_of_texts domain problem ≡ Err r
        refused_problem r k = by_trees ∙ k

-- ---- the steps

module _ (read : PlainProblem) (plan : List ℕ) where
  pub refused_lines : (r : CaseFault) → or_fault plan_fault (plan_of plan) ≡ Err r → steps_of read plan ≡ Err r
  unfolding steps_of
  refused_lines r l = rw l refl

  module _ (lines : List PlainStep) (are_lines : or_fault plan_fault (plan_of plan) ≡ Ok lines) where
    pub refused_step : (fault : ExecFault) → placed_from 1 read lines ≡ Err fault → steps_of read plan ≡ Err (exec_fault fault)
    unfolding steps_of
    refused_step fault e = rw (are_lines, e) refl

    module _ (placed : List PlainPlaced) (are_placed : placed_from 1 read lines ≡ Ok placed) where
      pub refused_limit : (fault : ExecFault) → beyond_limits read placed ≡ Some fault → steps_of read plan ≡ Err (exec_fault fault)
      unfolding steps_of
      refused_limit fault e = rw (are_lines, are_placed, e) refl

      pub are_steps : beyond_limits read placed ≡ None → steps_of read plan ≡ Ok placed
      unfolding steps_of
      are_steps e = rw (are_lines, are_placed, e) refl

-- ---- the case

module _ (domain problem plan : List ℕ) where
  pub case_refused : (r : CaseFault) → problem_of_texts domain problem ≡ Err r → case_of domain problem plan ≡ Err r
  unfolding case_of
  case_refused r e = rw e refl

  module _ (read : PlainProblem) (is_read : problem_of_texts domain problem ≡ Ok read) where
    pub steps_refused : (r : CaseFault) → steps_of read plan ≡ Err r → case_of domain problem plan ≡ Err r
    unfolding case_of
    steps_refused r e = rw (is_read, e) refl

    pub a_case : (steps : List PlainPlaced) → steps_of read plan ≡ Ok steps → case_of domain problem plan ≡ Ok (case_with read steps)
    unfolding case_of
    a_case steps e = rw (is_read, e) refl

-- ---- the answer

pub refused_or : {A : Type 0} (right : A → Answer → Type 0) (read : Result A CaseFault) (r : Refusal) (answer : Answer) → read ≡ Err (faults.Refused r) → answer ≡ refused r → IsOrRefused right read answer
refused_or right read r answer e is = rw e is

pub or_right : {A : Type 0} (right : A → Answer → Type 0) (read : Result A CaseFault) (a : A) (answer : Answer) → read ≡ Ok a → right a answer → IsOrRefused right read answer
or_right right read a answer e is = rw e is

-- the verdict on a case in an arena is the one on the case that it stands for
pub same_verdict : (made : BoxedPlan) (c : PlainCase) → StandsFor made c → (answer : Answer) → IsVerdict made.boxed.grid (plain_box made.boxed) answer → IsVerdict (grid_of c) (box_of c) answer
same_verdict made c stands answer v = subst (λ b. IsVerdict (grid_of c) b answer) stands.box (subst (λ g. IsVerdict g (plain_box made.boxed) answer) stands.grid v)
