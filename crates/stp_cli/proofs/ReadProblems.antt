-- What is so of each problem that was read.
use Rattle.std.proofs.Common.{◌≡◌, ℕ, List, Result, Ok, Err, refl, ap}
use Rattle.stp_base.specs.Results.{◌>>=◌}
use Rattle.stp_text.specs.Reading.{tree_of}
use Rattle.stp_schema.specs.Views.{PlainProblem}
use Rattle.stp_domain.specs.Reading.{domain_or_refusal}
use Rattle.stp_problem.specs.Reading.{problem_or_refusal}
use Rattle.stp_report.specs.declared.answer.FileName.TheVariants as files
use Rattle.stp_unreachable.specs.PlansOf.{HasPlainSimpleActions}
use Rattle.stp_unreachable.proofs.Premises.{read_actions_are_plain}
use Rattle.stp_cli.specs.declared.refusal.CaseFault.{CaseFault}
use Rattle.stp_cli.specs.Refusals.{or_fault, text_fault, read_fault}
use Rattle.stp_cli.specs.Case.{problem_of_texts}

-- a value that comes of another comes of one that is there
pub bound : {A B F : Type 0} (r : Result A F) (f : A → Result B F) (b : B) → (r >>= f) ≡ Ok b → (a : A) × (r ≡ Ok a) × (f a ≡ Ok b)
bound (Ok a) f b e = (a, refl, e)
bound (Err fault) f b e = cc

pub no_fault : {A F : Type 0} (fault_of : F → CaseFault) (r : Result A F) (a : A) → or_fault fault_of r ≡ Ok a → r ≡ Ok a
no_fault fault_of (Ok x) a e = let same : x ≡ a = cc in ap Ok same
no_fault fault_of (Err fault) a e = cc

pub simple_actions_are_plain : (domain problem : List ℕ) (p : PlainProblem) → problem_of_texts domain problem ≡ Ok p → HasPlainSimpleActions p
unfolding problem_of_texts
simple_actions_are_plain domain problem p e =
    let (domain_tree, first, after_tree) = bound (or_fault (text_fault files.Domain) (tree_of domain)) _ p e in
    let (world, second, after_world) = bound (or_fault (read_fault files.Domain) (domain_or_refusal domain_tree)) _ p after_tree in
    let (problem_tree, third, after_problem) = bound (or_fault (text_fault files.Problem) (tree_of problem)) _ p after_world in
    read_actions_are_plain domain_tree world problem_tree p (no_fault (read_fault files.Domain) (domain_or_refusal domain_tree) world second)
    (no_fault (read_fault files.Problem) (problem_or_refusal world problem_tree) p after_problem)
