use Rattle.std.proofs.Common.{◌≡◌, ℕ, List, Option, Some, ◌∙◌, ap}
use Rattle.std.specs.Prelude.{codes}
use Rattle.stp_text.specs.Tree.{Tree, Trees, view}
use Rattle.stp_text.specs.Items.{place}
use Rattle.stp_refusal.specs.declared.offence.Offence.{Offence}
use Rattle.stp_refusal.specs.First.{first_from}
use Rattle.stp_refusal.specs.Read.{IsRead, also}
use Rattle.stp_refusal.proofs.Reading.{mapped, also_is}
use Rattle.stp_domain_parts.specs.Forms.{definition}
use Rattle.stp_domain_parts.specs.Problem.{Problem, Sections, no_sections, sections_read, missing, problem_with, problem_read}
use Rattle.stp_domain_parts.specs.ProblemViews.{sections_of, problem_of}
use Rattle.stp_domain_parts.proofs.problem.problem_parts.Goals as goal

problem_is : (domain : List ℕ) (tree : Tree) (title : List ℕ × Trees) (at : ℕ) (old middle new : Option Offence) (found : Sections) (value : Problem) → definition (codes "problem") tree ≡ Some title → at ≡ place tree → IsRead old middle found (sections_read domain no_sections title.1) → new ≡ first_from middle (missing at found) → value ≡ problem_with at found → IsRead old new value (problem_read domain tree)
problem_is domain tree title at old middle new found value e a h k same =
    rw e (mapped (problem_with (place tree)) old new found value (also (missing (place tree)) (sections_read domain no_sections title.1)) (same ∙ ap (λ n. problem_with n found) a)
    (also_is (missing (place tree)) old middle new found (sections_read domain no_sections title.1) h (k ∙ ap (λ n. first_from middle (missing n found)) a)))

pub returns : goal.returns
returns c =
    problem_is c.args.domain_name.now (view c.args.tree.now) _ c.place-at.result c.args.first.now c.read_sections-found.new.first c.judge_missing.new.first (sections_of c.read_sections-found.result) (problem_of c.problem_with-2.result)
    (rw c.as_slice.ensures at c.in-Some.ensures) c.place-at.ensures c.read_sections-found.ensures c.judge_missing.ensures c.problem_with-2.ensures
