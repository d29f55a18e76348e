use Rattle.std.proofs.Common.{ap, ◌∙◌}
use Rattle.std.specs.Prelude.{◌++◌, ◌∷◌, [], codes}
use Rattle.std.proofs.lemmas.Result.{on_ok_weaker}
use Rattle.stp_cond.specs.Views.{atoms_of}
use Rattle.stp_schema.specs.Views.{problem_of}
use Rattle.stp_report.specs.NoPlan.{atom_lines}
use Rattle.stp_report.proofs.JoinedTexts.{three}
use Rattle.stp_report.proofs.no_plan.push_unreachable.Goals as goal

pub returns : goal.returns
returns c =
    let problem = problem_of c.args.problem.now in
    let atoms = c.args.task.now.atoms in
    on_ok_weaker c.push_atoms-2.result
    (λ e. three (codes "no plan: unreachable" ++ 10 ∷ [])
    (atom_lines problem atoms (codes "may ") (atoms_of c.args.certificate.now.may))
    (atom_lines problem atoms (codes "always ") (atoms_of c.args.certificate.now.always))
    c.push_words.new.out c.push_atoms.new.out c.push_atoms-2.new.out c.args.out.now
    c.in_ok-push_words.ensures
    (c.in_ok-push_atoms.ensures ∙ ap (λ a. c.push_words.new.out ++ atom_lines problem atoms (codes "may ") (atoms_of a)) c.as_slice.ensures)
    (e ∙ ap (λ a. c.push_atoms.new.out ++ atom_lines problem atoms (codes "always ") (atoms_of a)) c.as_slice-2.ensures))
    c.push_atoms-2.ensures
