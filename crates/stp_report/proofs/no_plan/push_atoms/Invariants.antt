-- The lines so far are appended, and those that are left will be.
use Rattle.std.proofs.Common.{◌≡◌, ◌++◌, drop}
use Rattle.stp_cond.specs.Views.{atoms_of}
use Rattle.stp_schema.specs.Views.{problem_of}
use Rattle.stp_report.specs.NoPlan.{atom_lines}
use Rattle.stp_report.proofs.no_plan.push_atoms.Given as goal

abbrev pub invariant-loop-atom : goal.invariant-loop-atom
invariant-loop-atom l = l.out ++ atom_lines (problem_of l.problem) l.atoms l.word (atoms_of (drop l.atom-index l.those)) ≡ l.fn.out ++ atom_lines (problem_of l.problem) l.atoms l.word (atoms_of l.those)
