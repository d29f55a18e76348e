use Rattle.std.proofs.Common.{drop}
use Rattle.stp_text.specs.Tree.{views}
use Rattle.stp_domain_parts.specs.Then.{Goes}
use Rattle.stp_domain_parts.specs.Problem.{no_sections, sections_read}
use Rattle.stp_domain_parts.specs.ProblemViews.{sections_of}
use Rattle.stp_domain_parts.proofs.problem.read_sections.Given as goal

abbrev pub invariant-loop-section : goal.invariant-loop-section
invariant-loop-section l = Goes l.fn.first l.first (sections_read l.domain (sections_of l.found) (views (drop l.section-index l.sections))) (sections_read l.domain no_sections (views l.sections))
