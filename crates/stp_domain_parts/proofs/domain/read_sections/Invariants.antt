use Rattle.std.proofs.Common.{drop}
use Rattle.stp_text.specs.Tree.{views}
use Rattle.stp_domain_parts.specs.Then.{Goes}
use Rattle.stp_domain_parts.specs.Domain.{no_sections, sections_read}
use Rattle.stp_domain_parts.specs.Views.{sections_of}
use Rattle.stp_domain_parts.proofs.domain.read_sections.Given as goal

abbrev pub invariant-loop-section : goal.invariant-loop-section
invariant-loop-section l = Goes l.fn.first l.first (sections_read (sections_of l.found) (views (drop l.section-index l.sections))) (sections_read no_sections (views l.sections))
