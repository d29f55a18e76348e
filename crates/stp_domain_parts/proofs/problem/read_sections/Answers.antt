use Rattle.std.proofs.Common.{sym, drop, arith, ◌+◌}
use Rattle.stp_text.specs.Tree.{view, views}
use Rattle.stp_text.proofs.Items.{views_more}
use Rattle.stp_domain_parts.specs.Problem.{no_sections, section_read, sections_read}
use Rattle.stp_domain_parts.specs.ProblemViews.{sections_of}
use Rattle.stp_domain_parts.proofs.Going.{goes_next}
use Rattle.stp_domain_parts.proofs.problem.read_sections.Goals as goal

pub loop-section-preserved : goal.loop-section-preserved
loop-section-preserved c =
    goes_next (section_read c.args.domain.now (sections_of c.loop-section.found) (view c.section-item.result)) (λ found. sections_read c.args.domain.now found (views (drop (c.loop-section.section-index + 1) c.args.sections.now))) (sections_read c.args.domain.now no_sections (views c.args.sections.now))
    (rw (views_more c.args.sections.now c.loop-section.section-index c.section-item.result (omega arith) (sym c.section-item.is)) at c.loop-section.invariant)
    c.read.ensures
