use Rattle.std.proofs.Common.{ap, ◌∙◌}
use Rattle.std.proofs.lemmas.List.Filters.{dedup_is}
use Rattle.stp_cond.specs.Atoms.{set_of}
use Rattle.stp_cond.proofs.Rising.{set_from_sort}
use Rattle.stp_check.proofs.carrying.moments_of.Goals as goal

pub returns : goal.returns
returns c =
    dedup_is _ _ _ c.dedup.ensures.filtered
    ∙ (set_from_sort c.in_ok-moments.moments.items c.sort.new.self.items c.in_ok-sort.ensures.permutation c.in_ok-sort.ensures.sorted
    ∙ ap set_of c.in_ok-moments.ensures)
