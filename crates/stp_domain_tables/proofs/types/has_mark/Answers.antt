use Rattle.std.proofs.Common.{◌<◌, length, ◌∙◌, sym, arith}
use Rattle.stp_domain_tables.proofs.Numbering.{loop_from, no_loop}
use Rattle.stp_domain_tables.proofs.types.has_mark.Goals as goal

pub returns-then-mark : goal.returns-then-mark
returns-then-mark c = λ parents m.
    let below : c.loop-mark.mark-index < length parents = omega (arith, m.len, c.loop-mark-test.true) in
    sym (loop_from parents (length parents) c.loop-mark.mark-index below (sym (m.each c.loop-mark.mark-index below) ∙ c.if-mark.true))

pub returns : goal.returns
returns c = λ parents m. sym (no_loop parents (length parents) (λ k h. sym (m.each k h) ∙ c.loop-mark.invariant k (omega (arith, h, m.len, c.loop-mark-test.false))))
