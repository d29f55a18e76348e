use Rattle.std.proofs.Common.{◌*◌, ℤ, sym, ◌∙◌, ap, arith}
use Rattle.stp_frac.specs.Fractions.{fraction, sum_of}
use Rattle.stp_frac.proofs.Fractions.{sum_of_same, sum_of_left, sum_of_right}
use Rattle.stp_frac.proofs.frac.Frac.plus.Goals as goal

pub returns-then-self-other : goal.returns-then-self-other
unfolding sum_of
returns-then-self-other c =
    let a = c.args.self in
    let b = c.args.other in
    c.reduced.ensures ∙ ap (λ (z : ℤ). fraction z (a.bottom * b.bottom)) (sym (sum_of_same a.negative b.negative a.top a.bottom b.top b.bottom c.if-self-other.true))

pub returns-then-right-left : goal.returns-then-right-left
unfolding sum_of
returns-then-right-left c =
    let a = c.args.self in
    let b = c.args.other in
    c.reduced-then-right-left.ensures ∙ ap (λ (z : ℤ). fraction z (a.bottom * b.bottom)) (sym (sum_of_left a.negative b.negative a.top a.bottom b.top b.bottom c.if-self-other.false c.if-right-left.true))

pub returns : goal.returns
unfolding sum_of
returns c =
    let a = c.args.self in
    let b = c.args.other in
    c.reduced-2.ensures ∙ ap (λ (z : ℤ). fraction z (a.bottom * b.bottom)) (sym (sum_of_right a.negative b.negative a.top a.bottom b.top b.bottom c.if-self-other.false (omega arith)))
