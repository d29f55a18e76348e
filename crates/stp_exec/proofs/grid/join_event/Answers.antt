use Rattle.std.proofs.Common.{[], ◌∷◌, sym, ◌∙◌, arith}
use Rattle.stp_exec.proofs.Multiples.{one_joined, none_joined, last_joined}
use Rattle.stp_exec.proofs.grid.join_event.Goals as goal

pub returns-in_default-clause-value : goal.returns-in_default-clause-value
returns-in_default-clause-value c =
    let e = c.args.event.now in
    none_joined c.args.grid e.low.bottom (e.high.bottom ∷ []) (omega (arith, c.requires.low)) (omega (arith, e.low.low)) (omega (arith, e.high.low), tt) (sym c.in_default.is ∙ c.join.ensures.value)

pub returns-clause-value : goal.returns-clause-value
returns-clause-value c =
    let e = c.args.event.now in
    c.join-2.ensures.value
    ∙ last_joined c.in-Some.grid e.high.bottom (omega (arith, e.high.low))
    ∙ one_joined c.args.grid e.low.bottom c.in-Some.grid (e.high.bottom ∷ []) (omega (arith, c.requires.low)) (omega (arith, e.low.low)) (omega (arith, e.high.low), tt) (sym c.in-Some.is ∙ c.join.ensures.value)
