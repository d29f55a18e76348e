use Rattle.std.proofs.Common.{◌≤◌, ◌^◌, subst, sym, ◌∙◌, arith}
use Rattle.stp_frac.specs.Fractions.{value_of}
use Rattle.stp_exec.specs.Timed.{count_of}
use Rattle.stp_exec.proofs.Bounds.{count_is, count_small, none_not_some, some_same}
use Rattle.stp_exec.proofs.moments.count.Goals as goal

pub unreachable-requires : goal.unreachable-requires
unreachable-requires c = none_not_some (count_of c.args.grid (value_of c.args.number)) (sym c.in_default.is ∙ c.on_grid.ensures ∙ count_is c.args.grid (value_of c.args.number) (omega (arith, c.requires.low)) c.requires.lies c.requires.above)

pub returns-clause-value : goal.returns-clause-value
returns-clause-value c = some_same c.in-Some.count (count_of c.args.grid (value_of c.args.number)) (sym c.in-Some.is ∙ c.on_grid.ensures ∙ count_is c.args.grid (value_of c.args.number) (omega (arith, c.requires.low)) c.requires.lies c.requires.above)

pub returns-clause-bound : goal.returns-clause-bound
returns-clause-bound c =
    subst (λ n. n ≤ 10 ^ 27)
    (sym (some_same c.in-Some.count (count_of c.args.grid (value_of c.args.number)) (sym c.in-Some.is ∙ c.on_grid.ensures ∙ count_is c.args.grid (value_of c.args.number) (omega (arith, c.requires.low)) c.requires.lies c.requires.above)))
    (count_small c.args.grid c.args.number c.requires.high)
