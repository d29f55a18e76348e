use Rattle.std.proofs.Common.{Ok, map, sym, ap, ◌∙◌, arith}
use Rattle.std.proofs.lemmas.Result.{IfOk-weaker}
use Rattle.stp_frac.specs.Fractions.{value_of}
use Rattle.stp_cli.proofs.Verdicts.{grid_low, grid_high}
use Rattle.stp_cli.proofs.Replays.{base_is, made_factor_pos, made_vector, made_replayed}
use Rattle.stp_cli.proofs.replay.replay.Goals as goal

pub fit-requires-clause-base : goal.fit-requires-clause-base
fit-requires-clause-base c = base_is c.args.case.now c.requires.0 c.requires.1

pub fit-requires-clause-high : goal.fit-requires-clause-high
fit-requires-clause-high c = grid_high c.args.case.now.boxed

pub nonzero_div-factor : goal.nonzero_div-factor
nonzero_div-factor c = omega (arith, grid_low c.args.case.now.boxed)

pub run_on-requires-clause-factor : goal.run_on-requires-clause-factor
run_on-requires-clause-factor c =
    let pos = made_factor_pos c.args.case.now c.requires.0 c.requires.1 c.as_slice.result.now c.in-Ok-fit.fitted.grid c.in-Ok-fit.ensures.grid in
    omega (arith, pos)

pub run_on-requires-clause-vector : goal.run_on-requires-clause-vector
run_on-requires-clause-vector c =
    made_vector c.args.case.now c.requires.0 c.requires.1 c.as_slice.result.now c.in-Ok-fit.fitted.grid c.in-Ok-fit.ensures.grid c.in-Ok-fit.ensures.judged
    c.as_slice-2.result.now (c.as_slice-2.ensures ∙ c.in-Ok-fit.ensures.durations)

pub returns : goal.returns
returns c =
    IfOk-weaker c.run_on.result _ _
    (λ r (answer, run, status, text). λ case s. (
      answer,
      made_replayed c.args.case.now case s c.as_slice.result.now c.in-Ok-fit.fitted.grid c.in-Ok-fit.ensures.grid c.in-Ok-fit.ensures.judged
          c.args.list.now c.as_slice-2.result.now answer (c.in-Ok.ensures.ok ∙ ap (λ l. Ok (map value_of l)) (sym c.as_slice.ensures)) (c.as_slice-2.ensures ∙ c.in-Ok-fit.ensures.durations) run,
      status,
      text,
    ))
    c.run_on.ensures
