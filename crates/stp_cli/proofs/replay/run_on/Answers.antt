use Rattle.std.proofs.Common.{◌*◌, subst, ◌∙◌}
use Rattle.std.proofs.lemmas.Result.{IfOk-weaker}
use Rattle.stp_happen.specs.BoxViews.{plain_box}
use Rattle.stp_cli.specs.Replay.{IsRunWith}
use Rattle.stp_cli.proofs.Replays.{some_times, run_with}
use Rattle.stp_cli.proofs.replay.run_on.Goals as goal

pub show-requires : goal.show-requires
show-requires c = some_times c.in_ok-run.run' c.first_fault-fault.result c.first_fault-fault.ensures.first

pub returns : goal.returns
returns c =
    IfOk-weaker c.show.result _ _
    (λ r (answer, (shown, is, e), status, text). (
      answer,
      subst (λ b. IsRunWith (c.args.boxed.now.grid * c.args.factor) b c.args.durations.now answer) c.in_ok-finer.ensures.same
          (run_with (c.args.boxed.now.grid * c.args.factor) (plain_box c.in_ok-finer.finer) c.args.durations.now c.in_ok-run.run' c.first_fault-fault.result
          (c.in_ok-run.ensures.grid ∙ c.in_ok-finer.ensures.grid) c.in_ok-run.ensures.run c.in_ok-run.ensures.executes c.in_ok-run.ensures.first_fault c.first_fault-fault.ensures.none c.first_fault-fault.ensures.first shown is answer e),
      status,
      text,
    ))
    c.show.ensures
