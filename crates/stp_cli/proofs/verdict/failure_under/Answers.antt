use Rattle.std.proofs.Common.{◌≡◌, ℕ, ◌-◌, length, subst, sym, ◌∙◌}
use Rattle.std.specs.Prelude.{slice_get, IfSome}
use Rattle.stp_report.specs.Bounds.{IsTime}
use Rattle.stp_cli.proofs.Verdicts.{got_of_all}
use Rattle.stp_cli.proofs.verdict.failure_under.Goals as goal

pub returns-clause-failing : goal.returns-clause-failing
returns-clause-failing c = record {
  durations = c.args.durations.now;
  weak = c.requires.weak;
  least = c.requires.least;
  last = c.copied-last.ensures ∙ c.last.ensures.value;
  first = c.in_ok-fault.ensures.first;
}

-- the last entry is a time, since all are
pub returns-clause-times : goal.returns-clause-times
returns-clause-times c =
    let durations = c.args.durations.now in
    let times = c.in_ok-fault.ensures.times in
    record {
      is_grid = times.is_grid;
      last_within =
          subst (λ last. IfSome last (IsTime c.args.boxed.now.grid)) (sym (c.copied-last.ensures ∙ c.last.ensures.value))
          (got_of_all (IsTime c.args.boxed.now.grid) durations (length durations - 1) times.durations_within);
      fault_within = times.fault_within;
    }
