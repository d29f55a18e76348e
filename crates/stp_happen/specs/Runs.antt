-- The run that a run in an arena stands for.
use Rattle.stp_happen.specs.declared.run.Run.{Run}
use Rattle.stp_happen.specs.Plain.{PlainRun}
use Rattle.stp_happen.specs.Views.{run_of}

abbrev pub plain_run : Run → PlainRun
plain_run run = run_of run.entries run.spans run.initial run.goal.now
