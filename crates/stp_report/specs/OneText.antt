-- Runs that are printed alike.
use Rattle.std.specs.Prelude.{◌≡◌, Option}
use Rattle.std.specs.Borrow.{Bor}
use Rattle.stp_happen.specs.declared.fault.Fault.{Fault}
use Rattle.stp_happen.specs.declared.run.Run.{Run}
use Rattle.stp_happen.specs.Orders.{IsInSomeOrder}
use Rattle.stp_happen.specs.Plain.{PlainRun}
use Rattle.stp_happen.specs.Runs.{plain_run}
use Rattle.stp_report.specs.declared.answer.Answer.TheVariants.{Replay}
use Rattle.stp_report.specs.Texts.{text_of}

-- two runs on one grid that are one run but for the order of their entries are printed alike with one fault
abbrev pub ReplaysHaveOneText : Type 0
ReplaysHaveOneText =
    (run other : Bor Run) (plain : PlainRun) (fault : Option Fault) → run.now.grid ≡ other.now.grid → IsInSomeOrder (plain_run run.now) plain → IsInSomeOrder (plain_run other.now) plain
    → text_of (Replay run fault) ≡ text_of (Replay other fault)
