-- The members so far have been judged.
use Rattle.std.proofs.Common.{take, All, Contains}
use Rattle.stp_window.specs.Views.{points_of, span_of}
use Rattle.stp_window.specs.Windows.{WindowBox}
use Rattle.stp_check.specs.Ends.{IsJudged, IsSeenAt}
use Rattle.stp_check.proofs.late.late_at.Given as goal

abbrev pub invariant-loop-member : goal.invariant-loop-member
invariant-loop-member l = (b : WindowBox) → IsSeenAt b l.time l.row (points_of l.unsettled) (points_of l.begins) → Contains b.spans (span_of l.over_all.lasting) → All (IsJudged b (span_of l.over_all.lasting) l.time) (take l.member-index l.member-items)
