-- The members of what has to hold inside the steps so far have been judged.
use Rattle.std.proofs.Common.{Bool, List, map, take, All}
use Rattle.stp_check.specs.Ends.{AreJudged}
use Rattle.stp_check.specs.Late.{box_inside, IsRowAt}
use Rattle.stp_check.proofs.finding.late_among.Given as goal

abbrev pub invariant-loop-one : goal.invariant-loop-one
invariant-loop-one l = (initial : List Bool) → IsRowAt (box_inside l.windows (map (λ h. h.lasting) l.over_alls) initial) l.time l.row →
    All (AreJudged (box_inside l.windows (map (λ h. h.lasting) l.over_alls) initial) l.time) (take l.one-index l.over_alls)
