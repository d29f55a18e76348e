-- Two points of a box that meet and interfere.
use Rattle.std.specs.Prelude.{◌≡◌, true, List, Some}
use Rattle.stp_cond.specs.Atoms.{interfere}
use Rattle.stp_happen.specs.Owners.{PlainBoxStep, PlainBoxTimed}
use Rattle.stp_window.specs.Points.{HaveMoment, IsInWindow, point_at}
use Rattle.stp_window.specs.Windows.{Point}
use Rattle.stp_window.specs.declared.points.Meeting.{Meeting}
use Rattle.stp_window.specs.declared.points.PointOf.{PointOf}

-- two points that are there are of different steps, and their events interfere
pub record AreAtOdds (steps : List PlainBoxStep) (timed : List PlainBoxTimed) (one other : PointOf) (p q : Point) : Type 0 where
  pub one_there : point_at steps timed one ≡ Some p
  pub other_there : point_at steps timed other ≡ Some q
  pub different : p.step ≡ q.step → ⊥
  pub interfere : interfere p.event q.event ≡ true

-- no two points of different steps whose events interfere have a common moment
abbrev pub NoneMeeting : List PlainBoxStep → List PlainBoxTimed → Type 0
NoneMeeting steps timed = (one other : PointOf) (p q : Point) → AreAtOdds steps timed one other p q → HaveMoment p q → ⊥

-- these two points are of different steps, their events interfere, and the moment lies in both windows
abbrev pub IsMeeting : List PlainBoxStep → List PlainBoxTimed → Meeting → Type 0
IsMeeting steps timed m = (p : Point) × (q : Point) × AreAtOdds steps timed m.one m.other p q × IsInWindow m.time p × IsInWindow m.time q
