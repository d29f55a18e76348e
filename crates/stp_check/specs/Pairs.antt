-- Steps of one action that may run at one moment, and events that may meet and interfere.
use Rattle.std.specs.Prelude.{◌≡◌, ℕ, nat_le, false, if◌then◌else◌, max, List, Contains}
use Rattle.stp_window.specs.Windows.{Point, OpenSpan}
use Rattle.stp_strength.specs.Failures.{stay_apart, stay_calm}

-- a span may run at one moment with another one of its action
abbrev pub IsNotApartFrom : OpenSpan → List OpenSpan → OpenSpan → Type 0
IsNotApartFrom s spans o = Contains spans o × (stay_apart s o ≡ false)

-- two spans of one action may run at one moment, this step starts first of the two, and the other starts then
abbrev pub AreNotApart : List OpenSpan → ℕ → ℕ → Type 0
AreNotApart spans step time =
    (s : OpenSpan) × (o : OpenSpan) × Contains spans s × (step ≡ (if nat_le s.from o.from then s.end.step else o.end.step)) × (time ≡ max s.from o.from) × IsNotApartFrom s spans o

-- one of these points may meet another and interferes with it
abbrev pub IsNotCalmWith : Point → List Point → Point → Type 0
IsNotCalmWith p points q = Contains points q × (stay_calm p q ≡ false)

-- points of these steps may meet and interfere, at this moment first of all
abbrev pub AreNotCalm : List Point → ℕ → ℕ → ℕ → Type 0
AreNotCalm points one other time = (p q : Point) × Contains points p × (p.step ≡ one) × (q.step ≡ other) × (time ≡ max p.low q.low) × IsNotCalmWith p points q
