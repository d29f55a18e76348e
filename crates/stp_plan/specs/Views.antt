-- What the program's values stand for.
use Rattle.std.specs.Prelude.{ℕ, List, map}
use Rattle.std.specs.Borrow.{Bor}
use Rattle.stp_frac.specs.Fractions.{Fraction, value_of}
use Rattle.stp_frac.specs.declared.frac.Frac.{Frac}
use Rattle.stp_plan.specs.declared.steps.Bracket.{Bracket}
use Rattle.stp_plan.specs.declared.steps.Bracket.TheVariants.{Absent, Number, Star, Pair}
use Rattle.stp_plan.specs.declared.steps.Step.{Step}
use Rattle.stp_plan.specs.declared.steps.Plan.{Plan}
use Rattle.stp_plan.specs.declared.read.Kept.{Kept}
use Rattle.stp_plan.specs.Plans.{SoFar}
use Rattle.stp_plan.specs.Parts.{Part, parts}
use Rattle.stp_plan.specs.Steps.{PlainBracket, NoBracket, Exactly, AnyNumber, Between, PlainStep}

-- a run, and the parts of what follows it
abbrev pub view_run : Bor (List ℕ) × Bor (List ℕ) → List ℕ × List Part
view_run r = (r.0.now, parts r.1.now)

-- anything, and the parts of what follows it
abbrev pub view_front : {A : Type 0} → A × Bor (List ℕ) → A × List Part
view_front r = (r.0, parts r.1.now)

-- a number, and the parts of what follows it
abbrev pub view_time : Frac × Bor (List ℕ) → Fraction × List Part
view_time r = (value_of r.0, parts r.1.now)

-- a bracket
abbrev pub plain_bracket : Bracket → PlainBracket
plain_bracket Absent = NoBracket
plain_bracket (Number number) = Exactly (value_of number)
plain_bracket Star = AnyNumber
plain_bracket (Pair low high) = Between (value_of low) (value_of high)

-- a step
abbrev pub plain_step : Step → PlainStep
plain_step s = record { at = value_of s.at; name = s.name; args = s.args; bracket = plain_bracket s.bracket }

-- a plan
abbrev pub plain_plan : Plan → List PlainStep
plain_plan plan = map plain_step plan.steps

-- what is kept of a plan so far
abbrev pub so_far_of : Kept → SoFar
so_far_of kept = record { steps = map plain_step kept.steps; extra = kept.extra }
