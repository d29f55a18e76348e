-- What is known of a formula where some of its atoms are known.
use Rattle.std.specs.Prelude.{◌≡◌, ℕ, Bool, true, false, List, [], ◌∷◌}
use Rattle.stp_cond.specs.declared.cond.Cond.{Cond}
use Rattle.stp_cond.specs.declared.cond.Cond.TheOpen.{Cond-F}
use Rattle.stp_cond.specs.declared.cond.Cond.TheFolds.{fold-Cond}
use Rattle.stp_cond.specs.declared.known.Three.{Three}
use Rattle.stp_cond.specs.declared.known.Three.TheVariants.{Yes, No, Unknown}
use Rattle.stp_cond.specs.Folded.{Fits, Agrees}
use Rattle.stp_cond.specs.Truth.{truth, reads_only}

-- ---- Kleene's three values

abbrev pub three_of : Bool → Three
three_of true = Yes
three_of false = No

abbrev pub opposite : Three → Three
opposite Yes = No
opposite No = Yes
opposite Unknown = Unknown

abbrev pub unless_no : Three → Three
unless_no Yes = Unknown
unless_no No = No
unless_no Unknown = Unknown

abbrev pub unless_yes : Three → Three
unless_yes Yes = Yes
unless_yes No = Unknown
unless_yes Unknown = Unknown

abbrev pub both : Three → Three → Three
both Yes other = other
both No other = No
both Unknown other = unless_no other

abbrev pub either : Three → Three → Three
either Yes other = Yes
either No other = other
either Unknown other = unless_yes other

abbrev pub all_three : List Three → Three
all_three [] = Yes
all_three (t ∷ ts) = both t (all_three ts)

abbrev pub any_three : List Three → Three
any_three [] = No
any_three (t ∷ ts) = either t (any_three ts)

-- ---- formulas

abbrev pub decided_step : (ℕ → Three) → Cond-F Three → Three
decided_step known Cond-F.True = Yes
decided_step known Cond-F.False = No
decided_step known (Cond-F.Atom atom) = known atom.0
decided_step known (Cond-F.Not part) = opposite part.now
decided_step known (Cond-F.And parts) = all_three parts.now
decided_step known (Cond-F.Or parts) = any_three parts.now

-- the value of a formula where some of its atoms are known
abbrev pub decided : (ℕ → Three) → Cond → Three
decided known = fold-Cond Three (decided_step known)

-- ---- laws

-- what is decided of a formula holds in each state that agrees with what is known
abbrev pub DecidedHoldsInAll : Type 0
DecidedHoldsInAll = (known : ℕ → Three) (state : ℕ → Bool) (cond : Cond) → Agrees known state → Fits (decided known cond) (truth state cond)

-- a formula of which all atoms are known is decided
abbrev pub KnownAtomsDecide : Type 0
KnownAtomsDecide = (these : ℕ → Bool) (known : ℕ → Three) (state : ℕ → Bool) (cond : Cond) → reads_only these cond ≡ true → ((a : ℕ) → these a ≡ true → known a ≡ three_of (state a)) → decided known cond ≡ three_of (truth state cond)
