-- Laws of splitting: which formulas may be judged apart, and what the two cases of one end say of all ends.
use Rattle.std.specs.Prelude.{◌≡◌, ℕ, ◌==◌, Bool, true, ◌||◌, List, ◌∷◌, Contains}
use Rattle.stp_cond.specs.declared.cond.Cond.{Cond}
use Rattle.stp_cond.specs.Atoms.{has, changed_by}
use Rattle.stp_window.specs.Windows.{Point}
use Rattle.stp_split.specs.Cases.{AreCases, ShareNone, turns, without_step}
use Rattle.stp_split.specs.Judged.{IsAlways, FailsAt, SomeAlways, EachFails}

-- ---- apart

-- one formula that always has the truth that is wanted is enough
abbrev pub OneIsEnough : Type 0
OneIsEnough = (c : Cond) (cs : List Cond) (want : Bool) (ends : List Point) (state : ℕ → Bool) → IsAlways c want ends state → SomeAlways (c ∷ cs) want ends state

-- and so are the others
abbrev pub OthersAreEnough : Type 0
OthersAreEnough = (c : Cond) (cs : List Cond) (want : Bool) (ends : List Point) (state : ℕ → Bool) → SomeAlways cs want ends state → SomeAlways (c ∷ cs) want ends state

-- formulas that share no end fail where the ends of both have come
abbrev pub ApartFormulasFailTogether : Type 0
ApartFormulasFailTogether = (c : Cond) (cs : List Cond) (want : Bool) (ends : List Point) (state : ℕ → Bool) (one more all : List ℕ) → ((n : ℕ) → has all n ≡ (has one n || has more n)) → AreCases ends → ShareNone ends state c cs →
    FailsAt c want ends state one → EachFails cs want ends state more → EachFails (c ∷ cs) want ends state all

-- ---- one end that comes or does not

-- what always holds where an end has not come and where it has come holds always
abbrev pub BothCasesAreAll : Type 0
BothCasesAreAll = (cs : List Cond) (want : Bool) (ends : List Point) (state : ℕ → Bool) (p : Point) → AreCases ends → Contains ends p →
    SomeAlways cs want (without_step p.step ends) state → SomeAlways cs want (without_step p.step ends) (changed_by p.event state) → SomeAlways cs want ends state

-- what fails without an end fails where the end has not come
abbrev pub StayedCasesFail : Type 0
StayedCasesFail = (cs : List Cond) (want : Bool) (ends : List Point) (state : ℕ → Bool) (p : Point) (steps : List ℕ) → AreCases ends → Contains ends p →
    EachFails cs want (without_step p.step ends) state steps → EachFails cs want ends state steps

-- what fails after an end that would change an atom of a formula fails where the end has come
abbrev pub ComeCasesFail : Type 0
ComeCasesFail = (cs : List Cond) (want : Bool) (ends : List Point) (state : ℕ → Bool) (p : Point) (c : Cond) (steps all : List ℕ) → ((n : ℕ) → has all n ≡ ((p.step == n) || has steps n)) → AreCases ends → Contains ends p →
    Contains cs c → turns p state c ≡ true → EachFails cs want (without_step p.step ends) (changed_by p.event state) steps → EachFails cs want ends state all
