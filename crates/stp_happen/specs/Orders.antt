-- Runs whose entries and spans are the same in whatever order.
use Rattle.std.specs.Prelude.{◌≡◌, ◌↔◌, List, Contains}
use Rattle.stp_happen.specs.declared.fault.Fault.{Fault}
use Rattle.stp_happen.specs.Plain.{PlainRun, Executes}
use Rattle.stp_happen.specs.Faults.{IsFirstFault}

abbrev pub HaveSameMembers : {X : Type 0} → List X → List X → Type 0
HaveSameMembers {X} xs ys = (x : X) → Contains xs x ↔ Contains ys x

-- the same run but for the order of its entries and of its spans
pub record AreAlike (run other : PlainRun) : Type 0 where
  pub entries : HaveSameMembers run.entries other.entries
  pub spans : HaveSameMembers run.spans other.spans
  pub initial : run.initial ≡ other.initial
  pub goal : run.goal ≡ other.goal

-- the same run but for the order of its entries
pub record IsInSomeOrder (run other : PlainRun) : Type 0 where
  pub entries : HaveSameMembers run.entries other.entries
  pub spans : run.spans ≡ other.spans
  pub initial : run.initial ≡ other.initial
  pub goal : run.goal ≡ other.goal

-- whether a run executes does not depend on the order of its entries and spans
abbrev pub OrderIsFree : Type 0
OrderIsFree = (run other : PlainRun) → AreAlike run other → Executes run ↔ Executes other

-- nor does which fault is its first
abbrev pub FirstFaultIsFreeOfOrder : Type 0
FirstFaultIsFreeOfOrder = (run other : PlainRun) (f : Fault) → AreAlike run other → IsFirstFault run f ↔ IsFirstFault other f
