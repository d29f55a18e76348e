-- The files of a command, loaded one after another.
use Rattle.std.specs.Prelude.{◌≡◌, ℕ, ◌<◌, ◌≤◌, false, ◌⊎◌, List, [], ◌∷◌, length, Some, IfSome}
use Rattle.stp_base.specs.declared.limits.TheConstants.{MAX_FILE_BYTES}
use Rattle.stp_io.specs.Store.{HasRisen}
use Rattle.stp_io.specs.declared.loading.LoadFault.{LoadFault}
use Rattle.stp_io.specs.declared.loading.LoadFault.TheVariants as loads
use Rattle.stp_refusal.specs.declared.code.Code.TheVariants.{F01}
use Rattle.stp_report.specs.declared.answer.Answer.{Answer}
use Rattle.stp_report.specs.declared.answer.Answer.TheVariants as answers
use Rattle.stp_report.specs.declared.answer.FileName.{FileName}
use Rattle.stp_cli.specs.declared.texts.Texts.{Texts}
use Rattle.stp_cli.specs.Calls.{StoreCall}
use Rattle.stp_cli.specs.Texts.{with_text}
use Rattle.stp_cli.specs.Words.{Named}

-- these are the bytes of the file of a name, where the store tells its files
abbrev pub Holds : StoreCall → List ℕ → List ℕ → Type 0
Holds reads name bytes = IfSome reads.told (λ file. file name ≡ Some bytes)

-- a file that has these bytes, which are not too many
pub record IsFine (reads : StoreCall) (name : List ℕ) (bytes : List ℕ) : Type 0 where
  pub holds : Holds reads name bytes
  pub short : length bytes ≤ MAX_FILE_BYTES

-- a read of the file failed: the store counted it, and the name was not steady
pub record IsUnread (reads : StoreCall) (f : Named) (answer : Answer) : Type 0 where
  pub counted : HasRisen reads.faults reads.faults_after
  pub unsteady : reads.steady f.name ≡ false
  pub answered : answer ≡ answers.ReadFault f.role

-- the file is too long
pub record IsTooLong (reads : StoreCall) (f : Named) (answer : Answer) : Type 0 where
  pub bytes : List ℕ
  pub holds : Holds reads f.name bytes
  pub long : MAX_FILE_BYTES < length bytes
  pub answered : answer ≡ answers.Refused f.role F01 MAX_FILE_BYTES

-- one of these files is not loaded and gives this answer, and those before it are fine
abbrev pub IsStopped : StoreCall → List Named → Answer → Type 0
IsStopped reads [] answer = ⊥
IsStopped reads (f ∷ fs) answer =
    IsUnread reads f answer
    ⊎ (IsTooLong reads f answer
    ⊎ ((bytes : List ℕ) × IsFine reads f.name bytes × IsStopped reads fs answer))

-- all of these files are loaded, and their texts come to those that were there before
abbrev pub AreLoaded : StoreCall → List Named → Texts → Texts → Type 0
AreLoaded reads [] before texts = texts ≡ before
AreLoaded reads (f ∷ fs) before texts =
    (bytes : List ℕ) × IsFine reads f.name bytes × AreLoaded reads fs (with_text f.role bytes before) texts

-- what is answered where a file was not loaded
abbrev pub IsUnloaded : FileName → LoadFault → Answer → Type 0
IsUnloaded role loads.ReadFault answer = answer ≡ answers.ReadFault role
IsUnloaded role loads.TooLong answer = answer ≡ answers.Refused role F01 MAX_FILE_BYTES
IsUnloaded role loads.Memory answer = ⊥
