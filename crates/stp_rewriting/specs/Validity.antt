-- A box is strong exactly where its dated list is valid in the rewritten problem.
use Rattle.std.specs.Prelude.{◌≡◌, ℕ, ◌<◌, ◌↔◌, Bool, false, Contains, Option, Some, ◌⊎◌}
use Rattle.stp_cond.specs.Atoms.{PlainEvent}
use Rattle.stp_happen.specs.Plain.{Executes}
use Rattle.stp_happen.specs.Boxes.{PlainInside, PlainOwner, PlainBox, IsStrong}
use Rattle.stp_window.specs.Windows.{WindowBox, IsProper}
use Rattle.stp_window.specs.OwnerWindows.{AreWellMade}
use Rattle.stp_strength.specs.Facts.{IsSound}
use Rattle.stp_rewriting.specs.Rewritten.{Rewriting}
use Rattle.stp_rewriting.specs.Fitting.{IsRewriting, IsRewrittenBox, AreRewritten}
use Rattle.stp_rewriting.specs.Dated.{dated_run, dated_windows}

-- windows have the static facts exactly where the run of their dated list executes
abbrev pub SoundExactlyWhereValid : Type 0
SoundExactlyWhereValid = (r : Rewriting) (key : ℕ → ℕ) (b : WindowBox) → IsRewriting r → IsProper b → AreRewritten r key b → IsSound b ↔ Executes (dated_windows r key b)

-- a box is strong exactly where the run of its dated list executes
abbrev pub StrongExactlyWhereValid : Type 0
StrongExactlyWhereValid = (r : Rewriting) (box : PlainBox) → IsRewriting r → AreWellMade box.owners → IsRewrittenBox r box → IsStrong box ↔ Executes (dated_run r box)

-- ---- actions that are left out

-- a condition that no state fulfils
abbrev pub IsNever : ((ℕ → Bool) → Bool) → Type 0
IsNever cond = (s : ℕ → Bool) → cond s ≡ false

abbrev pub HasNever : Option PlainEvent → Type 0
HasNever event = (e : PlainEvent) × (event ≡ Some e) × IsNever e.cond

-- what has to hold inside never does, and there is an inside
abbrev pub NeverLasts : PlainOwner → Type 0
NeverLasts o = (i : PlainInside) × (o.inside ≡ Some i) × IsNever i.over × (o.start < o.high)

-- a condition of an owner at its start, at its end or inside is one that no state fulfils
abbrev pub IsNotKept : PlainOwner → Type 0
IsNotKept o = HasNever o.first ⊎ (HasNever o.last ⊎ NeverLasts o)

-- a box with such an owner is not strong
abbrev pub NotKeptIsNotStrong : Type 0
NotKeptIsNotStrong = (box : PlainBox) (o : PlainOwner) → AreWellMade box.owners → Contains box.owners o → IsNotKept o → IsStrong box → ⊥
