-- What is certain of an atom at a moment: the way of the writer whose window ends last by then.
use Rattle.std.specs.Prelude.{◌≡◌, ℕ, ◌≤◌, Bool, true, false, ◌||◌, All, Contains}
use Rattle.stp_cond.specs.Atoms.{has}
use Rattle.stp_happen.specs.Boxes.{PlainBox}
use Rattle.stp_window.specs.Windows.{Point, WindowBox, IsProper, Meet}
use Rattle.stp_window.specs.States.{certain}
use Rattle.stp_window.specs.OwnerWindows.{windows_of}

-- whether a point writes an atom
abbrev pub sets : Point → ℕ → Bool
sets p a = has p.event.adds a || has p.event.dels a

-- a point that adds an atom and one that deletes it have windows without a common moment
abbrev pub DoNotClash : ℕ → Point → Point → Type 0
DoNotClash a p q = has p.event.adds a ≡ true → has q.event.adds a ≡ false → has q.event.dels a ≡ true → Meet p q → ⊥

-- no two opposite writers of an atom have windows that meet
abbrev pub NoneClash : WindowBox → ℕ → Type 0
NoneClash b a = All (λ p. All (DoNotClash a p) b.points) b.points

-- the writer of an atom with the greatest window end among those whose windows end by a moment
pub record IsLastWriter (b : WindowBox) (a t : ℕ) (p : Point) : Type 0 where
  pub there : Contains b.points p
  pub writes : sets p a ≡ true
  pub ended : p.high ≤ t
  pub last : (q : Point) → Contains b.points q → sets q a ≡ true → q.high ≤ t → q.high ≤ p.high

-- what is certain of an atom is the way of its last writer
abbrev pub CertainIsTheLastWay : Type 0
CertainIsTheLastWay = (b : WindowBox) → IsProper b → (a t : ℕ) → NoneClash b a → (p : Point) → IsLastWriter b a t p → certain b t a ≡ has p.event.adds a

-- and its initial value where no writer's window has ended
abbrev pub CertainIsInitial : Type 0
CertainIsInitial = (b : WindowBox) (a t : ℕ) → ((p : Point) → Contains b.points p → sets p a ≡ true → p.high ≤ t → ⊥) → certain b t a ≡ b.initial a

-- what is certain of an atom at a moment
abbrev pub certain_value : PlainBox → ℕ → ℕ → Bool
certain_value box atom time = certain (windows_of box) time atom
