-- What is wanted of the numbers of a rewriting, and which boxes it fits.
use Rattle.std.specs.Prelude.{◌≡◌, ℕ, ◌<◌, ◌≤◌, Bool, true, false, All, Contains, Option, Some, None, IfSome}
use Rattle.stp_cond.specs.Atoms.{PlainEvent, has}
use Rattle.stp_cond.specs.Formulas.{atoms_in, holds_in}
use Rattle.stp_cond.specs.Truth.{state_of_row}
use Rattle.stp_happen.specs.Boxes.{PlainInside, PlainOwner, PlainBox}
use Rattle.stp_window.specs.Windows.{Point, OpenSpan, WindowBox}
use Rattle.stp_rewriting.specs.Rewritten.{Rewriting, Ending, is_shadowed}

-- ---- numbers

-- an event reads and writes atoms below a number, and adds none that it deletes
pub record IsBelow (n : ℕ) (e : PlainEvent) : Type 0 where
  pub reads : (a : ℕ) → has e.reads a ≡ true → a < n
  pub adds : (a : ℕ) → has e.adds a ≡ true → a < n
  pub dels : (a : ℕ) → has e.dels a ≡ true → a < n
  pub apart : (a : ℕ) → has e.adds a ≡ true → has e.dels a ≡ true → ⊥

-- plain atoms, shadows and opened atoms have numbers of their own, actions have numbers from 1 on, and none is opened
-- at first
pub record IsRewriting (r : Rewriting) : Type 0 where
  pub shadow_above : (a : ℕ) → is_shadowed r a ≡ true → r.plain ≤ r.shadow a
  pub shadow_once : (a c : ℕ) → is_shadowed r a ≡ true → is_shadowed r c ≡ true → r.shadow a ≡ r.shadow c → a ≡ c
  pub opened_above : (o : Ending) → Contains r.endings o → r.plain ≤ r.opened o.key
  pub opened_apart : (o : Ending) (a : ℕ) → Contains r.endings o → is_shadowed r a ≡ true → r.opened o.key ≡ r.shadow a → ⊥
  pub opened_once : (o p : Ending) → Contains r.endings o → Contains r.endings p → r.opened o.key ≡ r.opened p.key → o ≡ p
  pub keys_above : (o : Ending) → Contains r.endings o → 0 < o.key
  pub ends_below : (o : Ending) → Contains r.endings o → IsBelow r.plain o.event
  pub over_below : (key a : ℕ) → has (atoms_in (r.over key)) a ≡ true → a < r.plain
  pub closed_first : (o : Ending) → Contains r.endings o → state_of_row r.initial (r.opened o.key) ≡ false

-- ---- boxes

-- the key of an owner: its action's, and 0 for an event of the environment
abbrev pub key_inside : Option PlainInside → ℕ
key_inside None = 0
key_inside (Some inside) = inside.key

-- An owner is of the actions that are rewritten, or an event of the environment at a fixed moment: it reads and writes
-- atoms of the problem; where it is uncertain, its action is, and takes that long or longer; and what has to hold
-- inside is what has to in its action.
pub record IsRewrittenOwner (r : Rewriting) (o : PlainOwner) : Type 0 where
  pub first_below : IfSome o.first (IsBelow r.plain)
  pub last_below : IfSome o.last (IsBelow r.plain)
  pub lasting : o.uncertain ≡ true → o.low < o.high
  pub ending : o.uncertain ≡ true → (e : Ending) × Contains r.endings e × (e.key ≡ key_inside o.inside) × (o.last ≡ Some e.event)
  pub over : IfSome o.inside (λ i. i.over ≡ (λ state. holds_in state (r.over i.key)))

-- a box of such owners, with the values and the goal of the problem
pub record IsRewrittenBox (r : Rewriting) (box : PlainBox) : Type 0 where
  pub owners : All (IsRewrittenOwner r) box.owners
  pub initial : (a : ℕ) → a < r.plain → state_of_row r.initial a ≡ box.initial a
  pub goal : (s t : ℕ → Bool) → ((a : ℕ) → a < r.plain → s a ≡ t a) → box.goal s ≡ box.goal t

-- ---- windows

-- a span within which a point comes
pub record IsSpanOf (b : WindowBox) (p : Point) (s : OpenSpan) : Type 0 where
  pub there : Contains b.spans s
  pub step : s.end.step ≡ p.step
  pub since : s.from ≤ p.low
  pub until : p.high ≤ s.end.high

-- the end of an uncertain action that a point is
pub record IsEndOf (r : Rewriting) (key : ℕ) (p : Point) (o : Ending) : Type 0 where
  pub there : Contains r.endings o
  pub keyed : o.key ≡ key
  pub event : o.event ≡ p.event

-- the same of windows, with the key of each number: a point whose window is more than a moment is the end of an
-- uncertain action, and a point of an uncertain action comes within a span
pub record AreRewritten (r : Rewriting) (key : ℕ → ℕ) (b : WindowBox) : Type 0 where
  pub below : (p : Point) → Contains b.points p → IsBelow r.plain p.event
  pub ends : (p : Point) → Contains b.points p → p.low < p.high → (o : Ending) × IsEndOf r (key p.step) p o
  pub spanned : (p : Point) → Contains b.points p → (o : Ending) → Contains r.endings o → o.key ≡ key p.step → (s : OpenSpan) × IsSpanOf b p s
  pub keyed : (s : OpenSpan) → Contains b.spans s → s.key ≡ key s.end.step
  pub over : (s : OpenSpan) → Contains b.spans s → s.over ≡ (λ state. holds_in state (r.over s.key))
  pub initial : (a : ℕ) → a < r.plain → state_of_row r.initial a ≡ b.initial a
  pub goal : (s t : ℕ → Bool) → ((a : ℕ) → a < r.plain → s a ≡ t a) → b.goal s ≡ b.goal t
