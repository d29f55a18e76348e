-- Points of different steps that may meet and interfere, and what a sweep over windows goes through.
use Rattle.std.specs.Prelude.{◌≡◌, ℕ, ◌+◌, ◌*◌, ◌<◌, true, List, [], ◌∷◌, ◌++◌, map, length, slice_index_or, Contains}
use Rattle.std.specs.List.Sorted.{IsNonDecreasingBy}
use Rattle.stp_base.specs.declared.ids.AtomId.{AtomId}
use Rattle.stp_cond.specs.declared.event.Event.{Event}
use Rattle.stp_cond.specs.Atoms.{interfere}
use Rattle.stp_window.specs.declared.windows.Window.{Window}
use Rattle.stp_window.specs.declared.sweeping.Mention.{Mention}
use Rattle.stp_window.specs.Windows.{Point, Meet}
use Rattle.stp_window.specs.Views.{point_of}

-- ---- meetings

-- two points of different steps have windows with a common moment, and interfere
pub record Clash (p q : Point) : Type 0 where
  pub other : p.step ≡ q.step → ⊥
  pub meet : Meet p q
  pub interfere : interfere p.event q.event ≡ true

-- no two of these points do
abbrev pub NoneMeet : List Point → Type 0
NoneMeet points = (p q : Point) → Contains points p → Contains points q → Clash p q → ⊥

-- these two points do
abbrev pub AreMet : List Point → Point → Point → Type 0
AreMet points p q = Contains points p × Contains points q × Clash p q

-- ---- mentions of atoms

abbrev pub mention_at : ℕ → AtomId → Mention
mention_at place atom = record { atom = atom.0; place = place }

-- the atoms that an event reads, adds and deletes
abbrev pub mentions_by : ℕ → Event → List Mention
mentions_by place e = (map (mention_at place) e.reads.now ++ map (mention_at place) e.adds.now) ++ map (mention_at place) e.dels.now

-- the mentions by windows, the first of which is at this place
abbrev pub mentions_from : ℕ → List Window → List Mention
mentions_from place [] = []
mentions_from place (w ∷ ws) = mentions_by place w.event ++ mentions_from (place + 1) ws

-- a number by which mentions are in the order of their atoms, and those of one atom in the order of their places
abbrev pub key : Mention → ℕ
key m = m.atom * 18446744073709551616 + m.place

-- ---- the sweep

-- an item is at a place of a list
abbrev pub IsAt : {X : Type 0} → List X → ℕ → X → Type 0
IsAt xs i x = (i < length xs) × (slice_index_or xs i x ≡ x)

-- windows in the order of their beginnings, and mentions of atoms by windows at their places, in order
pub record IsSwept (ordered : List Window) (mentions : List Mention) : Type 0 where
  pub few : length ordered < 18446744073709551616
  pub rises : IsNonDecreasingBy (λ w. w.low) ordered
  pub by_atoms : IsNonDecreasingBy key mentions
  pub within : (i : ℕ) (m : Mention) → IsAt mentions i m → m.place < length ordered

-- the window of a mention meets and interferes with that of no later mention of the atom
abbrev pub PassesFrom : List Window → List Mention → ℕ → Type 0
PassesFrom ordered mentions x =
    (y : ℕ) (m n : Mention) (v w : Window) → x < y → IsAt mentions x m → IsAt mentions y n → IsAt ordered m.place v → IsAt ordered n.place w → n.atom ≡ m.atom → Clash (point_of v) (point_of w) → ⊥

-- these two windows meet and interfere
abbrev pub HaveMet : List Window → Window → Window → Type 0
HaveMet windows v w = Contains windows v × Contains windows w × Clash (point_of v) (point_of w)

-- the window at a place clashes with none of these
abbrev pub ClashesWithNone : List Window → Window → Type 0
ClashesWithNone windows v = (w : Window) → Contains windows w → Clash (point_of v) (point_of w) → ⊥

-- a window clashes with the one at this place
abbrev pub ClashesAt : List Window → Window → ℕ → Type 0
ClashesAt windows v j = (w : Window) × IsAt windows j w × Clash (point_of v) (point_of w)

-- the windows at these places clash
abbrev pub ClashAt : List Window → ℕ → ℕ → Type 0
ClashAt windows i j = (v : Window) × IsAt windows i v × ClashesAt windows v j
