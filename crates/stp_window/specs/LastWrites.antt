-- The last write of an atom by a moment.
use Rattle.std.specs.Prelude.{◌≡◌, ℕ, ◌≤◌, nat_lt, Bool, true, false, ◌||◌, List, Option, Some, None, Contains}
use Rattle.stp_cond.specs.Atoms.{PlainEvent, has}
use Rattle.stp_window.specs.Windows.{Point}
use Rattle.stp_window.specs.Certain.{sets}
use Rattle.stp_window.specs.declared.certain.Write.{Write}

-- whether an event writes an atom
abbrev pub writes : PlainEvent → ℕ → Bool
writes e a = has e.adds a || has e.dels a

-- whether there is a write at a later end
abbrev pub has_later : ℕ → Option Write → Bool
has_later end None = false
has_later end (Some write) = nat_lt end write.end

-- of these points, the writer of the atom with the greatest window end among those whose windows end by a moment
pub record IsLastOf (points : List Point) (a t : ℕ) (p : Point) : Type 0 where
  pub there : Contains points p
  pub writes : sets p a ≡ true
  pub ended : p.high ≤ t
  pub last : (q : Point) → Contains points q → sets q a ≡ true → q.high ≤ t → q.high ≤ p.high

-- the write of such a point, or none where there is no such point
abbrev pub IsLastWrite : List Point → ℕ → ℕ → Option Write → Type 0
IsLastWrite points a t None = (p : Point) → Contains points p → sets p a ≡ true → p.high ≤ t → ⊥
IsLastWrite points a t (Some write) = (p : Point) × IsLastOf points a t p × (write.end ≡ p.high) × (write.adds ≡ has p.event.adds a)
