-- When events interfere: in both orders, and by an atom that the one reads and the other writes, or that the one
-- adds and the other deletes.
use Rattle.std.proofs.Common.{◌≡◌, ℕ, Bool, true, false, ◌||◌, inl, inr, refl}
use Rattle.stp_cond.specs.Atoms.{PlainEvent, has, disturbs, interfere}
use Rattle.stp_cond.proofs.Interferes.{interfere_of}

either_of : (b c : Bool) → (b || c) ≡ (c || b)
either_of true true = refl
either_of true false = refl
either_of false true = refl
either_of false false = refl

pub interfere_turned : (e o : PlainEvent) → interfere e o ≡ interfere o e
interfere_turned e o = either_of (disturbs e o) (disturbs o e)

-- an event that reads what another writes
pub reads_interfere : (e o : PlainEvent) (a : ℕ) → has e.reads a ≡ true → (has o.adds a || has o.dels a) ≡ true → interfere o e ≡ true
reads_interfere e o a r w = (interfere_of e o (a, inl (r, w))).1

-- an event that adds what another deletes
pub ways_interfere : (e o : PlainEvent) (a : ℕ) → has e.adds a ≡ true → has o.dels a ≡ true → (interfere e o ≡ true) × (interfere o e ≡ true)
ways_interfere e o a i j = interfere_of e o (a, inr (i, j))
