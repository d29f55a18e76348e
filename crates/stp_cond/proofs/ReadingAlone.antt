-- The condition of an event depends only on the atoms that the event reads.
use Rattle.std.proofs.Common.{◌≡◌, ℕ, Bool, true, ◌==◌, List, [], ◌∷◌, All, inl, inr, sym, subst, true≢false, eqb-true}
use Rattle.std.proofs.Math.Logic.{∥∥₁_elim}
use Rattle.std.proofs.Props.{props}
use Rattle.std.proofs.lemmas.List.Elements.{All-head, All-tail}
use Rattle.stp_cond.specs.Atoms.{has}
use Rattle.stp_cond.specs.Views.{atoms_of}
use Rattle.stp_cond.specs.Laws.{EventsReadAlone}
use Rattle.stp_cond.proofs.Interferes.{either}
use Rattle.stp_cond.proofs.Reading.{truth_reads_its_atoms}

among_reads : (reads : List ℕ) (s t : ℕ → Bool) → All (λ a. s a ≡ t a) reads → (a : ℕ) → has reads a ≡ true → s a ≡ t a
among_reads [] s t same a h = absurd (true≢false (sym h))
among_reads (x ∷ xs) s t same a h = elim (either (x == a) (has xs a) h) [
  | inl e ↦ subst (λ n. s n ≡ t n) (eqb-true x a e) (All-head (λ n. s n ≡ t n) x xs same)
  | inr k ↦ among_reads xs s t (All-tail (λ n. s n ≡ t n) x xs same) a k
]

pub events_read_alone : EventsReadAlone
events_read_alone e s t same = ∥∥₁_elim e.lawful (Prim.hlevel props) (λ l. truth_reads_its_atoms (has (atoms_of e.reads.now)) s t e.cond.now l.reading (among_reads (atoms_of e.reads.now) s t same))
