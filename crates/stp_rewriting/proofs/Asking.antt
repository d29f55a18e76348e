-- Events that ask for what they need: in a dated list they find it at the least moment of their windows.
use Rattle.std.proofs.Common.{◌≡◌, ℕ, ◌<◌, ◌≤◌, nat_lt, Bool, true, false, ◌&&◌, Contains, refl, sym, ◌∙◌, ap, arith, true≢false}
use Rattle.std.proofs.lemmas.Bool.Decides.{nat_tests}
use Rattle.stp_cond.specs.Atoms.{PlainEvent, interfere, ReadsAlone}
use Rattle.stp_cond.proofs.Rising.{has_from_Contains}
use Rattle.stp_happen.specs.Plain.{before}
use Rattle.stp_happen.proofs.Members.{all_of, each_of}
use Rattle.stp_window.specs.Windows.{Point, WindowBox}
use Rattle.stp_window.specs.States.{certain_before}
use Rattle.stp_rewriting.specs.Rewritten.{Ending, Rewriting, Kind, Settled, Opening, Closing, cond_of, is_free}
use Rattle.stp_rewriting.specs.Fitting.{IsEndOf}
use Rattle.stp_rewriting.specs.Dated.{time_of, dated_windows}
use Rattle.stp_rewriting.proofs.Atoms.{IsLock, asks}
use Rattle.stp_rewriting.proofs.DatedPoints.{Fits, Suits, within}
use Rattle.stp_rewriting.proofs.DatedStates.{plain_before}

module _ (r : Rewriting) (key : ℕ → ℕ) (b : WindowBox) (g : Fits r key b) where
  pub asking_time : (kind : Kind) (p : Point) → Suits kind p → asks kind ≡ true → time_of kind p ≡ p.low
  asking_time Settled p s h = sym s
  asking_time Opening p s h = refl
  asking_time Closing p s h = absurd (true≢false (sym h))

  -- the kind of a point that asks
  pub asking_kind : (p : Point) → Contains b.points p → (kind : Kind) × Suits kind p × (asks kind ≡ true)
  asking_kind p i = by_test (nat_lt p.low p.high) refl
    where
      is_more : nat_lt p.low p.high ≡ true → p.low < p.high
      is_more e = grind (arith, nat_tests)

      is_moment : p.low ≤ p.high → nat_lt p.low p.high ≡ false → p.low ≡ p.high
      is_moment l e = grind (arith, nat_tests)

      by_test : (x : Bool) → nat_lt p.low p.high ≡ x → (kind : Kind) × Suits kind p × (asks kind ≡ true)
      by_test true e = (Opening, is_more e, refl)
      by_test false e = let w = within r key b g Opening p i in (Settled, is_moment w.1 e, refl)

  pub asked : (kind : Kind) (k : ℕ) (e : PlainEvent) (state : ℕ → Bool) → asks kind ≡ true → cond_of r kind k e state ≡ (e.cond state && is_free r k e state)
  asked Settled k e state h = refl
  asked Opening k e state h = refl
  asked Closing k e state h = absurd (true≢false (sym h))

  -- an event needs the same of the dated list's state as of what is certain
  pub cond_alike : (p : Point) → Contains b.points p → (t : ℕ) → p.event.cond (before (dated_windows r key b) t) ≡ p.event.cond (certain_before b t)
  cond_alike p i t = each_of (λ (q : Point). ReadsAlone q.event) b.points g.proper.reading p i (before (dated_windows r key b) t) (certain_before b t)
      (all_of (λ a. before (dated_windows r key b) t a ≡ certain_before b t a) p.event.reads (λ a j. plain_before r key b g t a ((g.windows.below p i).reads a (has_from_Contains p.event.reads a j))))

  -- the end of a point with a window locks what it interferes with
  pub lock_by : (k : ℕ) (e : PlainEvent) (q : Point) (o : Ending) → IsEndOf r (key q.step) q o → (k ≡ key q.step → ⊥) → interfere e q.event ≡ true → IsLock r k e o
  lock_by k e q o end other h = record { there = end.there; other = λ x. other (sym x ∙ end.keyed); interfere = ap (interfere e) end.event ∙ h }
