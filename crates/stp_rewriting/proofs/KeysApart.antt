-- Steps of one action never run at one moment, so what their points do is apart.
use Rattle.std.proofs.Common.{◌≡◌, ℕ, ◌<◌, ◌≤◌, Contains, ◌⊎◌, inl, inr, sym, ◌∙◌, ap, arith}
use Rattle.std.proofs.lemmas.Bool.{cases_eq}
use Rattle.stp_happen.proofs.Members.{each_pair}
use Rattle.stp_window.specs.Windows.{Point, OpenSpan, WindowBox, ArePartedIfOne, IsOwn}
use Rattle.stp_window.proofs.LastWay.{AreWindowsApart, meet_or_apart}
use Rattle.stp_rewriting.specs.Rewritten.{Ending, Rewriting}
use Rattle.stp_rewriting.proofs.DatedPoints.{Fits, end_of}
use Rattle.stp_rewriting.proofs.DatedStates.{KeysApart}

-- spans of one action do not meet
abbrev pub SpansApart : WindowBox → Type 0
SpansApart b = (s o : OpenSpan) → Contains b.spans s → Contains b.spans o → (s.end.step ≡ o.end.step → ⊥) → s.key ≡ o.key → (s.end.high < o.from) ⊎ (o.end.high < s.from)

module _ (r : Rewriting) (key : ℕ → ℕ) (b : WindowBox) (g : Fits r key b) (spans : SpansApart b) where
  -- points of two steps of one uncertain action
  pub steps_apart : (o : Ending) → Contains r.endings o → (p q : Point) → Contains b.points p → Contains b.points q → (p.step ≡ q.step → ⊥) → o.key ≡ key p.step → o.key ≡ key q.step → AreWindowsApart p q
  steps_apart o k p q i j different one other =
      let s = g.windows.spanned p i o k one in
      let u = g.windows.spanned q j o k other in
      let same : s.0.key ≡ u.0.key = g.windows.keyed s.0 s.1.there ∙ (ap key s.1.step ∙ (sym one ∙ (other ∙ (sym (ap key u.1.step) ∙ sym (g.windows.keyed u.0 u.1.there))))) in
      elim (spans s.0 u.0 s.1.there u.1.there (λ e. different (sym s.1.step ∙ (e ∙ u.1.step))) same) [
        | inl h ↦ inl (omega (arith, h, s.1.until, u.1.since))
        | inr h ↦ inr (omega (arith, h, u.1.until, s.1.since))
      ]

  pub keys_apart : KeysApart r key b g
  keys_apart p q i j longer also e = elim (cases_eq p.step q.step) [
    | inl same ↦ elim (meet_or_apart p q) [ inl meet ↦ inl (each_pair ArePartedIfOne b.points b.points g.proper.parted p q i j same meet) | inr h ↦ inr h ]
    | inr different ↦ let o = end_of r key b g p i longer in inr (steps_apart o.0 o.1.there p q i j different o.1.keyed (o.1.keyed ∙ e))
  ]

  -- inside a span the only point of its action that may come or not is its end
  pub own_end : (s : OpenSpan) → Contains b.spans s → (t : ℕ) → s.from ≤ t → t < s.end.high → (p : Point) → Contains b.points p → p.low ≤ t → t < p.high → key p.step ≡ s.key → p ≡ s.end
  own_end s k t from to p i begun going e = elim (cases_eq p.step s.end.step) [
    | inl same ↦ elim (each_pair IsOwn b.spans b.points g.proper.owned s p k i same) [ inl h ↦ h | inr h ↦ absurd (omega (arith, h, from, going)) ]
    | inr different ↦
        let longer : p.low < p.high = omega (arith, begun, going) in
        let o = end_of r key b g p i longer in
        let u = g.windows.spanned p i o.0 o.1.there o.1.keyed in
        let same : u.0.key ≡ s.key = g.windows.keyed u.0 u.1.there ∙ (ap key u.1.step ∙ e) in
        absurd (clash u.0 u.1.since u.1.until (spans u.0 s u.1.there k (λ x. different (sym u.1.step ∙ x)) same))
  ]
    where
      clash : (u : OpenSpan) → u.from ≤ p.low → p.high ≤ u.end.high → (u.end.high < s.from) ⊎ (s.end.high < u.from) → ⊥
      clash u since until (inl h) = omega (arith, h, until, going, from)
      clash u since until (inr h) = omega (arith, h, since, begun, to)
