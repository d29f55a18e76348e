-- Where windows have the static facts, the run of the dated list executes.
use Rattle.std.proofs.Common.{◌≡◌, ℕ, ◌<◌, ◌≤◌, nat_lt, true, false, not, Contains, inl, inr, refl, sym, ◌∙◌, subst, ap, arith, true≢false}
use Rattle.std.proofs.lemmas.Bool.Decides.{nat_tests}
use Rattle.stp_cond.specs.Atoms.{has, interfere}
use Rattle.stp_cond.specs.Interferences.{Disturbs}
use Rattle.stp_cond.proofs.Interferes.{interfere_cases}
use Rattle.stp_happen.specs.Plain.{PlainEntry, PlainSpan, Executes, AreCalm, IsFed, IsKept, AreApart, before, at_end, writes}
use Rattle.stp_happen.proofs.Members.{all_of, each_of, all_pairs, each_pair, mapped_member, all_mapped_pairs, and_right, and_both, all_pass}
use Rattle.stp_happen.proofs.Interfering.{interfere_turned, reads_interfere, ways_interfere}
use Rattle.stp_window.specs.Windows.{Point, OpenSpan, WindowBox, Meet}
use Rattle.stp_window.specs.States.{certain_before, at_last}
use Rattle.stp_window.specs.Certain.{sets}
use Rattle.stp_window.proofs.LastWay.{AreWindowsApart}
use Rattle.stp_strength.specs.Facts.{StayApart, IsFedAlways, IsSound}
use Rattle.stp_strength.proofs.Apart.{apart_if_interfering, three_ways}
use Rattle.stp_strength.proofs.Sound.{kept_at_every_moment}
use Rattle.stp_rewriting.specs.Rewritten.{Ending, Rewriting, Kind, Settled, Opening, Closing, is_free, locks, adds_of}
use Rattle.stp_rewriting.specs.Dated.{time_of, dated_point, dated_span, dated_windows}
use Rattle.stp_rewriting.proofs.Atoms.{IsLock, not_true, second_holds, asks, is_late, is_opening, reads_cases, adds_parts, written_cases, lock_of}
use Rattle.stp_rewriting.proofs.DatedPoints.{Fits, Suits, entries, found, within, end_of, dels_plain, dels_shadow, writes_plain}
use Rattle.stp_rewriting.proofs.DatedStates.{marks_of, IsDown, opened_point, plain_end}
use Rattle.stp_rewriting.proofs.KeysApart.{SpansApart, keys_apart}
use Rattle.stp_rewriting.proofs.Insides.{kept_inside}
use Rattle.stp_rewriting.proofs.Asking.{asking_time, asked, cond_alike}

module _ (r : Rewriting) (key : ℕ → ℕ) (b : WindowBox) (g : Fits r key b) (x : IsSound b) where
  spans_apart : SpansApart b
  spans_apart s o i j different k = elim (three_ways s.end.step o.end.step) [
    | inl l ↦ each_pair StayApart b.spans b.spans x.apart s o i j l k
    | inr h ↦ elim h [
      | inl l ↦ elim (each_pair StayApart b.spans b.spans x.apart o s j i l (sym k)) [ inl m ↦ inr m | inr m ↦ inl m ]
      | inr e ↦ absurd (different e)
    ]
  ]

  one_end : (o : Ending) (q : Point) → Contains r.endings o → Contains b.points q → q.low < q.high → key q.step ≡ o.key → o.event ≡ q.event
  one_end o q j i l k =
      let e = end_of r key b g q i l in
      ap (λ (y : Ending). y.event) (g.numbers.opened_once o e.0 j e.1.there (ap r.opened (sym k ∙ sym e.1.keyed))) ∙ e.1.event

  -- ---- no interference of two steps in one moment

  module _ (kind also : Kind) (p q : Point) (i : Contains b.points p) (j : Contains b.points q) (s : Suits kind p) (u : Suits also q) (different : p.step ≡ q.step → ⊥) (same : time_of kind p ≡ time_of also q) where
    meet : Meet p q
    meet = let v = within r key b g kind p i in let w = within r key b g also q j in (omega (arith, v.0, w.1, same), omega (arith, v.1, w.0, same))

    not_apart : AreWindowsApart p q → ⊥
    not_apart (inl h) = let m = meet in omega (arith, h, m.1)
    not_apart (inr h) = let m = meet in omega (arith, h, m.0)

    quiet : interfere p.event q.event ≡ true → ⊥
    quiet h = elim (apart_if_interfering b g.proper x.calm p q i j h) [ inl e ↦ different (ap (λ (y : Point). y.step) e) | inr h ↦ not_apart h ]

    turned : interfere q.event p.event ≡ true → ⊥
    turned h = quiet (interfere_turned p.event q.event ∙ h)

    plain_writes : (a : ℕ) → has p.event.reads a ≡ true → writes (dated_point r key also q) a ≡ true → ⊥
    plain_writes a h w = turned (reads_interfere p.event q.event a h (and_right (is_late also) (sets q a) (sym (writes_plain r key b g also q j u a ((g.windows.below p i).reads a h)) ∙ w)))

    locked : (o : Ending) → IsLock r (key p.step) p.event o → writes (dated_point r key also q) (r.opened o.key) ≡ true → ⊥
    locked o l w =
        let m = marks_of r key b g o l.there also q j u w in
        quiet (sym (ap (interfere p.event) (one_end o q l.there j m.longer m.keyed)) ∙ l.interfere)

    opened_both_ways : kind ≡ Opening → p.low < p.high → (o : Ending) → Contains r.endings o → o.key ≡ key p.step → has (dated_point r key also q).event.dels (r.opened o.key) ≡ true → ⊥
    opened_both_ways e longer o n k h =
        let w : writes (dated_point r key also q) (r.opened o.key) ≡ true = second_holds (has (dated_point r key also q).event.adds (r.opened o.key)) (has (dated_point r key also q).event.dels (r.opened o.key)) h in
        let m = marks_of r key b g o n also q j u w in
        elim (keys_apart r key b g spans_apart p q i j longer m.longer (sym k ∙ sym m.keyed)) [ inl e ↦ different (ap (λ (y : Point). y.step) e) | inr h ↦ not_apart h ]

    opening_only : is_opening kind ≡ true → (kind ≡ Opening) × (p.low < p.high)
    opening_only h = by_kind kind s h
      where
        by_kind : (kind : Kind) → Suits kind p → is_opening kind ≡ true → (kind ≡ Opening) × (p.low < p.high)
        by_kind Settled s h = absurd (true≢false (sym h))
        by_kind Opening s h = (refl, s)
        by_kind Closing s h = absurd (true≢false (sym h))

    both_ways : (a : ℕ) → has (dated_point r key kind p).event.adds a ≡ true → has (dated_point r key also q).event.dels a ≡ true → ⊥
    both_ways a h k = elim (written_cases r g.numbers p.event.adds (is_late kind) (is_opening kind) (key p.step) (adds_of r kind (key p.step) p.event) (adds_parts r kind (key p.step) p.event) (g.windows.below p i).adds marked a h) [
      | inl m ↦ quiet (ways_interfere p.event q.event a m.0 (and_right (is_late also) (has q.event.dels a) (sym (dels_plain r key b g also q j u a ((g.windows.below p i).adds a m.0)) ∙ k))).0
      | inr m ↦ elim m [
        | inl c ↦ quiet (ways_interfere p.event q.event c.0 c.1 (sym (dels_shadow r key b g also q j u c.0 c.2) ∙ subst (λ y. has (dated_point r key also q).event.dels y ≡ true) (sym c.3) k)).0
        | inr c ↦
            let t = opening_only c.0 in
            let o = end_of r key b g p i t.1 in
            opened_both_ways t.0 t.1 o.0 o.1.there o.1.keyed (subst (λ y. has (dated_point r key also q).event.dels y ≡ true) (c.1 ∙ sym (ap r.opened o.1.keyed)) k)
      ]
    ]
      where
        marked : is_opening kind ≡ true → (o : Ending) × Contains r.endings o × (o.key ≡ key p.step)
        marked h = let o = end_of r key b g p i (opening_only h).1 in (o.0, o.1.there, o.1.keyed)

    no_disturbance : Disturbs (dated_point r key kind p).event (dated_point r key also q).event → ⊥
    no_disturbance (a, inl (h, w)) = elim (reads_cases r kind (key p.step) p.event a h) [
      | inl k ↦ plain_writes a k w
      | inr k ↦ locked k.0 k.1 (subst (λ y. writes (dated_point r key also q) y ≡ true) (sym k.2) w)
    ]
    no_disturbance (a, inr (h, k)) = both_ways a h k

  calm : (e o : PlainEntry) → Contains (entries r key b g) e → Contains (entries r key b g) o → AreCalm e o
  calm e o i j different t =
      let d = found r key b g e i in
      let c = found r key b g o j in
      by_dated d.kind c.kind d.p c.p d.there c.there d.suits c.suits e o d.is c.is different t
    where
      of_points : (kind also : Kind) (p q : Point) → Contains b.points p → Contains b.points q → Suits kind p → Suits also q → AreCalm (dated_point r key kind p) (dated_point r key also q)
      of_points kind also p q i j s u different t = not_true (interfere (dated_point r key kind p).event (dated_point r key also q).event) (λ h.
          elim (interfere_cases (dated_point r key kind p).event (dated_point r key also q).event h) [
            | inl d ↦ no_disturbance kind also p q i j s u different t d
            | inr d ↦ no_disturbance also kind q p j i u s (λ e. different (sym e)) (sym t) d
          ])

      by_dated : (kind also : Kind) (p q : Point) → Contains b.points p → Contains b.points q → Suits kind p → Suits also q → (e o : PlainEntry) → dated_point r key kind p ≡ e → dated_point r key also q ≡ o → AreCalm e o
      by_dated kind also p q i j s u e o is also_is = subst (λ y. AreCalm y o) is (subst (AreCalm (dated_point r key kind p)) also_is (of_points kind also p q i j s u))

  -- ---- what is needed

  before_is_down : (t : ℕ) → IsDown r key b g (λ y. nat_lt y t)
  before_is_down t m n e l = grind (arith, nat_tests)

  is_before : (m n : ℕ) → nat_lt m n ≡ true → m < n
  is_before m n e = grind (arith, nat_tests)

  is_not_before : (m n : ℕ) → nat_lt m n ≡ false → n ≤ m
  is_not_before m n e = grind (arith, nat_tests)

  free : (kind : Kind) (p : Point) → Contains b.points p → (s : Suits kind p) → asks kind ≡ true → (o : Ending) → IsLock r (key p.step) p.event o → before (dated_windows r key b) (time_of kind p) (r.opened o.key) ≡ true → ⊥
  free kind p i s h o l opened =
      let t = asking_time r key b g kind p s h in
      let m = opened_point r key b g (keys_apart r key b g spans_apart) (λ y. nat_lt y (time_of kind p)) (before_is_down (time_of kind p)) o l.there opened in
      let q = m.1 in
      let meets : interfere p.event m.0.event ≡ true = sym (ap (interfere p.event) (one_end o m.0 l.there q.there q.longer q.keyed)) ∙ l.interfere in
      let w = within r key b g kind p i in
      let begun = is_before m.0.low (time_of kind p) q.begun in
      let going = is_not_before m.0.high (time_of kind p) q.going in
      elim (apart_if_interfering b g.proper x.calm p m.0 i q.there meets) [
        | inl e ↦ l.other (sym q.keyed ∙ ap (λ (y : Point). key y.step) (sym e))
        | inr apart ↦ elim apart [ inl a ↦ omega (arith, a, w.1, begun) | inr a ↦ omega (arith, a, going, t) ]
      ]

  asking_fed : (kind : Kind) (p : Point) → Contains b.points p → (s : Suits kind p) → asks kind ≡ true → IsFed (dated_windows r key b) (dated_point r key kind p)
  asking_fed kind p i s h =
      let t = asking_time r key b g kind p s h in
      let needs : p.event.cond (before (dated_windows r key b) (time_of kind p)) ≡ true = cond_alike r key b g p i (time_of kind p) ∙ (ap (λ u. p.event.cond (certain_before b u)) t ∙ each_of (IsFedAlways b) b.points x.fed p i) in
      asked r key b g kind (key p.step) p.event (before (dated_windows r key b) (time_of kind p)) h
      ∙ and_both (p.event.cond (before (dated_windows r key b) (time_of kind p))) (is_free r (key p.step) p.event (before (dated_windows r key b) (time_of kind p))) needs
      (all_pass (λ (o : Ending). not (before (dated_windows r key b) (time_of kind p) (r.opened o.key))) (locks r (key p.step) p.event) (λ o n.
      ap not (not_true (before (dated_windows r key b) (time_of kind p) (r.opened o.key)) (free kind p i s h o (lock_of r (key p.step) p.event o n)))))

  fed_point : (kind : Kind) (p : Point) → Contains b.points p → Suits kind p → IsFed (dated_windows r key b) (dated_point r key kind p)
  fed_point Settled p i s = asking_fed Settled p i s refl
  fed_point Opening p i s = asking_fed Opening p i s refl
  fed_point Closing p i s = refl

  fed : (e : PlainEntry) → Contains (entries r key b g) e → IsFed (dated_windows r key b) e
  fed e i = let d = found r key b g e i in subst (IsFed (dated_windows r key b)) d.is (fed_point d.kind d.p d.there d.suits)

  -- ---- insides and the rest

  kept : (e : PlainEntry) (s : OpenSpan) → Contains b.spans s → IsKept (dated_windows r key b) e (dated_span r s)
  kept e s j from to = (kept_inside r key b g spans_apart x.calm s j e.time from to).1 (kept_at_every_moment b g.proper x s j e.time from to)

  kept_span : (e : PlainEntry) (s : PlainSpan) → Contains (dated_windows r key b).spans s → IsKept (dated_windows r key b) e s
  kept_span e s j = let m = mapped_member (dated_span r) b.spans s j in subst (IsKept (dated_windows r key b) e) m.2 (kept e m.0 m.1)

  pub sound_valid : Executes (dated_windows r key b)
  sound_valid = record {
    calm = all_pairs AreCalm (entries r key b g) (entries r key b g) calm;
    fed = all_of (IsFed (dated_windows r key b)) (entries r key b g) fed;
    kept = all_pairs (IsKept (dated_windows r key b)) (entries r key b g) (dated_windows r key b).spans (λ e s i j. kept_span e s j);
    apart = all_mapped_pairs (dated_span r) (dated_span r) AreApart b.spans b.spans (λ s o i j different k. spans_apart s o i j different k);
    reached = g.windows.goal (at_end (dated_windows r key b)) (at_last b) (plain_end r key b g) ∙ x.reached;
  }
