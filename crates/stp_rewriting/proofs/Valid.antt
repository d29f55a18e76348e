-- Where the run of the dated list executes, windows have the static facts.
use Rattle.std.proofs.Common.{◌≡◌, ℕ, ◌<◌, ◌≤◌, nat_lt, true, false, not, ◌&&◌, Contains, ◌⊎◌, inl, inr, refl, sym, ◌∙◌, subst, ap, arith, true≢false, eq-eqb}
use Rattle.std.proofs.lemmas.Bool.{cases_eq, cases_lt}
use Rattle.std.proofs.lemmas.Bool.Decides.{nat_tests}
use Rattle.stp_cond.specs.Atoms.{has, interfere}
use Rattle.stp_cond.specs.Interferences.{Disturbs}
use Rattle.stp_cond.proofs.Interferes.{interfere_cases, interfere_of}
use Rattle.stp_happen.specs.Plain.{Executes, AreCalm, IsFed, IsKept, AreApart, before, after, at_end}
use Rattle.stp_happen.proofs.Members.{all_of, each_of, all_pairs, each_pair, each_mapped, member_map, and_left, and_right, each_passes, of_mapped_pairs}
use Rattle.stp_happen.proofs.Interfering.{interfere_turned}
use Rattle.stp_window.specs.Windows.{Point, OpenSpan, WindowBox, Meet}
use Rattle.stp_window.specs.States.{certain_before, at_last}
use Rattle.stp_strength.specs.Facts.{StayApart, StayCalm, IsFedAlways, IsKeptAt, lows, IsSound}
use Rattle.stp_strength.proofs.Apart.{AreCalm as AreCalmPoints}
use Rattle.stp_rewriting.specs.Rewritten.{Ending, Rewriting, Kind, Settled, Opening, Closing, is_free, locks, over_of}
use Rattle.stp_rewriting.specs.Fitting.{IsEndOf}
use Rattle.stp_rewriting.specs.Dated.{time_of, dated_point, dated_span, dated_windows}
use Rattle.stp_rewriting.proofs.Atoms.{not_true, first_holds, asks, reads_plain, reads_opened, lock_there}
use Rattle.stp_rewriting.proofs.DatedPoints.{Fits, Suits, entries, dated_there, end_of, adds_plain, dels_plain, adds_opened, writes_plain}
use Rattle.stp_rewriting.proofs.DatedStates.{opened_true, plain_end}
use Rattle.stp_rewriting.proofs.KeysApart.{SpansApart, keys_apart, steps_apart}
use Rattle.stp_rewriting.proofs.Insides.{kept_inside}
use Rattle.stp_rewriting.proofs.Asking.{asking_time, asking_kind, asked, cond_alike, lock_by}

module _ (r : Rewriting) (key : ℕ → ℕ) (b : WindowBox) (g : Fits r key b) (x : Executes (dated_windows r key b)) where
  spans_apart : SpansApart b
  spans_apart s o i j e k = of_mapped_pairs (dated_span r) (dated_span r) AreApart b.spans b.spans x.apart s o i j e k

  -- two events of different steps that interfere do not come at one moment
  clash : (kind also : Kind) (p q : Point) → Contains b.points p → Contains b.points q → Suits kind p → Suits also q → (p.step ≡ q.step → ⊥) → time_of kind p ≡ time_of also q →
      interfere (dated_point r key kind p).event (dated_point r key also q).event ≡ true → ⊥
  clash kind also p q i j s u different t h = true≢false (sym h ∙
      each_pair AreCalm (entries r key b g) (entries r key b g) x.calm (dated_point r key kind p) (dated_point r key also q) (dated_there r key b g kind p i s) (dated_there r key b g also q j u) different t)

  fed_at : (kind : Kind) (p : Point) → Contains b.points p → Suits kind p → asks kind ≡ true →
      (p.event.cond (before (dated_windows r key b) (time_of kind p)) && is_free r (key p.step) p.event (before (dated_windows r key b) (time_of kind p))) ≡ true
  fed_at kind p i s h =
      sym (asked r key b g kind (key p.step) p.event (before (dated_windows r key b) (time_of kind p)) h)
      ∙ each_of (IsFed (dated_windows r key b)) (entries r key b g) x.fed (dated_point r key kind p) (dated_there r key b g kind p i s)

  -- an event is locked out while another with which it interferes may have come or not
  locked_out : (kind : Kind) (p q : Point) → Contains b.points p → Contains b.points q → Suits kind p → asks kind ≡ true → q.low < q.high → (p.step ≡ q.step → ⊥) → (key p.step ≡ key q.step → ⊥) →
      q.low ≤ time_of kind p → time_of kind p ≤ q.high → interfere p.event q.event ≡ true → ⊥
  locked_out kind p q i j s h longer different other from to meets = by_moment (cases_eq (time_of kind p) q.low)
    where
      o : (o : Ending) × IsEndOf r (key q.step) q o
      o = end_of r key b g q j longer

      is_less : (m n : ℕ) → m < n → nat_lt m n ≡ true
      is_less m n l = grind (arith, nat_tests)

      is_not_less : (m n : ℕ) → n ≤ m → nat_lt m n ≡ false
      is_not_less m n l = grind (arith, nat_tests)

      is_down : (t m n : ℕ) → nat_lt m t ≡ true → n ≤ m → nat_lt n t ≡ true
      is_down t m n e l = grind (arith, nat_tests)

      at_once : time_of kind p ≡ q.low → ⊥
      at_once e =
          let lock = lock_by r key b g (key p.step) p.event q o.0 o.1 other meets in
          let reads = reads_opened r kind (key p.step) p.event o.0 h lock in
          let adds = adds_opened r key b g Opening q j longer o.0 o.1.there ∙ eq-eqb o.0.key (key q.step) o.1.keyed in
          clash kind Opening p q i j s longer different e
          (interfere_of (dated_point r key kind p).event (dated_point r key Opening q).event (r.opened o.0.key, inl (reads, first_holds (has (dated_point r key Opening q).event.adds (r.opened o.0.key)) (has (dated_point r key Opening q).event.dels (r.opened o.0.key)) adds))).0

      later : (time_of kind p ≡ q.low → ⊥) → ⊥
      later e =
          let lock = lock_by r key b g (key p.step) p.event q o.0 o.1 other meets in
          let free = and_right (p.event.cond (before (dated_windows r key b) (time_of kind p))) (is_free r (key p.step) p.event (before (dated_windows r key b) (time_of kind p))) (fed_at kind p i s h) in
          let closed = each_passes (λ (y : Ending). not (before (dated_windows r key b) (time_of kind p) (r.opened y.key))) (locks r (key p.step) p.event) free o.0 (lock_there r (key p.step) p.event o.0 lock) in
          let is_open = opened_true r key b g (keys_apart r key b g spans_apart) (λ y. nat_lt y (time_of kind p)) (is_down (time_of kind p)) o.0 o.1.there q j (sym o.1.keyed) longer (is_less q.low (time_of kind p) (after_low e)) (is_not_less q.high (time_of kind p) to) in
          true≢false (sym closed ∙ ap not is_open)
        where
          after_low : (time_of kind p ≡ q.low → ⊥) → q.low < time_of kind p
          after_low e = elim (cases_lt q.low (time_of kind p)) [ inl l ↦ l | inr l ↦ absurd (e (at_most l from)) ]
            where
              at_most : time_of kind p ≤ q.low → q.low ≤ time_of kind p → time_of kind p ≡ q.low
              at_most l k = omega arith

      by_moment : (time_of kind p ≡ q.low) ⊎ (time_of kind p ≡ q.low → ⊥) → ⊥
      by_moment (inl e) = at_once e
      by_moment (inr e) = later e

  -- an event that interferes with another at its moment does so rewritten
  settled_disturbs : (p q : Point) → Contains b.points p → Contains b.points q → (s : p.low ≡ p.high) (u : q.low ≡ q.high) → Disturbs p.event q.event → Disturbs (dated_point r key Settled p).event (dated_point r key Settled q).event
  settled_disturbs p q i j s u (a, inl (h, w)) = (a, inl (reads_plain r Settled (key p.step) p.event a refl h, writes_plain r key b g Settled q j u a ((g.windows.below p i).reads a h) ∙ w))
  settled_disturbs p q i j s u (a, inr (h, w)) = (a, inr (adds_plain r key b g Settled p i s a ((g.windows.below p i).adds a h) ∙ h, dels_plain r key b g Settled q j u a ((g.windows.below q j).dels a w) ∙ w))

  settled_interfere : (p q : Point) → Contains b.points p → Contains b.points q → (s : p.low ≡ p.high) (u : q.low ≡ q.high) → interfere p.event q.event ≡ true → interfere (dated_point r key Settled p).event (dated_point r key Settled q).event ≡ true
  settled_interfere p q i j s u h = elim (interfere_cases p.event q.event h) [
    | inl d ↦ (interfere_of (dated_point r key Settled p).event (dated_point r key Settled q).event (settled_disturbs p q i j s u d)).0
    | inr d ↦ (interfere_of (dated_point r key Settled q).event (dated_point r key Settled p).event (settled_disturbs q p j i u s d)).1
  ]

  -- points of different steps whose windows meet are of different actions, where one has a window
  other_keys : (p q : Point) → Contains b.points p → Contains b.points q → p.low < p.high → (p.step ≡ q.step → ⊥) → Meet p q → key p.step ≡ key q.step → ⊥
  other_keys p q i j longer different meet e =
      let o = end_of r key b g p i longer in
      elim (steps_apart r key b g spans_apart o.0 o.1.there p q i j different o.1.keyed (o.1.keyed ∙ e)) [ inl h ↦ omega (arith, h, meet.1) | inr h ↦ omega (arith, h, meet.0) ]

  stay_calm : (p q : Point) → Contains b.points p → Contains b.points q → (p.step ≡ q.step → ⊥) → Meet p q → interfere p.event q.event ≡ true → ⊥
  stay_calm p q i j different meet h = by_kinds (asking_kind r key b g p i) (asking_kind r key b g q j)
    where
      turned : q.step ≡ p.step → ⊥
      turned e = different (sym e)

      back : interfere q.event p.event ≡ true
      back = interfere_turned q.event p.event ∙ h

      longer_first : p.low < p.high → q.low ≤ q.high → p.low ≤ q.low → ((kind : Kind) × Suits kind q × (asks kind ≡ true)) → ⊥
      longer_first longer up l k =
          let t = asking_time r key b g k.0 q k.1 k.2 in
          locked_out k.0 q p j i k.1 k.2 longer turned (λ e. other_keys p q i j longer different meet (sym e)) (omega (arith, t, l)) (omega (arith, t, meet.1)) back

      longer_last : q.low < q.high → q.low ≤ p.low → ((kind : Kind) × Suits kind p × (asks kind ≡ true)) → ⊥
      longer_last longer l k =
          let t = asking_time r key b g k.0 p k.1 k.2 in
          locked_out k.0 p q i j k.1 k.2 longer different (λ e. other_keys q p j i longer turned (meet.1, meet.0) (sym e)) (omega (arith, t, l)) (omega (arith, t, meet.0)) h

      by_kinds : ((kind : Kind) × Suits kind p × (asks kind ≡ true)) → ((kind : Kind) × Suits kind q × (asks kind ≡ true)) → ⊥
      by_kinds (Closing, s, c) k = true≢false (sym c)
      by_kinds (Settled, s, c) (Closing, u, d) = true≢false (sym d)
      by_kinds (Opening, s, c) (Closing, u, d) = true≢false (sym d)
      by_kinds (Settled, s, c) (Settled, u, d) = clash Settled Settled p q i j s u different (omega (arith, s, u, meet.0, meet.1)) (settled_interfere p q i j s u h)
      by_kinds (Settled, s, c) (Opening, u, d) = longer_last u (omega (arith, s, meet.1)) (Settled, s, c)
      by_kinds (Opening, s, c) (Settled, u, d) = longer_first s (omega (arith, u)) (omega (arith, u, meet.0)) (Settled, u, d)
      by_kinds (Opening, s, c) (Opening, u, d) = elim (cases_lt p.low q.low) [
        | inl l ↦ longer_first s (omega (arith, u)) (omega (arith, l)) (Opening, u, d)
        | inr l ↦ longer_last u l (Opening, s, c)
      ]

  calm : (p q : Point) → Contains b.points p → Contains b.points q → StayCalm p q
  calm p q i j l meet = not_true (interfere p.event q.event) (stay_calm p q i j (λ e. less_is_other p.step q.step l e) meet)
    where
      less_is_other : (m n : ℕ) → m < n → m ≡ n → ⊥
      less_is_other m n l e = omega arith

  all_calm : AreCalmPoints b
  all_calm = all_pairs StayCalm b.points b.points calm

  fed : (p : Point) → Contains b.points p → IsFedAlways b p
  fed p i =
      let k = asking_kind r key b g p i in
      let t = asking_time r key b g k.0 p k.1 k.2 in
      sym (ap (λ u. p.event.cond (certain_before b u)) t)
      ∙ (sym (cond_alike r key b g p i (time_of k.0 p)) ∙ and_left (p.event.cond (before (dated_windows r key b) (time_of k.0 p))) (is_free r (key p.step) p.event (before (dated_windows r key b) (time_of k.0 p))) (fed_at k.0 p i k.1 k.2))

  kept : (s : OpenSpan) (t : ℕ) → Contains b.spans s → Contains (lows b) t → IsKeptAt b s t
  kept s t i j = each_mapped (λ (p : Point). p.low) (IsKeptAt b s) b.points (λ p n from to. at p n from to) t j
    where
      at : (p : Point) → Contains b.points p → IsKeptAt b s p.low
      at p n from to =
          let k = asking_kind r key b g p n in
          let t = asking_time r key b g k.0 p k.1 k.2 in
          let now : IsKept (dated_windows r key b) (dated_point r key k.0 p) (dated_span r s) = each_pair (IsKept (dated_windows r key b)) (entries r key b g) (dated_windows r key b).spans x.kept (dated_point r key k.0 p) (dated_span r s)
          (dated_there r key b g k.0 p n k.1) (member_map (dated_span r) b.spans s i) in
          (kept_inside r key b g spans_apart all_calm s i p.low from to).0
          (subst (λ u. over_of r s.key (after (dated_windows r key b) u) ≡ true) t (now (subst (λ u. s.from ≤ u) (sym t) from) (subst (λ u. u < s.end.high) (sym t) to)))

  pub valid_sound : IsSound b
  valid_sound = record {
    apart = all_pairs StayApart b.spans b.spans (λ s o i j l k. spans_apart s o i j (λ e. less_is_other s.end.step o.end.step l e) k);
    calm = all_calm;
    fed = all_of (IsFedAlways b) b.points fed;
    kept = all_pairs (IsKeptAt b) b.spans (lows b) (λ s t i j. kept s t i j);
    reached = sym (g.windows.goal (at_end (dated_windows r key b)) (at_last b) (plain_end r key b g)) ∙ x.reached;
  }
    where
      less_is_other : (m n : ℕ) → m < n → m ≡ n → ⊥
      less_is_other m n l e = omega arith
