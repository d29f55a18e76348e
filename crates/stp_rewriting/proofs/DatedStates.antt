-- What the entries of a dated list leave: plain atoms are as is certain, an action is opened while its end may have come
-- or not, and then the shadows of what that end writes are as it writes them.
use Rattle.std.proofs.Common.{◌≡◌, ℕ, ◌<◌, ◌≤◌, ◌==◌, nat_lt, nat_le, Bool, true, false, ◌&&◌, ◌||◌, List, map, filter, Contains, ◌⊎◌, inl, inr, refl, sym, ◌∙◌, subst, ap, arith, true≢false, eqb-true, eq-eqb}
use Rattle.std.proofs.lemmas.Bool.{cases_Bool}
use Rattle.std.proofs.lemmas.Bool.Decides.{nat_tests}
use Rattle.stp_cond.specs.Atoms.{has}
use Rattle.stp_cond.specs.Truth.{state_of_row}
use Rattle.stp_happen.specs.Plain.{PlainEntry, writes, state_after, after, before, at_end}
use Rattle.stp_happen.proofs.Members.{member_map, mapped_member, kept_member, member_of_kept, and_left, and_right, and_both, any_passes}
use Rattle.stp_happen.proofs.LatestWay.{no_writer, ComesLast, latest_way}
use Rattle.stp_happen.proofs.Tops.{IsTop, NonePasses, top}
use Rattle.stp_window.specs.Windows.{Point, WindowBox, entry_at}
use Rattle.stp_window.specs.States.{left_by, certain, certain_before, at_last}
use Rattle.stp_window.specs.Certain.{sets}
use Rattle.stp_window.proofs.LastWay.{AreWindowsApart}
use Rattle.stp_window.proofs.LatestPoints.{AgreeOrApart}
use Rattle.stp_strength.proofs.Apart.{AreCalm, agree_or_apart}
use Rattle.stp_strength.proofs.Certainty.{filter_true}
use Rattle.stp_rewriting.specs.Rewritten.{Ending, Rewriting, Kind, Settled, Opening, Closing, is_shadowed}
use Rattle.stp_rewriting.specs.Dated.{time_of, dated_point, dated_windows}
use Rattle.stp_rewriting.proofs.Atoms.{is_late, is_opening, is_closing, first_holds}
use Rattle.stp_rewriting.proofs.SameStates.{HasCounterpart, state_same}
use Rattle.stp_rewriting.proofs.DatedPoints.{Fits, Suits, entries, found, dated_there, within, late_time, end_of, adds_plain, adds_shadow, adds_opened, writes_plain, writes_shadow, writes_opened}

module _ (r : Rewriting) (key : ℕ → ℕ) (b : WindowBox) (g : Fits r key b) where
  -- the entries at moments that pass a test
  abbrev pub timed : (ℕ → Bool) → List PlainEntry
  timed c = filter (λ e. c e.time) (entries r key b g)

  abbrev first : ℕ → Bool
  first = state_of_row r.initial

  timed_there : (c : ℕ → Bool) (kind : Kind) (p : Point) → Contains b.points p → Suits kind p → c (time_of kind p) ≡ true → Contains (timed c) (dated_point r key kind p)
  timed_there c kind p i s h = kept_member (λ (e : PlainEntry). c e.time) (entries r key b g) (dated_point r key kind p) (dated_there r key b g kind p i s) h

  -- ---- plain atoms

  abbrev late_points : (ℕ → Bool) → List PlainEntry
  late_points c = map (entry_at (λ p. p.high)) (filter (λ p. c p.high) b.points)

  -- the kind of a point that writes plain atoms
  writing_kind : (p : Point) → Contains b.points p → (kind : Kind) × Suits kind p × (is_late kind ≡ true)
  writing_kind p i = by_test (nat_lt p.low p.high) refl
    where
      by_test : (x : Bool) → nat_lt p.low p.high ≡ x → (kind : Kind) × Suits kind p × (is_late kind ≡ true)
      by_test true e = (Closing, grind (arith, nat_tests), refl)
      by_test false e = let w = within r key b g Settled p i in (Settled, omega_equal w.0 (at_least e), refl)
        where
          at_least : nat_lt p.low p.high ≡ false → p.high ≤ p.low
          at_least e = grind (arith, nat_tests)

          omega_equal : p.low ≤ p.high → p.high ≤ p.low → p.low ≡ p.high
          omega_equal l k = omega arith

  pub plain_state : (c : ℕ → Bool) (a : ℕ) → a < r.plain → state_after first (timed c) a ≡ left_by b (λ p. c p.high) a
  plain_state c a l = state_same first b.initial (timed c) (late_points c) a (g.windows.initial a l) forwards backwards
    where
      forwards : (e : PlainEntry) → Contains (timed c) e → writes e a ≡ true → HasCounterpart a (late_points c) e
      forwards e i w =
          let m = member_of_kept (λ (x : PlainEntry). c x.time) (entries r key b g) e i in
          let d = found r key b g e m.0 in
          let wrote : (is_late d.kind && sets d.p a) ≡ true = sym (writes_plain r key b g d.kind d.p d.there d.suits a l) ∙ (ap (λ x. writes x a) d.is ∙ w) in
          let late : is_late d.kind ≡ true = and_left (is_late d.kind) (sets d.p a) wrote in
          let time : d.p.high ≡ e.time = sym (late_time r key b g d.kind d.p late) ∙ ap (λ (x : PlainEntry). x.time) d.is in
          let adds : has e.event.adds a ≡ has d.p.event.adds a = sym (ap (λ (x : PlainEntry). has x.event.adds a) d.is) ∙ (adds_plain r key b g d.kind d.p d.there d.suits a l ∙ ap (λ x. x && has d.p.event.adds a) late) in
          record {
            o = entry_at (λ p. p.high) d.p;
            there = member_map (entry_at (λ p. p.high)) (filter (λ p. c p.high) b.points) d.p (kept_member (λ p. c p.high) b.points d.p d.there (ap c time ∙ m.1));
            same_time = time;
            also_writes = and_right (is_late d.kind) (sets d.p a) wrote;
            same_way = sym adds;
          }

      backwards : (o : PlainEntry) → Contains (late_points c) o → writes o a ≡ true → HasCounterpart a (timed c) o
      backwards o i w =
          let m = mapped_member (entry_at (λ p. p.high)) (filter (λ p. c p.high) b.points) o i in
          let k = member_of_kept (λ (p : Point). c p.high) b.points m.0 m.1 in
          let kind = writing_kind m.0 k.0 in
          let time = late_time r key b g kind.0 m.0 kind.2 in
          let way : sets m.0 a ≡ true = ap (λ x. writes x a) m.2 ∙ w in
          record {
            o = dated_point r key kind.0 m.0;
            there = timed_there c kind.0 m.0 k.0 kind.1 (ap c time ∙ k.1);
            same_time = time ∙ ap (λ (x : PlainEntry). x.time) m.2;
            also_writes = writes_plain r key b g kind.0 m.0 k.0 kind.1 a l ∙ and_both (is_late kind.0) (sets m.0 a) kind.2 way;
            same_way = adds_plain r key b g kind.0 m.0 k.0 kind.1 a l ∙ (ap (λ x. x && has m.0.event.adds a) kind.2 ∙ ap (λ (x : PlainEntry). has x.event.adds a) m.2);
          }

  pub plain_after : (t a : ℕ) → a < r.plain → after (dated_windows r key b) t a ≡ certain b t a
  plain_after t a l = plain_state (λ x. nat_le x t) a l

  pub plain_before : (t a : ℕ) → a < r.plain → before (dated_windows r key b) t a ≡ certain_before b t a
  plain_before t a l = plain_state (λ x. nat_lt x t) a l

  pub plain_end : (a : ℕ) → a < r.plain → at_end (dated_windows r key b) a ≡ at_last b a
  plain_end a l = ap (λ es. state_after first es a) (sym (filter_true (entries r key b g))) ∙ plain_state (λ x. true) a l

  -- ---- opened atoms

  -- points with windows of one action are one, or come one after the other
  abbrev pub KeysApart : Type 0
  KeysApart = (p q : Point) → Contains b.points p → Contains b.points q → p.low < p.high → q.low < q.high → key p.step ≡ key q.step → (p ≡ q) ⊎ AreWindowsApart p q

  -- with a moment earlier ones pass too
  abbrev pub IsDown : (ℕ → Bool) → Type 0
  IsDown c = (x y : ℕ) → c x ≡ true → y ≤ x → c y ≡ true

  -- an entry that writes an opened atom is an opening or a closing of that action
  pub record Marks (o : Ending) (kind : Kind) (p : Point) : Type 0 where
    pub keyed : key p.step ≡ o.key
    pub longer : p.low < p.high
    pub which : (kind ≡ Opening) ⊎ (kind ≡ Closing)

  pub marks_of : (o : Ending) → Contains r.endings o → (kind : Kind) (p : Point) → Contains b.points p → Suits kind p → writes (dated_point r key kind p) (r.opened o.key) ≡ true → Marks o kind p
  marks_of o j kind p i s w = by_kind kind s (sym (writes_opened r key b g kind p i s o j) ∙ w)
    where
      same_key : (o.key == key p.step) ≡ true → key p.step ≡ o.key
      same_key e = sym (eqb-true o.key (key p.step) e)

      by_kind : (kind : Kind) → Suits kind p → ((is_opening kind || is_closing kind) && (o.key == key p.step)) ≡ true → Marks o kind p
      by_kind Settled s h = absurd (true≢false (sym h))
      by_kind Opening s h = record { keyed = same_key h; longer = s; which = inl refl }
      by_kind Closing s h = record { keyed = same_key h; longer = s; which = inr refl }

  opening_marks : (o : Ending) → Contains r.endings o → (p : Point) → Contains b.points p → p.low < p.high → key p.step ≡ o.key → has (dated_point r key Opening p).event.adds (r.opened o.key) ≡ true
  opening_marks o j p i l k = adds_opened r key b g Opening p i l o j ∙ eq-eqb o.key (key p.step) (sym k)

  closing_marks : (o : Ending) → Contains r.endings o → (p : Point) → Contains b.points p → p.low < p.high → key p.step ≡ o.key → writes (dated_point r key Closing p) (r.opened o.key) ≡ true
  closing_marks o j p i l k = writes_opened r key b g Closing p i l o j ∙ eq-eqb o.key (key p.step) (sym k)

  module _ (keys : KeysApart) (c : ℕ → Bool) (down : IsDown c) (o : Ending) (j : Contains r.endings o) where
    abbrev writes_it : PlainEntry → Bool
    writes_it e = writes e (r.opened o.key)

    pub opened_true : (p : Point) → Contains b.points p → key p.step ≡ o.key → p.low < p.high → c p.low ≡ true → c p.high ≡ false → state_after first (timed c) (r.opened o.key) ≡ true
    opened_true p i k l begun going =
        let adds = opening_marks o j p i l k in
        latest_way first (timed c) (r.opened o.key) (dated_point r key Opening p) (timed_there c Opening p i l begun)
        (first_holds (has (dated_point r key Opening p).event.adds (r.opened o.key)) (has (dated_point r key Opening p).event.dels (r.opened o.key)) adds)
        last ∙ adds
      where
        other : (kind : Kind) (q : Point) → Contains b.points q → (s : Suits kind q) → c (time_of kind q) ≡ true → Marks o kind q → (p ≡ q) ⊎ AreWindowsApart p q →
            (has (dated_point r key kind q).event.adds (r.opened o.key) ≡ has (dated_point r key Opening p).event.adds (r.opened o.key)) ⊎ (time_of kind q < p.low)
        other Settled q n s h m apart = absurd (by_which m.which)
          where
            by_which : (Settled ≡ Opening) ⊎ (Settled ≡ Closing) → ⊥
            by_which (inl e) = true≢false (ap is_late e)
            by_which (inr e) = true≢false (sym (ap is_closing e))
        other Opening q n s h m apart = inl (opening_marks o j q n s m.keyed ∙ sym (opening_marks o j p i l k))
        other Closing q n s h m (inl e) = absurd (true≢false (sym h ∙ (ap (λ (x : Point). c x.high) (sym e) ∙ going)))
        other Closing q n s h m (inr (inl a)) = absurd (true≢false (sym (down q.high p.high h (omega (arith, a, s))) ∙ going))
        other Closing q n s h m (inr (inr a)) = inr a

        last : ComesLast (timed c) (r.opened o.key) (dated_point r key Opening p)
        last e n w =
            let m = member_of_kept (λ (x : PlainEntry). c x.time) (entries r key b g) e n in
            let d = found r key b g e m.0 in
            let marks = marks_of o j d.kind d.p d.there d.suits (ap (λ x. writes x (r.opened o.key)) d.is ∙ w) in
            subst (λ (x : PlainEntry). (has x.event.adds (r.opened o.key) ≡ has (dated_point r key Opening p).event.adds (r.opened o.key)) ⊎ (x.time < p.low)) d.is
            (other d.kind d.p d.there d.suits (ap (λ (x : PlainEntry). c x.time) d.is ∙ m.1) marks (keys p d.p i d.there l marks.longer (k ∙ sym marks.keyed)))

    -- a point that has begun and not ended
    pub record IsOpen (p : Point) : Type 0 where
      pub there : Contains b.points p
      pub keyed : key p.step ≡ o.key
      pub longer : p.low < p.high
      pub begun : c p.low ≡ true
      pub going : c p.high ≡ false

    pub opened_point : state_after first (timed c) (r.opened o.key) ≡ true → (p : Point) × IsOpen p
    opened_point h = by_top (top (λ (e : PlainEntry). e.time) writes_it (timed c))
      where
        closed_then : (p : Point) → Contains b.points p → p.low < p.high → key p.step ≡ o.key → c p.high ≡ true →
            ((e : PlainEntry) → Contains (timed c) e → writes_it e ≡ true → e.time ≤ p.high) → ⊥
        closed_then p i l k ended most = true≢false (sym h ∙ (latest_way first (timed c) (r.opened o.key) (dated_point r key Closing p) (timed_there c Closing p i l ended) (closing_marks o j p i l k) last ∙ adds_opened r key b g Closing p i l o j))
          where
            other : (kind : Kind) (q : Point) → Contains b.points q → (s : Suits kind q) → Marks o kind q → time_of kind q ≤ p.high → (p ≡ q) ⊎ AreWindowsApart p q →
                (has (dated_point r key kind q).event.adds (r.opened o.key) ≡ has (dated_point r key Closing p).event.adds (r.opened o.key)) ⊎ (time_of kind q < p.high)
            other Settled q n s m up apart = absurd (by_which m.which)
              where
                by_which : (Settled ≡ Opening) ⊎ (Settled ≡ Closing) → ⊥
                by_which (inl e) = true≢false (ap is_late e)
                by_which (inr e) = true≢false (sym (ap is_closing e))
            other Closing q n s m up apart = inl (adds_opened r key b g Closing q n s o j ∙ sym (adds_opened r key b g Closing p i l o j))
            other Opening q n s m up (inl e) = inr (subst (λ (x : Point). x.low < p.high) e l)
            other Opening q n s m up (inr (inl a)) = absurd (omega (arith, a, up))
            other Opening q n s m up (inr (inr a)) = inr (omega (arith, a, s, l))

            last : ComesLast (timed c) (r.opened o.key) (dated_point r key Closing p)
            last e n w =
                let x = member_of_kept (λ (y : PlainEntry). c y.time) (entries r key b g) e n in
                let d = found r key b g e x.0 in
                let marks = marks_of o j d.kind d.p d.there d.suits (ap (λ y. writes y (r.opened o.key)) d.is ∙ w) in
                subst (λ (y : PlainEntry). (has y.event.adds (r.opened o.key) ≡ has (dated_point r key Closing p).event.adds (r.opened o.key)) ⊎ (y.time < p.high)) d.is
                (other d.kind d.p d.there d.suits marks (subst (λ t. t ≤ p.high) (sym (ap (λ (y : PlainEntry). y.time) d.is)) (most e n w)) (keys p d.p i d.there l marks.longer (k ∙ sym marks.keyed)))

        by_kind : (kind : Kind) (p : Point) → Contains b.points p → (s : Suits kind p) → Marks o kind p → c (time_of kind p) ≡ true →
            ((e : PlainEntry) → Contains (timed c) e → writes_it e ≡ true → e.time ≤ time_of kind p) → (p : Point) × IsOpen p
        by_kind Settled p i s m t most = absurd (by_which m.which)
          where
            by_which : (Settled ≡ Opening) ⊎ (Settled ≡ Closing) → ⊥
            by_which (inl e) = true≢false (ap is_late e)
            by_which (inr e) = true≢false (sym (ap is_closing e))
        by_kind Closing p i s m t most = absurd (closed_then p i s m.keyed t most)
        by_kind Opening p i s m t most = elim (cases_Bool (c p.high)) [
          | inl e ↦ let up : p.high ≤ p.low = most (dated_point r key Closing p) (timed_there c Closing p i s e) (closing_marks o j p i s m.keyed) in absurd (omega (arith, up, s))
          | inr e ↦ (p, record { there = i; keyed = m.keyed; longer = s; begun = t; going = e })
        ]

        by_top : NonePasses writes_it (timed c) ⊎ ((m : PlainEntry) × IsTop (λ (e : PlainEntry). e.time) writes_it (timed c) m) → (p : Point) × IsOpen p
        by_top (inl none) = absurd (true≢false (sym h ∙ (no_writer first (timed c) (r.opened o.key) none ∙ g.numbers.closed_first o j)))
        by_top (inr (e, m)) =
            let x = member_of_kept (λ (y : PlainEntry). c y.time) (entries r key b g) e m.there in
            let d = found r key b g e x.0 in
            let time : time_of d.kind d.p ≡ e.time = ap (λ (y : PlainEntry). y.time) d.is in
            by_kind d.kind d.p d.there d.suits (marks_of o j d.kind d.p d.there d.suits (ap (λ y. writes y (r.opened o.key)) d.is ∙ m.passes)) (ap c time ∙ x.1)
            (λ y n w. subst (λ t. y.time ≤ t) (sym time) (m.most y n w))

  -- ---- shadows

  is_written : (o : Ending) (p : Point) (a : ℕ) → Contains r.endings o → o.event ≡ p.event → sets p a ≡ true → is_shadowed r a ≡ true
  is_written o p a j e s = any_passes (λ (x : Ending). has x.event.adds a || has x.event.dels a) r.endings o j (ap (λ e. has e.adds a || has e.dels a) e ∙ s)

  pub shadow_after : AreCalm b → (t a : ℕ) (p : Point) → Contains b.points p → p.low ≤ t → t < p.high → sets p a ≡ true → after (dated_windows r key b) t (r.shadow a) ≡ has p.event.adds a
  shadow_after calm t a p i from to s =
      let longer : p.low < p.high = omega (arith, from, to) in
      let o = end_of r key b g p i longer in
      let h = is_written o.0 p a o.1.there o.1.event s in
      latest_way first (timed (λ x. nat_le x t)) (r.shadow a) (dated_point r key Opening p) (timed_there (λ x. nat_le x t) Opening p i longer (is_by p.low t from))
      (writes_shadow r key b g Opening p i longer a h ∙ s) (last h longer)
      ∙ adds_shadow r key b g Opening p i longer a h
    where
      is_by : (m n : ℕ) → m ≤ n → nat_le m n ≡ true
      is_by m n l = grind (arith, nat_tests)

      by_then : (m n : ℕ) → nat_le m n ≡ true → m ≤ n
      by_then m n l = grind (arith, nat_tests)

      other : (h : is_shadowed r a ≡ true) (longer : p.low < p.high) (kind : Kind) (q : Point) (n : Contains b.points q) (s : Suits kind q) → time_of kind q ≤ t → AgreeOrApart a q p →
          (has (dated_point r key kind q).event.adds (r.shadow a) ≡ has (dated_point r key Opening p).event.adds (r.shadow a)) ⊎ (time_of kind q < p.low)
      other h longer kind q n s up (inl e) = inl (adds_shadow r key b g kind q n s a h ∙ (e ∙ sym (adds_shadow r key b g Opening p i longer a h)))
      other h longer kind q n s up (inr (inl m)) = let w = within r key b g kind q n in inr (omega (arith, m, w.1))
      other h longer kind q n s up (inr (inr m)) = let w = within r key b g kind q n in absurd (omega (arith, m, w.0, up, to))

      last : (h : is_shadowed r a ≡ true) (longer : p.low < p.high) → ComesLast (timed (λ x. nat_le x t)) (r.shadow a) (dated_point r key Opening p)
      last h longer e n w =
          let m = member_of_kept (λ (x : PlainEntry). nat_le x.time t) (entries r key b g) e n in
          let d = found r key b g e m.0 in
          let time : time_of d.kind d.p ≡ e.time = ap (λ (y : PlainEntry). y.time) d.is in
          let set : sets d.p a ≡ true = sym (writes_shadow r key b g d.kind d.p d.there d.suits a h) ∙ (ap (λ x. writes x (r.shadow a)) d.is ∙ w) in
          subst (λ (x : PlainEntry). (has x.event.adds (r.shadow a) ≡ has (dated_point r key Opening p).event.adds (r.shadow a)) ⊎ (x.time < p.low)) d.is
          (other h longer d.kind d.p d.there d.suits (subst (λ x. x ≤ t) (sym time) (by_then e.time t m.1)) (agree_or_apart b g.proper calm a d.p p d.there i set s))
