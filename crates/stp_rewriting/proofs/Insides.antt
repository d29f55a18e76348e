-- What has to hold inside an action, expanded, holds in the state of the dated list exactly where it does whichever of
-- the unsettled ends have come.
use Rattle.std.proofs.Common.{◌≡◌, ℕ, ◌<◌, ◌≤◌, ◌==◌, ◌↔◌, nat_lt, nat_le, Bool, true, false, not, ◌&&◌, ◌||◌, cond, List, [], ◌∷◌, filter, Contains, inl, inr, refl, sym, ◌∙◌, subst, ap, arith, true≢false, eqb-true, eq-eqb}
use Rattle.std.specs.List.{list_any}
use Rattle.std.proofs.lemmas.Bool.{cases_eq}
use Rattle.std.proofs.lemmas.Bool.Decides.{nat_tests}
use Rattle.stp_cond.specs.Atoms.{PlainEvent, has}
use Rattle.stp_cond.specs.Formulas.{holds_in}
use Rattle.stp_cond.proofs.Holding.{holds_alike}
use Rattle.stp_happen.specs.Plain.{after}
use Rattle.stp_happen.proofs.Members.{member_map, mapped_member, kept_member, member_of_kept, all_pairs, same_tests, and_left, and_right, and_both, passing_member, any_passes}
use Rattle.stp_expand.specs.Footprints.{PlainFootprint, writes}
use Rattle.stp_expand.specs.Laws.{is_opened, AgreeIfOpened, once_come}
use Rattle.stp_expand.proofs.Meaning.{expansion_means_whichever_came}
use Rattle.stp_window.specs.Windows.{Point, OpenSpan, WindowBox, is_unsettled}
use Rattle.stp_window.specs.States.{certain, state_at}
use Rattle.stp_window.specs.Certain.{sets, NoneClash}
use Rattle.stp_window.proofs.LastWay.{AreWindowsApart}
use Rattle.stp_strength.proofs.Apart.{AreCalm, agree_or_apart}
use Rattle.stp_strength.proofs.Gaps.{calm_tests, unsettled_told}
use Rattle.stp_strength.proofs.Parts.{calm_boxes_do_not_clash, states_go_by_parts, adder_of_writer, is_chosen_writer, is_chosen_adder}
use Rattle.stp_rewriting.specs.Rewritten.{Ending, Rewriting, footprint_of_end, other_ends, over_of}
use Rattle.stp_rewriting.specs.Fitting.{IsEndOf}
use Rattle.stp_rewriting.specs.Dated.{dated_windows}
use Rattle.stp_rewriting.proofs.Atoms.{first_holds, second_holds, of_not_same, not_same}
use Rattle.stp_rewriting.proofs.DatedPoints.{Fits, end_of}
use Rattle.stp_rewriting.proofs.DatedStates.{IsDown, opened_true, opened_point, shadow_after, plain_after}
use Rattle.stp_rewriting.proofs.KeysApart.{SpansApart, keys_apart, own_end}

same_foot : (adds dels opened adds' dels' opened' : List ℕ) → adds ≡ adds' → dels ≡ dels' → opened ≡ opened' →
    (let p : PlainFootprint = record { adds = adds; dels = dels; opened = opened } in let q : PlainFootprint = record { adds = adds'; dels = dels'; opened = opened' } in p ≡ q)
same_foot adds dels opened adds' dels' opened' e f h = rw (e, f, h) refl

module _ (r : Rewriting) (key : ℕ → ℕ) (b : WindowBox) (g : Fits r key b) (spans : SpansApart b) (calm : AreCalm b) (s : OpenSpan) (here : Contains b.spans s) (t : ℕ) (from : s.from ≤ t) (to : t < s.end.high) where
  abbrev now : ℕ → Bool
  now = after (dated_windows r key b) t

  abbrev ends : List PlainFootprint
  ends = other_ends r s.key

  abbrev by_now : ℕ → Bool
  by_now x = nat_le x t

  is_down : IsDown r key b g by_now
  is_down x y h l = grind (arith, nat_tests)

  none_clash : (a : ℕ) → NoneClash b a
  none_clash = calm_boxes_do_not_clash b g.proper (calm_tests b calm)

  is_by : (m n : ℕ) → m ≤ n → nat_le m n ≡ true
  is_by m n l = grind (arith, nat_tests)

  is_past : (m n : ℕ) → n < m → nat_le m n ≡ false
  is_past m n l = grind (arith, nat_tests)

  by_then : (m n : ℕ) → nat_le m n ≡ true → m ≤ n
  by_then m n l = grind (arith, nat_tests)

  past_then : (m n : ℕ) → nat_le m n ≡ false → n < m
  past_then m n l = grind (arith, nat_tests)

  unsettled : (p : Point) → p.low ≤ t → t < p.high → is_unsettled t p ≡ true
  unsettled p l h = by_numbers p.low p.high l h
    where
      by_numbers : (m n : ℕ) → m ≤ t → t < n → (nat_le m t && nat_lt t n) ≡ true
      by_numbers m n l h = grind (arith, nat_tests)

  both_now : (p q : Point) → p.low ≤ t → t < p.high → q.low ≤ t → t < q.high → AreWindowsApart p q → ⊥
  both_now p q a c d e (inl h) = omega (arith, h, c, d)
  both_now p q a c d e (inr h) = omega (arith, h, e, a)

  -- a point that has begun and not ended by now, and the end that it is
  record Ongoing (o : Ending) (p : Point) : Type 0 where
    there : Contains b.points p
    keyed : key p.step ≡ o.key
    event : o.event ≡ p.event
    begun : p.low ≤ t
    going : t < p.high

  one_end : (o p : Ending) → Contains r.endings o → Contains r.endings p → o.key ≡ p.key → o ≡ p
  one_end o p i j e = g.numbers.opened_once o p i j (ap r.opened e)

  ongoing : (o : Ending) → Contains r.endings o → now (r.opened o.key) ≡ true → (p : Point) × Ongoing o p
  ongoing o j h =
      let m = opened_point r key b g (keys_apart r key b g spans) by_now is_down o j h in
      let x = m.1 in
      let e = end_of r key b g m.0 x.there x.longer in (
        m.0,
        record {
          there = x.there;
          keyed = x.keyed;
          event = ap (λ (y : Ending). y.event) (one_end o e.0 j e.1.there (sym x.keyed ∙ sym e.1.keyed)) ∙ e.1.event;
          begun = by_then m.0.low t x.begun;
          going = past_then m.0.high t x.going;
        },
      )

  is_opened_now : (o : Ending) → Contains r.endings o → (p : Point) → Contains b.points p → key p.step ≡ o.key → p.low ≤ t → t < p.high → now (r.opened o.key) ≡ true
  is_opened_now o j p i k l h = opened_true r key b g (keys_apart r key b g spans) by_now is_down o j p i k (omega (arith, l, h)) (is_by p.low t l) (is_past p.high t h)

  only_atom : (state : ℕ → Bool) (a : ℕ) → list_any state (a ∷ []) ≡ true → state a ≡ true
  only_atom state a h = by_value (state a) h
    where
      by_value : (x : Bool) → (x || false) ≡ true → x ≡ true
      by_value true h = refl
      by_value false h = h

  -- ---- opened ends agree

  end_in : (p : PlainFootprint) → Contains ends p → (o : Ending) × Contains r.endings o × (o.key ≡ s.key → ⊥) × (footprint_of_end r o ≡ p)
  end_in p i =
      let m = mapped_member (footprint_of_end r) (filter (λ o. not (o.key == s.key)) r.endings) p i in
      let k = member_of_kept (λ (o : Ending). not (o.key == s.key)) r.endings m.0 m.1 in
      (m.0, k.0, of_not_same m.0.key s.key k.1, m.2)

  in_ends : (o : Ending) → Contains r.endings o → (o.key ≡ s.key → ⊥) → Contains ends (footprint_of_end r o)
  in_ends o j other = member_map (footprint_of_end r) (filter (λ o. not (o.key == s.key)) r.endings) o (kept_member (λ (o : Ending). not (o.key == s.key)) r.endings o j (not_same o.key s.key other))

  ends_agree : (o p : Ending) → Contains r.endings o → Contains r.endings p → AgreeIfOpened now (footprint_of_end r o) (footprint_of_end r p)
  ends_agree o p i j h k a adds dels =
      let x = ongoing o i (only_atom now (r.opened o.key) h) in
      let y = ongoing p j (only_atom now (r.opened p.key) k) in
      let added : has x.0.event.adds a ≡ true = sym (ap (λ e. has e.adds a) x.1.event) ∙ adds in
      let deleted : has y.0.event.dels a ≡ true = sym (ap (λ e. has e.dels a) y.1.event) ∙ dels in
      elim (agree_or_apart b g.proper calm a x.0 y.0 x.1.there y.1.there (first_holds (has x.0.event.adds a) (has x.0.event.dels a) added) (second_holds (has y.0.event.adds a) (has y.0.event.dels a) deleted)) [
        | inl e ↦ (g.windows.below y.0 y.1.there).apart a (sym e ∙ added) deleted
        | inr e ↦ both_now x.0 y.0 x.1.begun x.1.going y.1.begun y.1.going e
      ]

  -- ---- choices of points and choices of ends

  record Matches (chosen : Point → Bool) (fc : PlainFootprint → Bool) : Type 0 where
    others : (p : Point) (o : Ending) → Contains b.points p → p.low ≤ t → t < p.high → IsEndOf r (key p.step) p o → (o.key ≡ s.key → ⊥) → chosen p ≡ fc (footprint_of_end r o)
    own : (p : Point) → Contains b.points p → p.low ≤ t → t < p.high → key p.step ≡ s.key → chosen p ≡ false

  module _ (chosen : Point → Bool) (fc : PlainFootprint → Bool) (matches : Matches chosen fc) where
    abbrev come_writer : ℕ → PlainFootprint → Bool
    come_writer a p = (fc p && is_opened now p) && writes p a

    to_point : (a : ℕ) → list_any (come_writer a) ends ≡ true → (p : Point) × Contains b.points p × (is_chosen_writer t chosen a p ≡ true)
    to_point a h =
        let m = passing_member (come_writer a) ends h in
        let o = end_in m.0 m.1 in
        let come : ((fc (footprint_of_end r o.0) && is_opened now (footprint_of_end r o.0)) && writes (footprint_of_end r o.0) a) ≡ true = ap (come_writer a) o.3 ∙ m.2 in
        let both = and_left (fc (footprint_of_end r o.0) && is_opened now (footprint_of_end r o.0)) (writes (footprint_of_end r o.0) a) come in
        let wrote = and_right (fc (footprint_of_end r o.0) && is_opened now (footprint_of_end r o.0)) (writes (footprint_of_end r o.0) a) come in
        let picked = and_left (fc (footprint_of_end r o.0)) (is_opened now (footprint_of_end r o.0)) both in
        let opened = and_right (fc (footprint_of_end r o.0)) (is_opened now (footprint_of_end r o.0)) both in
        let p = ongoing o.0 o.1 (only_atom now (r.opened o.0.key) opened) in
        let end : IsEndOf r (key p.0.step) p.0 o.0 = record { there = o.1; keyed = sym {a = key p.0.step} p.1.keyed; event = p.1.event } in
        let is_chosen : chosen p.0 ≡ true = matches.others p.0 o.0 p.1.there p.1.begun p.1.going end o.2 ∙ picked in
        let way : sets p.0 a ≡ true = sym (ap (λ e. has e.adds a || has e.dels a) p.1.event) ∙ wrote in
        (p.0, p.1.there, and_both (chosen p.0 && is_unsettled t p.0) (sets p.0 a) (and_both (chosen p.0) (is_unsettled t p.0) is_chosen (unsettled p.0 p.1.begun p.1.going)) way)

    of_point : (a : ℕ) (p : Point) → Contains b.points p → is_chosen_writer t chosen a p ≡ true → list_any (come_writer a) ends ≡ true
    of_point a p i h =
        let both = and_left (chosen p && is_unsettled t p) (sets p a) h in
        let way = and_right (chosen p && is_unsettled t p) (sets p a) h in
        let is_chosen = and_left (chosen p) (is_unsettled t p) both in
        let at = unsettled_told t p (and_right (chosen p) (is_unsettled t p) both) in
        let o = end_of r key b g p i (omega (arith, at.0, at.1)) in
        elim (cases_eq o.0.key s.key) [
          | inl same ↦ absurd (true≢false (sym is_chosen ∙ matches.own p i at.0 at.1 (sym o.1.keyed ∙ same)))
          | inr other ↦
              let picked : fc (footprint_of_end r o.0) ≡ true = sym (matches.others p o.0 i at.0 at.1 o.1 other) ∙ is_chosen in
              let opened : is_opened now (footprint_of_end r o.0) ≡ true = first_holds (now (r.opened o.0.key)) false (is_opened_now o.0 o.1.there p i (sym o.1.keyed) at.0 at.1) in
              let wrote : writes (footprint_of_end r o.0) a ≡ true = ap (λ e. has e.adds a || has e.dels a) o.1.event ∙ way in
              any_passes (come_writer a) ends (footprint_of_end r o.0) (in_ends o.0 o.1.there other) (and_both (fc (footprint_of_end r o.0) && is_opened now (footprint_of_end r o.0)) (writes (footprint_of_end r o.0) a) (and_both (fc (footprint_of_end r o.0)) (is_opened now (footprint_of_end r o.0)) picked opened) wrote)
        ]

    come_is_state : (a : ℕ) → a < r.plain → once_come r.shadow ends now fc a ≡ state_at b t chosen a
    come_is_state a l = by_test (list_any (come_writer a) ends) refl ∙ sym (states_go_by_parts b g.proper a (none_clash a) t chosen)
      where
        alike : list_any (come_writer a) ends ≡ list_any (is_chosen_writer t chosen a) b.points
        alike = same_tests (list_any (come_writer a) ends) (list_any (is_chosen_writer t chosen a) b.points)
            (λ h. let p = to_point a h in any_passes (is_chosen_writer t chosen a) b.points p.0 p.1 p.2)
            (λ h. let p = passing_member (is_chosen_writer t chosen a) b.points h in of_point a p.0 p.1 p.2)

        by_test : (x : Bool) → list_any (come_writer a) ends ≡ x →
            cond (list_any (come_writer a) ends) (now (r.shadow a)) (now a) ≡ cond (list_any (is_chosen_writer t chosen a) b.points) (list_any (is_chosen_adder t chosen a) b.points) (certain b t a)
        by_test false e = ap (λ x. cond x (now (r.shadow a)) (now a)) e ∙ (plain_after r key b g t a l ∙ sym (ap (λ x. cond x (list_any (is_chosen_adder t chosen a) b.points) (certain b t a)) (sym alike ∙ e)))
        by_test true e =
            let p = to_point a e in
            let both = and_left (chosen p.0 && is_unsettled t p.0) (sets p.0 a) p.2 in
            let way = and_right (chosen p.0 && is_unsettled t p.0) (sets p.0 a) p.2 in
            let at = unsettled_told t p.0 (and_right (chosen p.0) (is_unsettled t p.0) both) in
            ap (λ x. cond x (now (r.shadow a)) (now a)) e
            ∙ ((shadow_after r key b g calm t a p.0 p.1 at.0 at.1 way ∙ sym (adder_of_writer b a (none_clash a) t chosen p.0 p.1 p.2))
            ∙ sym (ap (λ x. cond x (list_any (is_chosen_adder t chosen a) b.points) (certain b t a)) (sym alike ∙ e)))

    come_holds : holds_in (once_come r.shadow ends now fc) (r.over s.key) ≡ s.over (state_at b t chosen)
    come_holds = holds_alike (once_come r.shadow ends now fc) (state_at b t chosen) (r.over s.key) (λ a i. come_is_state a (g.numbers.over_below s.key a i)) ∙ sym (ap (λ f. f (state_at b t chosen)) (g.windows.over s here))

  -- ---- the choice of ends that a choice of points is, and back

  module _ (chosen : Point → Bool) (end_stays : chosen s.end ≡ false) where
    abbrev marks : PlainFootprint → Point → Bool
    marks f p = (chosen p && is_unsettled t p) && has f.opened (r.opened (key p.step))

    abbrev ends_chosen : PlainFootprint → Bool
    ends_chosen f = list_any (marks f) b.points

    of_points : Matches chosen ends_chosen
    of_points = record {
      own = λ p i l h e. ap chosen (own_end r key b g spans s here t from to p i l h e) ∙ end_stays;
      others = λ p o i l h end other. same_tests (chosen p) (ends_chosen (footprint_of_end r o)) (picked p o i l h end) (was_picked p o i l h end);
    }
      where
        picked : (p : Point) (o : Ending) → Contains b.points p → p.low ≤ t → t < p.high → IsEndOf r (key p.step) p o → chosen p ≡ true → ends_chosen (footprint_of_end r o) ≡ true
        picked p o i l h end c = any_passes (marks (footprint_of_end r o)) b.points p i
            (and_both (chosen p && is_unsettled t p) (has (r.opened o.key ∷ []) (r.opened (key p.step))) (and_both (chosen p) (is_unsettled t p) c (unsettled p l h))
            (first_holds (r.opened o.key == r.opened (key p.step)) false (eq-eqb (r.opened o.key) (r.opened (key p.step)) (ap r.opened end.keyed))))

        was_picked : (p : Point) (o : Ending) → Contains b.points p → p.low ≤ t → t < p.high → IsEndOf r (key p.step) p o → ends_chosen (footprint_of_end r o) ≡ true → chosen p ≡ true
        was_picked p o i l h end c =
            let m = passing_member (marks (footprint_of_end r o)) b.points c in
            let both = and_left (chosen m.0 && is_unsettled t m.0) (has (r.opened o.key ∷ []) (r.opened (key m.0.step))) m.2 in
            let mark = and_right (chosen m.0 && is_unsettled t m.0) (has (r.opened o.key ∷ []) (r.opened (key m.0.step))) m.2 in
            let at = unsettled_told t m.0 (and_right (chosen m.0) (is_unsettled t m.0) both) in
            let opened : r.opened o.key ≡ r.opened (key m.0.step) = eqb-true (r.opened o.key) (r.opened (key m.0.step)) (only_atom (λ x. x == r.opened (key m.0.step)) (r.opened o.key) mark) in
            let longer : m.0.low < m.0.high = omega (arith, at.0, at.1) in
            let e = end_of r key b g m.0 m.1 longer in
            let same : o ≡ e.0 = g.numbers.opened_once o e.0 end.there e.1.there (opened ∙ sym (ap r.opened e.1.keyed)) in
            let keys : key p.step ≡ key m.0.step = sym end.keyed ∙ (ap (λ (x : Ending). x.key) same ∙ e.1.keyed) in
            elim (keys_apart r key b g spans p m.0 i m.1 (omega (arith, l, h)) longer keys) [
              | inl one ↦ ap chosen one ∙ and_left (chosen m.0) (is_unsettled t m.0) both
              | inr apart ↦ absurd (both_now p m.0 l h at.0 at.1 apart)
            ]

  module _ (fc : PlainFootprint → Bool) where
    abbrev foot_at : Point → PlainFootprint
    foot_at p = record { adds = p.event.adds; dels = p.event.dels; opened = r.opened (key p.step) ∷ [] }

    abbrev points_chosen : Point → Bool
    points_chosen p = not (p.step == s.end.step) && fc (foot_at p)

    of_ends : Matches points_chosen fc
    of_ends = record {
      own = λ p i l h e. ap (λ x. not x && fc (foot_at p)) (eq-eqb p.step s.end.step (ap (λ (x : Point). x.step) (own_end r key b g spans s here t from to p i l h e)));
      others = λ p o i l h end other.
          ap (λ x. x && fc (foot_at p)) (not_same p.step s.end.step (λ e. other (end.keyed ∙ (ap key e ∙ sym (g.windows.keyed s here)))))
          ∙ ap fc (same_foot p.event.adds p.event.dels (r.opened (key p.step) ∷ []) o.event.adds o.event.dels (r.opened o.key ∷ [])
          (sym (ap (λ (e : PlainEvent). e.adds) end.event)) (sym (ap (λ (e : PlainEvent). e.dels) end.event)) (sym (ap (λ k. r.opened k ∷ []) end.keyed)));
    }

    end_is_left : points_chosen s.end ≡ false
    end_is_left = ap (λ x. not x && fc (foot_at s.end)) (eq-eqb s.end.step s.end.step refl)

  -- ---- the law

  expansion : over_of r s.key now ≡ true ↔ ((fc : PlainFootprint → Bool) → holds_in (once_come r.shadow ends now fc) (r.over s.key) ≡ true)
  expansion = expansion_means_whichever_came r.shadow ends now (r.over s.key) (all_pairs (AgreeIfOpened now) ends ends (λ p q i j.
      let o = end_in p i in
      let u = end_in q j in
      subst (λ x. AgreeIfOpened now x q) o.3 (subst (λ x. AgreeIfOpened now (footprint_of_end r o.0) x) u.3 (ends_agree o.0 u.0 o.1 u.1))))

  pub kept_inside : over_of r s.key (after (dated_windows r key b) t) ≡ true ↔ ((chosen : Point → Bool) → chosen s.end ≡ false → s.over (state_at b t chosen) ≡ true)
  kept_inside = (
    λ h chosen e. sym (come_holds chosen (ends_chosen chosen e) (of_points chosen e)) ∙ expansion.0 h (ends_chosen chosen e),
    λ h. expansion.1 (λ fc. come_holds (points_chosen fc) fc (of_ends fc) ∙ h (points_chosen fc) (end_is_left fc)),
  )
