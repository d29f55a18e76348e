-- The dated list of a box is that of its windows, and a box that a rewriting fits has windows that it fits.
use Rattle.std.proofs.Common.{◌≡◌, ℕ, ◌<◌, ◌≤◌, ◌==◌, nat_lt, Bool, true, false, cond, List, [], ◌∷◌, ◌++◌, map, Contains, Option, Some, None, IfSome, ◌⊎◌, inl, inr, refl, sym, ◌∙◌, subst, ap, ap₂, arith, true≢false, eqb-true, eq-eqb}
use Rattle.std.specs.List.{flat_map}
use Rattle.std.proofs.lemmas.Bool.{cases_Bool}
use Rattle.std.proofs.lemmas.Bool.Decides.{nat_tests}
use Rattle.std.proofs.lemmas.List.{map-append}
use Rattle.std.proofs.lemmas.List.Concat.{flat_map-append}
use Rattle.stp_cond.specs.Atoms.{PlainEvent}
use Rattle.stp_cond.specs.Formulas.{holds_in}
use Rattle.stp_happen.specs.Boxes.{PlainInside, PlainOwner, PlainBox}
use Rattle.stp_happen.specs.Owners.{AreTimedApart, AreNumbered}
use Rattle.stp_happen.proofs.Members.{here, there, member_cases, member_nil, each_of}
use Rattle.stp_window.specs.Windows.{Point, OpenSpan}
use Rattle.stp_window.specs.OwnerWindows.{event_or_none, event_points, end_point, points_of_owner, points_of_owners, open_spans, open_spans_of_owner, open_spans_of_owners, windows_of, IsWellMade, AreWellMade}
use Rattle.stp_window.proofs.Proper.{found, point_step, IsPointOf, found_span, span_there, made}
use Rattle.stp_rewriting.specs.Rewritten.{Ending, Rewriting, Settled, Opening, Closing}
use Rattle.stp_rewriting.specs.Fitting.{IsBelow, IsRewriting, IsRewrittenOwner, IsRewrittenBox, key_inside, AreRewritten, IsEndOf, IsSpanOf}
use Rattle.stp_rewriting.specs.Dated.{dated, dated_first, dated_last, dated_entries, dated_inside, dated_spans, dated_run, dated_points, dated_span, dated_windows, key_among}

-- ---- keys

pub key_of_owner : (owners : List PlainOwner) → AreNumbered owners → (o : PlainOwner) → Contains owners o → key_among owners o.number ≡ key_inside o.inside
key_of_owner [] n o i = absurd (member_nil o i)
key_of_owner (x ∷ xs) n o i = by_test (o.number == x.number) refl (member_cases x xs o i) (key_of_owner xs n.1 o)
  where
    no_action : (y : PlainOwner) → y.inside ≡ None → key_inside y.inside ≡ 0
    no_action y e = ap key_inside e

    by_test : (t : Bool) → (o.number == x.number) ≡ t → (x ≡ o) ⊎ Contains xs o → (Contains xs o → key_among xs o.number ≡ key_inside o.inside) → cond (o.number == x.number) (key_inside x.inside) (key_among xs o.number) ≡ key_inside o.inside
    by_test true e (inl same) more = ap (λ t. cond t (key_inside x.inside) (key_among xs o.number)) e ∙ ap (λ (y : PlainOwner). key_inside y.inside) same
    by_test true e (inr j) more =
        let apart = each_of (λ y. x.number ≡ y.number → AreTimedApart x y) xs n.0 o j (sym (eqb-true o.number x.number e)) in
        ap (λ t. cond t (key_inside x.inside) (key_among xs o.number)) e ∙ (no_action x apart.one.inside ∙ sym (no_action o apart.other.inside))
    by_test false e (inl same) more = absurd (true≢false (sym (eq-eqb o.number x.number (ap (λ (y : PlainOwner). y.number) (sym same))) ∙ e))
    by_test false e (inr j) more = ap (λ t. cond t (key_inside x.inside) (key_among xs o.number)) e ∙ more j

-- ---- lists

is_less : (m n : ℕ) → m < n → nat_lt m n ≡ true
is_less m n l = grind (arith, nat_tests)

is_not_less : (m n : ℕ) → m ≡ n → nat_lt m n ≡ false
is_not_less m n l = grind (arith, nat_tests)

module _ (r : Rewriting) (key : ℕ → ℕ) where
  first_same : (o : PlainOwner) (first : Option PlainEvent) → key o.number ≡ key_inside o.inside → flat_map (dated_points r key) (event_points o.number o.start o.start first) ≡ dated_first r o first
  first_same o None h = refl
  first_same o (Some e) h =
      ap (λ t. cond t (dated r Opening (key o.number) o.number o.start e ∷ dated r Closing (key o.number) o.number o.start e ∷ []) (dated r Settled (key o.number) o.number o.start e ∷ []) ++ []) (is_not_less o.start o.start refl)
      ∙ ap (λ k. dated r Settled k o.number o.start e ∷ []) h

  last_same : (o : PlainOwner) (last : Option PlainEvent) → key o.number ≡ key_inside o.inside → (o.uncertain ≡ true → o.low < o.high) → (o.uncertain ≡ false → o.low ≡ o.high) → flat_map (dated_points r key) (event_points o.number o.low o.high last) ≡ dated_last r o last
  last_same o None h longer moment = refl
  last_same o (Some e) h longer moment = by_test o.uncertain refl
    where
      by_test : (u : Bool) → o.uncertain ≡ u →
          cond (nat_lt o.low o.high) (dated r Opening (key o.number) o.number o.low e ∷ dated r Closing (key o.number) o.number o.high e ∷ []) (dated r Settled (key o.number) o.number o.high e ∷ []) ++ []
          ≡ cond o.uncertain (dated r Opening (key_inside o.inside) o.number o.low e ∷ dated r Closing (key_inside o.inside) o.number o.high e ∷ []) (dated r Settled (key_inside o.inside) o.number o.high e ∷ [])
      by_test true u = rw (is_less o.low o.high (longer u), u, h) refl
      by_test false u = rw (is_not_less o.low o.high (moment u), u, h) refl

  owner_same : (o : PlainOwner) → key o.number ≡ key_inside o.inside → IsWellMade o → IsRewrittenOwner r o → flat_map (dated_points r key) (points_of_owner o) ≡ dated_first r o o.first ++ dated_last r o o.last
  owner_same o h w f =
      flat_map-append (dated_points r key) (event_points o.number o.start o.start o.first) (event_points o.number o.low o.high o.last)
      ∙ ap₂ (λ xs ys. xs ++ ys) (first_same o o.first h) (last_same o o.last h f.lasting w.certain)

  entries_same : (os : List PlainOwner) → ((o : PlainOwner) → Contains os o → key o.number ≡ key_inside o.inside) → ((o : PlainOwner) → Contains os o → IsWellMade o) → ((o : PlainOwner) → Contains os o → IsRewrittenOwner r o) →
      flat_map (dated_points r key) (points_of_owners os) ≡ dated_entries r os
  entries_same [] h w f = refl
  entries_same (o ∷ os) h w f =
      flat_map-append (dated_points r key) (points_of_owner o) (points_of_owners os)
      ∙ ap₂ (λ xs ys. xs ++ ys) (owner_same o (h o (here o os)) (w o (here o os)) (f o (here o os)))
      (entries_same os (λ x i. h x (there o os x i)) (λ x i. w x (there o os x i)) (λ x i. f x (there o os x i)))

inside_same : (r : Rewriting) (o : PlainOwner) (inside : Option PlainInside) → map (dated_span r) (open_spans o.start (end_point o) inside) ≡ dated_inside r o inside
inside_same r o None = refl
inside_same r o (Some i) = refl

spans_same : (r : Rewriting) (os : List PlainOwner) → map (dated_span r) (open_spans_of_owners os) ≡ dated_spans r os
spans_same r [] = refl
spans_same r (o ∷ os) = map-append (dated_span r) (open_spans_of_owner o) (open_spans_of_owners os) ∙ ap₂ (λ xs ys. xs ++ ys) (inside_same r o o.inside) (spans_same r os)

module _ (r : Rewriting) (box : PlainBox) (numbers : IsRewriting r) (well : AreWellMade box.owners) (fits : IsRewrittenBox r box) where
  abbrev key : ℕ → ℕ
  key = key_among box.owners

  owner_fits : (o : PlainOwner) → Contains box.owners o → IsRewrittenOwner r o
  owner_fits o i = each_of (IsRewrittenOwner r) box.owners fits.owners o i

  own_key : (o : PlainOwner) → Contains box.owners o → key o.number ≡ key_inside o.inside
  own_key o i = key_of_owner box.owners well.numbered o i

  pub runs_same : dated_windows r key (windows_of box) ≡ dated_run r box
  runs_same = by_parts (entries_same r key box.owners own_key (λ o i. made box.owners well o i) owner_fits) (spans_same r box.owners)
    where
      by_parts : flat_map (dated_points r key) (points_of_owners box.owners) ≡ dated_entries r box.owners → map (dated_span r) (open_spans_of_owners box.owners) ≡ dated_spans r box.owners → dated_windows r key (windows_of box) ≡ dated_run r box
      by_parts e f = rw (e, f) refl

  -- ---- the windows

  below_event : (event : Option PlainEvent) → IfSome event (IsBelow r.plain) → (e : PlainEvent) → event ≡ Some e → IsBelow r.plain (event_or_none event)
  below_event None h e f = absurd (cc)
  below_event (Some x) h e f = h

  point_below : (o : PlainOwner) → IsRewrittenOwner r o → (p : Point) → IsPointOf o p → IsBelow r.plain p.event
  point_below o f p (inl (e, h, is)) = subst (λ (q : Point). IsBelow r.plain q.event) (sym is) (below_event o.first f.first_below e h)
  point_below o f p (inr (e, h, is)) = subst (λ (q : Point). IsBelow r.plain q.event) (sym is) (below_event o.last f.last_below e h)

  point_end : (o : PlainOwner) → Contains box.owners o → (p : Point) → IsPointOf o p → p.low < p.high → (e : Ending) × IsEndOf r (key p.step) p e
  point_end o i p (inl (e, h, is)) l =
      let low : p.low ≡ o.start = ap (λ (q : Point). q.low) is in
      let high : p.high ≡ o.start = ap (λ (q : Point). q.high) is in
      absurd (omega (arith, low, high, l))
  point_end o i p (inr (e, h, is)) l = by_test (cases_Bool o.uncertain)
    where
      low : p.low ≡ o.low
      low = ap (λ (q : Point). q.low) is

      high : p.high ≡ o.high
      high = ap (λ (q : Point). q.high) is

      by_test : (o.uncertain ≡ true) ⊎ (o.uncertain ≡ false) → (e : Ending) × IsEndOf r (key p.step) p e
      by_test (inr u) = let same = (made box.owners well o i).certain u in absurd (omega (arith, low, high, l, same))
      by_test (inl u) =
          let m = (owner_fits o i).ending u in (
            m.0,
            record {
              there = m.1;
              keyed = m.2 ∙ (sym (own_key o i) ∙ ap key (sym (ap (λ (q : Point). q.step) is)));
              event = sym (ap event_or_none m.3) ∙ sym (ap (λ (q : Point). q.event) is);
            },
          )

  abbrev span_at : PlainOwner → PlainInside → OpenSpan
  span_at o i = record { from = o.start; end = end_point o; key = i.key; over = i.over }

  inside_there : (o : PlainOwner) (inside : Option PlainInside) (i : PlainInside) → inside ≡ Some i → Contains (open_spans o.start (end_point o) inside) (span_at o i)
  inside_there o inside i e = subst (λ x. Contains (open_spans o.start (end_point o) x) (span_at o i)) (sym e) (here (span_at o i) [])

  pub owner_span : (o : PlainOwner) → Contains box.owners o → (i : PlainInside) → o.inside ≡ Some i → Contains (windows_of box).spans (record { from = o.start; end = end_point o; key = i.key; over = i.over })
  owner_span o n i e = span_there box.owners o (span_at o i) n (inside_there o o.inside i e)

  has_inside : (inside : Option PlainInside) → 0 < key_inside inside → (i : PlainInside) × (inside ≡ Some i)
  has_inside None l = absurd (omega (arith, l))
  has_inside (Some i) l = (i, refl)

  point_span : (o : PlainOwner) → Contains box.owners o → (p : Point) → IsPointOf o p → (e : Ending) → Contains r.endings e → e.key ≡ key p.step → (s : OpenSpan) × IsSpanOf (windows_of box) p s
  point_span o n p of e j k =
      let step = point_step o p of in
      let i = has_inside o.inside (omega (arith, numbers.keys_above e j, k, ap key step, own_key o n)) in
      (span_at o i.0, record { there = owner_span o n i.0 i.1; step = sym step; since = (bounds of).0; until = (bounds of).1 })
    where
      up : o.start ≤ o.low
      up = (made box.owners well o n).up

      ordered : o.low ≤ o.high
      ordered = (made box.owners well o n).ordered

      bounds : IsPointOf o p → (o.start ≤ p.low) × (p.high ≤ o.high)
      bounds (inl (e, h, is)) = (omega (arith, ap (λ (q : Point). q.low) is), omega (arith, ap (λ (q : Point). q.high) is, up, ordered))
      bounds (inr (e, h, is)) = (omega (arith, ap (λ (q : Point). q.low) is, up), omega (arith, ap (λ (q : Point). q.high) is))

  over_inside : (inside : Option PlainInside) → IfSome inside (λ i. i.over ≡ (λ state. holds_in state (r.over i.key))) → (i : PlainInside) → inside ≡ Some i → i.over ≡ (λ state. holds_in state (r.over i.key))
  over_inside None h i e = absurd (cc)
  over_inside (Some x) h i e = some_is x i e h
    where
      some_is : (x i : PlainInside) → Some x ≡ Some i → x.over ≡ (λ state. holds_in state (r.over x.key)) → i.over ≡ (λ state. holds_in state (r.over i.key))
      some_is x i e h = let same : x ≡ i = cc in subst (λ (y : PlainInside). y.over ≡ (λ state. holds_in state (r.over y.key))) same h

  pub windows_fit : AreRewritten r key (windows_of box)
  windows_fit = record {
    below = λ p i. let o = found box.owners p i in point_below o.o (owner_fits o.o o.member) p o.of;
    ends = λ p i l. let o = found box.owners p i in point_end o.o o.member p o.of l;
    spanned = λ p i e j k. let o = found box.owners p i in point_span o.o o.member p o.of e j k;
    keyed = λ s i.
        let o = found_span box.owners s i in
        ap (λ (x : OpenSpan). x.key) o.of.2 ∙ (sym (ap key_inside o.of.1) ∙ (sym (own_key o.o o.member) ∙ ap key (sym (ap (λ (x : OpenSpan). x.end.step) o.of.2))));
    over = λ s i.
        let o = found_span box.owners s i in
        subst (λ (x : OpenSpan). x.over ≡ (λ state. holds_in state (r.over x.key))) (sym o.of.2) (over_inside o.o.inside (owner_fits o.o o.member).over o.of.0 o.of.1);
    initial = fits.initial;
    goal = fits.goal;
  }
