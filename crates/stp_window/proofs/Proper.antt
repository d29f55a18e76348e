-- Well made owners have proper windows.
use Rattle.std.proofs.Common.{◌≡◌, ℕ, ◌<◌, ◌≤◌, List, [], ◌∷◌, All, Contains, Option, Some, None, IfSome, ◌⊎◌, inl, inr, refl, ap, sym, ◌∙◌, subst, arith}
use Rattle.std.proofs.lemmas.List.Elements.{Contains-append_cases, Contains-append_left, Contains-append_right}
use Rattle.stp_cond.specs.Atoms.{PlainEvent, ReadsAlone}
use Rattle.stp_happen.specs.Boxes.{PlainInside, PlainOwner, PlainBox}
use Rattle.stp_happen.specs.Owners.{IsTimed, AreTimedApart, AreNumbered}
use Rattle.stp_happen.proofs.Members.{here, there, member_cases, member_nil, each_of, all_of, all_pairs}
use Rattle.stp_window.specs.Windows.{Point, OpenSpan, Meet, ArePartedIfOne, IsStarted, IsOwn, IsProper}
use Rattle.stp_window.specs.OwnerWindows.{event_or_none, event_points, first_point, end_point, points_of_owner, points_of_owners, open_spans, open_spans_of_owner, open_spans_of_owners, windows_of, IsWellMade, AreWellMade}

-- ---- the points and spans of owners

some_is_not_none : {X : Type 0} (o : Option X) (x : X) → o ≡ Some x → o ≡ None → ⊥
some_is_not_none o x e f = cc

abbrev pub IsFirstOf : PlainOwner → Point → Type 0
IsFirstOf o p = (e : PlainEvent) × (o.first ≡ Some e) × (p ≡ first_point o)

abbrev pub IsLastOf : PlainOwner → Point → Type 0
IsLastOf o p = (e : PlainEvent) × (o.last ≡ Some e) × (p ≡ end_point o)

-- the first point of an owner, or its last
abbrev pub IsPointOf : PlainOwner → Point → Type 0
IsPointOf o p = IsFirstOf o p ⊎ IsLastOf o p

abbrev point_at : ℕ → ℕ → ℕ → Option PlainEvent → Point
point_at number low high event = record { low = low; high = high; step = number; event = event_or_none event }

in_event : (number low high : ℕ) (event : Option PlainEvent) (p : Point) → Contains (event_points number low high event) p → (e : PlainEvent) × (event ≡ Some e) × (p ≡ point_at number low high event)
in_event number low high None p i = absurd (member_nil p i)
in_event number low high (Some e) p i = elim (member_cases (record { low = low; high = high; step = number; event = e }) [] p i) [ inl same ↦ (e, refl, sym same) | inr j ↦ absurd (member_nil p j) ]

in_owner : (o : PlainOwner) (p : Point) → Contains (points_of_owner o) p → IsPointOf o p
in_owner o p i = elim (Contains-append_cases (event_points o.number o.start o.start o.first) (event_points o.number o.low o.high o.last) p i) [
  | inl j ↦ inl (in_event o.number o.start o.start o.first p j)
  | inr j ↦ inr (in_event o.number o.low o.high o.last p j)
]

-- the owner that a point is of
pub record HasOwner (owners : List PlainOwner) (p : Point) : Type 0 where
  pub o : PlainOwner
  pub member : Contains owners o
  pub of : IsPointOf o p

pub found : (owners : List PlainOwner) (p : Point) → Contains (points_of_owners owners) p → HasOwner owners p
found [] p i = absurd (member_nil p i)
found (o ∷ os) p i = elim (Contains-append_cases (points_of_owner o) (points_of_owners os) p i) [
  | inl j ↦ record { o = o; member = here o os; of = in_owner o p j }
  | inr j ↦ let r = found os p j in record { o = r.o; member = there o os r.o r.member; of = r.of }
]

pub point_step : (o : PlainOwner) (p : Point) → IsPointOf o p → p.step ≡ o.number
point_step o p (inl (e, h, f)) = ap (λ (q : Point). q.step) f
point_step o p (inr (e, h, f)) = ap (λ (q : Point). q.step) f

abbrev pub IsSpanOf : PlainOwner → OpenSpan → Type 0
IsSpanOf o s = (k : PlainInside) × (o.inside ≡ Some k) × (s ≡ record { from = o.start; end = end_point o; key = k.key; over = k.over })

in_inside : (from : ℕ) (end : Point) (inside : Option PlainInside) (s : OpenSpan) → Contains (open_spans from end inside) s → (k : PlainInside) × (inside ≡ Some k) × (s ≡ record { from = from; end = end; key = k.key; over = k.over })
in_inside from end None s i = absurd (member_nil s i)
in_inside from end (Some k) s i = elim (member_cases (record { from = from; end = end; key = k.key; over = k.over }) [] s i) [ inl same ↦ (k, refl, sym same) | inr j ↦ absurd (member_nil s j) ]

-- the owner that a span is of
pub record SpanHasOwner (owners : List PlainOwner) (s : OpenSpan) : Type 0 where
  pub o : PlainOwner
  pub member : Contains owners o
  pub of : IsSpanOf o s

pub found_span : (owners : List PlainOwner) (s : OpenSpan) → Contains (open_spans_of_owners owners) s → SpanHasOwner owners s
found_span [] s i = absurd (member_nil s i)
found_span (o ∷ os) s i = elim (Contains-append_cases (open_spans_of_owner o) (open_spans_of_owners os) s i) [
  | inl j ↦ record { o = o; member = here o os; of = in_inside o.start (end_point o) o.inside s j }
  | inr j ↦ let r = found_span os s j in record { o = r.o; member = there o os r.o r.member; of = r.of }
]

-- ---- a point or span of an owner is there

pub point_there : (owners : List PlainOwner) (o : PlainOwner) (p : Point) → Contains owners o → Contains (points_of_owner o) p → Contains (points_of_owners owners) p
point_there [] o p i j = absurd (member_nil o i)
point_there (x ∷ xs) o p i j = elim (member_cases x xs o i) [
  | inl e ↦ Contains-append_left (points_of_owner x) (points_of_owners xs) p (subst (λ y. Contains (points_of_owner y) p) (sym e) j)
  | inr k ↦ Contains-append_right (points_of_owner x) (points_of_owners xs) p (point_there xs o p k j)
]

pub span_there : (owners : List PlainOwner) (o : PlainOwner) (s : OpenSpan) → Contains owners o → Contains (open_spans_of_owner o) s → Contains (open_spans_of_owners owners) s
span_there [] o s i j = absurd (member_nil o i)
span_there (x ∷ xs) o s i j = elim (member_cases x xs o i) [
  | inl e ↦ Contains-append_left (open_spans_of_owner x) (open_spans_of_owners xs) s (subst (λ y. Contains (open_spans_of_owner y) s) (sym e) j)
  | inr k ↦ Contains-append_right (open_spans_of_owner x) (open_spans_of_owners xs) s (span_there xs o s k j)
]

event_there : (number low high : ℕ) (event : Option PlainEvent) → (event ≡ None → ⊥) → Contains (event_points number low high event) (point_at number low high event)
event_there number low high None h = absurd (h refl)
event_there number low high (Some e) h = here (record { low = low; high = high; step = number; event = e }) []

pub first_of_owner : (o : PlainOwner) → (o.first ≡ None → ⊥) → Contains (points_of_owner o) (first_point o)
first_of_owner o h = Contains-append_left (event_points o.number o.start o.start o.first) (event_points o.number o.low o.high o.last) (first_point o) (event_there o.number o.start o.start o.first h)

pub last_of_owner : (o : PlainOwner) → (o.last ≡ None → ⊥) → Contains (points_of_owner o) (end_point o)
last_of_owner o h = Contains-append_right (event_points o.number o.start o.start o.first) (event_points o.number o.low o.high o.last) (end_point o) (event_there o.number o.low o.high o.last h)

pub first_there : (owners : List PlainOwner) (o : PlainOwner) → Contains owners o → (o.first ≡ None → ⊥) → Contains (points_of_owners owners) (first_point o)
first_there owners o i h = point_there owners o (first_point o) i (first_of_owner o h)

pub last_there : (owners : List PlainOwner) (o : PlainOwner) → Contains owners o → (o.last ≡ None → ⊥) → Contains (points_of_owners owners) (end_point o)
last_there owners o i h = point_there owners o (end_point o) i (last_of_owner o h)

-- ---- numbers

turned_apart : (x y : PlainOwner) → AreTimedApart x y → AreTimedApart y x
turned_apart x y h = record { one = h.other; other = h.one; apart = λ e. h.apart (sym e) }

-- owners of one number are one, or two events of the environment at fixed moments
pub one_number : (owners : List PlainOwner) → AreNumbered owners → (x y : PlainOwner) → Contains owners x → Contains owners y → x.number ≡ y.number → (x ≡ y) ⊎ AreTimedApart x y
one_number [] n x y i j e = absurd (member_nil x i)
one_number (o ∷ os) n x y i j e = by_places o os n.0 x y e (member_cases o os x i) (member_cases o os y j) (λ k l. one_number os n.1 x y k l e)
  where
    by_places : (o : PlainOwner) (os : List PlainOwner) → All (λ z. o.number ≡ z.number → AreTimedApart o z) os → (x y : PlainOwner) → x.number ≡ y.number → (o ≡ x) ⊎ Contains os x → (o ≡ y) ⊎ Contains os y →
        (Contains os x → Contains os y → (x ≡ y) ⊎ AreTimedApart x y) → (x ≡ y) ⊎ AreTimedApart x y
    by_places o os n x y e (inl f) (inl g) more = inl (sym f ∙ g)
    by_places o os n x y e (inl f) (inr l) more = inr (subst (λ z. AreTimedApart z y) f (each_of (λ z. o.number ≡ z.number → AreTimedApart o z) os n y l (ap (λ (z : PlainOwner). z.number) f ∙ e)))
    by_places o os n x y e (inr k) (inl g) more = inr (turned_apart y x (subst (λ z. AreTimedApart z x) g (each_of (λ z. o.number ≡ z.number → AreTimedApart o z) os n x k (ap (λ (z : PlainOwner). z.number) g ∙ sym e))))
    by_places o os n x y e (inr k) (inr l) more = more k l

-- ---- what is made well

pub made : (owners : List PlainOwner) → AreWellMade owners → (o : PlainOwner) → Contains owners o → IsWellMade o
made owners h o i = each_of IsWellMade owners h.each o i

ordered_point : (o : PlainOwner) → IsWellMade o → (p : Point) → IsPointOf o p → p.low ≤ p.high
ordered_point o w p (inl (e, h, f)) = subst (λ (q : Point). q.low ≤ q.high) (sym f) (omega arith)
ordered_point o w p (inr (e, h, f)) = subst (λ (q : Point). q.low ≤ q.high) (sym f) w.ordered

event_reads : (event : Option PlainEvent) → IfSome event ReadsAlone → (e : PlainEvent) → event ≡ Some e → ReadsAlone (event_or_none event)
event_reads None h e f = absurd (cc)
event_reads (Some x) h e f = h

reading_point : (o : PlainOwner) → IsWellMade o → (p : Point) → IsPointOf o p → ReadsAlone p.event
reading_point o w p (inl (e, h, f)) = subst (λ (q : Point). ReadsAlone q.event) (sym f) (event_reads o.first w.first_reads e h)
reading_point o w p (inr (e, h, f)) = subst (λ (q : Point). ReadsAlone q.event) (sym f) (event_reads o.last w.last_reads e h)

-- the first and the last point of an owner have windows without a common moment
parted_points : (o : PlainOwner) → IsWellMade o → (p q : Point) → IsPointOf o p → IsPointOf o q → Meet p q → p ≡ q
parted_points o w p q (inl (x, h, e)) (inl (y, k, f)) meet = e ∙ sym f
parted_points o w p q (inr (x, h, e)) (inr (y, k, f)) meet = e ∙ sym f
parted_points o w p q (inl (x, h, e)) (inr (y, k, f)) meet =
    let m : q.low ≤ p.high = meet.1 in
    let a : p.high ≡ o.start = ap (λ (r : Point). r.high) e in
    let b : q.low ≡ o.low = ap (λ (r : Point). r.low) f in
    let l : o.start < o.low = w.lasting (some_is_not_none o.first x h) (some_is_not_none o.last y k) in
    absurd (omega arith)
parted_points o w p q (inr (x, h, e)) (inl (y, k, f)) meet =
    let m : p.low ≤ q.high = meet.0 in
    let a : q.high ≡ o.start = ap (λ (r : Point). r.high) f in
    let b : p.low ≡ o.low = ap (λ (r : Point). r.low) e in
    let l : o.start < o.low = w.lasting (some_is_not_none o.first y k) (some_is_not_none o.last x h) in
    absurd (omega arith)

-- a point of an event of the environment is its end
timed_point : (o : PlainOwner) → IsTimed o → (p : Point) → IsPointOf o p → p ≡ end_point o
timed_point o t p (inl (x, h, e)) = absurd (some_is_not_none o.first x h t.first)
timed_point o t p (inr (x, h, e)) = e

parted_found : (owners : List PlainOwner) → AreWellMade owners → (p q : Point) → HasOwner owners p → HasOwner owners q → ArePartedIfOne p q
parted_found owners w p q x y e meet = by_kind owners w p q x y meet (one_number owners w.numbered x.o y.o x.member y.member (sym (point_step x.o p x.of) ∙ (e ∙ point_step y.o q y.of)))
  where
    by_kind : (owners : List PlainOwner) → AreWellMade owners → (p q : Point) → (x : HasOwner owners p) (y : HasOwner owners q) → Meet p q → (x.o ≡ y.o) ⊎ AreTimedApart x.o y.o → p ≡ q
    by_kind owners w p q x y meet (inl same) = parted_points x.o (made owners w x.o x.member) p q x.of (subst (λ o. IsPointOf o q) (sym same) y.of) meet
    by_kind owners w p q x y meet (inr apart) =
        let a = timed_point x.o apart.one p x.of in
        let b = timed_point y.o apart.other q y.of in
        let m : p.low ≤ q.high = meet.0 in
        let n : q.low ≤ p.high = meet.1 in
        let p_low : p.low ≡ x.o.low = ap (λ (r : Point). r.low) a in
        let p_high : p.high ≡ x.o.high = ap (λ (r : Point). r.high) a in
        let q_low : q.low ≡ y.o.low = ap (λ (r : Point). r.low) b in
        let q_high : q.high ≡ y.o.high = ap (λ (r : Point). r.high) b in
        let one : x.o.low ≡ x.o.high = (made owners w x.o x.member).certain apart.one.certain in
        let other : y.o.low ≡ y.o.high = (made owners w y.o y.member).certain apart.other.certain in
        absurd (apart.apart (omega arith))

started_span : (owners : List PlainOwner) → AreWellMade owners → (s : OpenSpan) → SpanHasOwner owners s → IsStarted (points_of_owners owners) s
started_span owners w s r =
    let m = made owners w r.o r.member in
    let from : s.from ≡ r.o.start = ap (λ (x : OpenSpan). x.from) r.of.2 in
    let low : s.end.low ≡ r.o.low = ap (λ (x : OpenSpan). x.end.low) r.of.2 in
    let high : s.end.high ≡ r.o.high = ap (λ (x : OpenSpan). x.end.high) r.of.2 in
    let up : r.o.start ≤ r.o.low = m.up in
    let ordered : r.o.low ≤ r.o.high = m.ordered in
    (omega arith, omega arith, (first_point r.o, first_there owners r.o r.member (λ e. some_is_not_none r.o.inside r.of.0 r.of.1 (m.begun e)), sym from, sym from))

own_point : (o : PlainOwner) (s : OpenSpan) → IsSpanOf o s → (p : Point) → IsPointOf o p → (p ≡ s.end) ⊎ (p.high ≤ s.from)
own_point o s k p (inl (x, h, f)) = inr (
    let from : s.from ≡ o.start = ap (λ (y : OpenSpan). y.from) k.2 in
    let high : p.high ≡ o.start = ap (λ (q : Point). q.high) f in
    omega arith
    )
own_point o s k p (inr (x, h, f)) = inl (f ∙ ap (λ (y : OpenSpan). y.end) (sym k.2))

-- an owner in which something has to hold is no event of the environment
own_found : (owners : List PlainOwner) → AreWellMade owners → (s : OpenSpan) (p : Point) → SpanHasOwner owners s → HasOwner owners p → IsOwn s p
own_found owners w s p x y e = by_kind s p x y (one_number owners w.numbered y.o x.o y.member x.member (sym (point_step y.o p y.of) ∙ (e ∙ ap (λ (z : OpenSpan). z.end.step) x.of.2)))
  where
    by_kind : {owners : List PlainOwner} (s : OpenSpan) (p : Point) (x : SpanHasOwner owners s) (y : HasOwner owners p) → (y.o ≡ x.o) ⊎ AreTimedApart y.o x.o → (p ≡ s.end) ⊎ (p.high ≤ s.from)
    by_kind s p x y (inl same) = own_point x.o s x.of p (subst (λ o. IsPointOf o p) same y.of)
    by_kind s p x y (inr apart) = absurd (some_is_not_none x.o.inside x.of.0 x.of.1 apart.other.inside)

pub windows_proper : (box : PlainBox) → AreWellMade box.owners → IsProper (windows_of box)
windows_proper box w =
    let ps = points_of_owners box.owners in
    let ss = open_spans_of_owners box.owners in
    let at : (p : Point) → Contains ps p → HasOwner box.owners p = λ p i. found box.owners p i in
    let for : (s : OpenSpan) → Contains ss s → SpanHasOwner box.owners s = λ s i. found_span box.owners s i in
    record {
      ordered = all_of (λ p. p.low ≤ p.high) ps (λ p i. let r = at p i in ordered_point r.o (made box.owners w r.o r.member) p r.of);
      reading = all_of (λ p. ReadsAlone p.event) ps (λ p i. let r = at p i in reading_point r.o (made box.owners w r.o r.member) p r.of);
      parted = all_pairs ArePartedIfOne ps ps (λ p q i j. parted_found box.owners w p q (at p i) (at q j));
      started = all_of (IsStarted ps) ss (λ s i. started_span box.owners w s (for s i));
      owned = all_pairs IsOwn ss ps (λ s p i j. own_found box.owners w s p (for s i) (at p j));
    }
