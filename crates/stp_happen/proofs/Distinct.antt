-- No two entries of a box's run have both one moment and one step, and its spans stand by their steps.
use Rattle.std.proofs.Common.{◌≡◌, ℕ, ◌<◌, ◌==◌, nat_lt, Bool, true, not, ◌&&◌, cond, List, [], ◌∷◌, slice_index, ◌+◌, Contains, Option, Some, None, IsPermutation, IsSortedByKey, inl, inr, refl, ap, sym, ◌∙◌, arith}
use Rattle.std.proofs.lemmas.Bool.Decides.{nat_tests}
use Rattle.std.proofs.lemmas.List.Elements.{Contains-append_cases}
use Rattle.stp_cond.specs.Atoms.{PlainEvent}
use Rattle.stp_happen.specs.declared.run.Entry.{Entry}
use Rattle.stp_happen.specs.declared.run.Span.{Span}
use Rattle.stp_happen.specs.Plain.{PlainEntry, PlainSpan}
use Rattle.stp_happen.specs.Views.{entry_of, entries_of, span_of, spans_of}
use Rattle.stp_happen.specs.Sound.{is_ascending, entry_before, span_before}
use Rattle.stp_happen.specs.Boxes.{PlainInside, PlainOwner, end_of, rest_of, event_entries, entries_of_owner, inside_spans, spans_of_owner, entries_under, spans_under}
use Rattle.stp_happen.specs.Owners.{IsTimed, AreTimedApart, AreNumbered, AreInOrder}
use Rattle.stp_happen.specs.Times.{time_and_step, by_time_and_step}
use Rattle.stp_happen.proofs.Members.{here, there, member_cases, member_nil, each_of}
use Rattle.stp_happen.proofs.Ascending.{ascending_map, joined_ascend, sorted_ascend}

-- ---- entries and their owners

some_is_not_none : {X : Type 0} (x : X) → Some x ≡ None → ⊥
some_is_not_none x e = cc

in_event : (number time : ℕ) (event : Option PlainEvent) (e : PlainEntry) → Contains (event_entries number time event) e → (event ≡ None → ⊥) × (e.time ≡ time) × (e.step ≡ number)
in_event number time None e i = absurd (member_nil e i)
in_event number time (Some x) e i = elim (member_cases (record { time = time; step = number; event = x }) [] e i) [
  | inl h ↦ (λ n. some_is_not_none x n, ap (λ (o : PlainEntry). o.time) (sym h), ap (λ (o : PlainEntry). o.step) (sym h))
  | inr j ↦ absurd (member_nil e j)
]

-- an entry of an event of the environment comes at the end
of_owner : (o : PlainOwner) (end : ℕ) (e : PlainEntry) → Contains (entries_of_owner o end) e → (e.step ≡ o.number) × (IsTimed o → e.time ≡ end)
of_owner o end e i = elim (Contains-append_cases (event_entries o.number o.start o.first) (event_entries o.number end o.last) e i) [
  | inl j ↦ let r = in_event o.number o.start o.first e j in (r.2, λ t. absurd (r.0 t.first))
  | inr j ↦ let r = in_event o.number end o.last e j in (r.2, λ t. r.1)
]

certain_end : (o : PlainOwner) (ds : List ℕ) → IsTimed o → end_of o ds ≡ o.high
certain_end o ds t = ap (λ b. cond b (o.start + slice_index ds 0) o.high) t.certain

pub record EntryHasOwner (owners : List PlainOwner) (e : PlainEntry) : Type 0 where
  pub o : PlainOwner
  pub member : Contains owners o
  pub step : e.step ≡ o.number
  pub timed : IsTimed o → e.time ≡ o.high

owner_of_entry : (owners : List PlainOwner) (ds : List ℕ) (e : PlainEntry) → Contains (entries_under owners ds) e → EntryHasOwner owners e
owner_of_entry [] ds e i = absurd (member_nil e i)
owner_of_entry (o ∷ os) ds e i = elim (Contains-append_cases (entries_of_owner o (end_of o ds)) (entries_under os (rest_of o ds)) e i) [
  | inl j ↦ let r = of_owner o (end_of o ds) e j in record { o = o; member = here o os; step = r.0; timed = λ t. r.1 t ∙ certain_end o ds t }
  | inr j ↦ let r = owner_of_entry os (rest_of o ds) e j in record { o = r.o; member = there o os r.o r.member; step = r.step; timed = r.timed }
]

-- ---- no moment and step come twice

abbrev differs : PlainEntry → PlainEntry → Bool
differs e o = not ((e.time == o.time) && (e.step == o.step))

differ : (e o : PlainEntry) → (e.time ≡ o.time → e.step ≡ o.step → ⊥) → differs e o ≡ true
differ e o h = by_numbers e.time o.time e.step o.step h
  where
    by_numbers : (a b m n : ℕ) → (a ≡ b → m ≡ n → ⊥) → not ((a == b) && (m == n)) ≡ true
    by_numbers a b m n h = grind (arith, nat_tests)

-- a last event comes after the start of its owner, where there is a first
abbrev pub AreLasting : List PlainOwner → List ℕ → Type 0
AreLasting [] ds = Unit {0}
AreLasting (o ∷ os) ds = ((o.first ≡ None → ⊥) → (o.last ≡ None → ⊥) → o.start < end_of o ds) × AreLasting os (rest_of o ds)

one_event : (number time : ℕ) (event : Option PlainEvent) → is_ascending differs (event_entries number time event) ≡ true
one_event number time None = refl
one_event number time (Some e) = refl

distinct_in_owner : (o : PlainOwner) (end : ℕ) → ((o.first ≡ None → ⊥) → (o.last ≡ None → ⊥) → o.start < end) → is_ascending differs (entries_of_owner o end) ≡ true
distinct_in_owner o end lasting =
    joined_ascend differs (event_entries o.number o.start o.first) (event_entries o.number end o.last) (one_event o.number o.start o.first) (one_event o.number end o.last)
    (λ x y i j.
    let a = in_event o.number o.start o.first x i in
    let b = in_event o.number end o.last y j in
    let l : o.start < end = lasting a.0 b.0 in
    differ x y (λ t s. omega (arith, a.1, b.1)))

-- two entries of one number are of two events of the environment, which have moments of their own
distinct_under : (owners : List PlainOwner) (ds : List ℕ) → AreNumbered owners → AreLasting owners ds → is_ascending differs (entries_under owners ds) ≡ true
distinct_under [] ds n l = refl
distinct_under (o ∷ os) ds n l =
    joined_ascend differs (entries_of_owner o (end_of o ds)) (entries_under os (rest_of o ds)) (distinct_in_owner o (end_of o ds) l.0) (distinct_under os (rest_of o ds) n.1 l.1)
    (λ x y i j. differ x y (λ t s.
    let a = of_owner o (end_of o ds) x i in
    let r = owner_of_entry os (rest_of o ds) y j in
    let apart = each_of (λ z. o.number ≡ z.number → AreTimedApart o z) os n.0 r.o r.member (sym a.0 ∙ (s ∙ r.step)) in
    apart.apart (sym (a.1 apart.one ∙ certain_end o ds apart.one) ∙ (t ∙ r.timed apart.other))))

pub sorted_entries_ascend : (es os : List Entry) (owners : List PlainOwner) (ds : List ℕ) → entries_of es ≡ entries_under owners ds → AreNumbered owners → AreLasting owners ds → IsPermutation es os →
    IsSortedByKey time_and_step by_time_and_step os → is_ascending entry_before os ≡ true
sorted_entries_ascend es os owners ds e n l moves sorted =
    let up : is_ascending (λ x y. differs (entry_of x) (entry_of y)) es ≡ true = sym (ascending_map differs entry_of es) ∙ (ap (is_ascending differs) e ∙ distinct_under owners ds n l) in
    sorted_ascend es os up moves sorted

-- ---- the spans of a box by step

abbrev lower_span : PlainSpan → PlainSpan → Bool
lower_span s o = nat_lt s.step o.step

in_inside : (number from to : ℕ) (inside : Option PlainInside) (s : PlainSpan) → Contains (inside_spans number from to inside) s → (inside ≡ None → ⊥) × (s.step ≡ number)
in_inside number from to None s i = absurd (member_nil s i)
in_inside number from to (Some x) s i = elim (member_cases (record { from = from; to = to; step = number; key = x.key; over = x.over }) [] s i) [
  | inl h ↦ (λ n. some_is_not_none x n, ap (λ (o : PlainSpan). o.step) (sym h))
  | inr j ↦ absurd (member_nil s j)
]

pub record SpanHasOwner (owners : List PlainOwner) (s : PlainSpan) : Type 0 where
  pub o : PlainOwner
  pub member : Contains owners o
  pub step : s.step ≡ o.number
  pub not_timed : IsTimed o → ⊥

owner_of_span : (owners : List PlainOwner) (ds : List ℕ) (s : PlainSpan) → Contains (spans_under owners ds) s → SpanHasOwner owners s
owner_of_span [] ds s i = absurd (member_nil s i)
owner_of_span (o ∷ os) ds s i = elim (Contains-append_cases (spans_of_owner o (end_of o ds)) (spans_under os (rest_of o ds)) s i) [
  | inl j ↦ let r = in_inside o.number o.start (end_of o ds) o.inside s j in record { o = o; member = here o os; step = r.1; not_timed = λ t. r.0 t.inside }
  | inr j ↦ let r = owner_of_span os (rest_of o ds) s j in record { o = r.o; member = there o os r.o r.member; step = r.step; not_timed = r.not_timed }
]

one_span : (number from to : ℕ) (inside : Option PlainInside) → is_ascending lower_span (inside_spans number from to inside) ≡ true
one_span number from to None = refl
one_span number from to (Some i) = refl

below : (s o : PlainSpan) → s.step < o.step → lower_span s o ≡ true
below s o l = grind (arith, nat_tests)

plain_spans_ascend : (owners : List PlainOwner) (ds : List ℕ) → AreInOrder owners → is_ascending lower_span (spans_under owners ds) ≡ true
plain_spans_ascend [] ds h = refl
plain_spans_ascend (o ∷ os) ds h =
    joined_ascend lower_span (spans_of_owner o (end_of o ds)) (spans_under os (rest_of o ds)) (one_span o.number o.start (end_of o ds) o.inside) (plain_spans_ascend os (rest_of o ds) h.1)
    (λ x y i j.
    let a = in_inside o.number o.start (end_of o ds) o.inside x i in
    let r = owner_of_span os (rest_of o ds) y j in
    let l : o.number < r.o.number = each_of (λ z. (IsTimed z → ⊥) → o.number < z.number) os h.0 r.o r.member r.not_timed in
    below x y (omega (arith, a.1, r.step)))

pub spans_ascend : (ss : List Span) (owners : List PlainOwner) (ds : List ℕ) → spans_of ss ≡ spans_under owners ds → AreInOrder owners → is_ascending span_before ss ≡ true
spans_ascend ss owners ds e h = sym (ascending_map lower_span span_of ss) ∙ (ap (is_ascending lower_span) e ∙ plain_spans_ascend owners ds h)
