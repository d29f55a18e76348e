-- Where the entries of a run come from.
use Rattle.std.proofs.Common.{◌≡◌, ℕ, ◌≤◌, Bool, true, false, List, [], ◌∷◌, ◌++◌, Contains, Option, Some, None, ◌⊎◌, inl, inr, refl, sym, ap, subst}
use Rattle.std.proofs.lemmas.List.Elements.{Contains-append_cases, Contains-append_left, Contains-append_right}
use Rattle.stp_cond.specs.Atoms.{PlainEvent}
use Rattle.stp_happen.specs.Boxes.{PlainInside, PlainOwner, IsVector, IsInInterval, end_of, entries_of_owner, entries_under, event_entries, inside_spans, rest_of, spans_of_owner, spans_under}
use Rattle.stp_happen.specs.Plain.{PlainEntry, PlainSpan}
use Rattle.stp_happen.proofs.Members.{here, there, member_cases, member_nil}

abbrev pub entry_at : ℕ → ℕ → PlainEvent → PlainEntry
entry_at number time event = record { time = time; step = number; event = event }

abbrev pub span_at : PlainOwner → ℕ → PlainInside → PlainSpan
span_at o end i = record { from = o.start; to = end; step = o.number; key = i.key; over = i.over }

-- an owner that ends then, whose events and span are in a run
pub record IsIn (entries : List PlainEntry) (spans : List PlainSpan) (o : PlainOwner) (end : ℕ) : Type 0 where
  pub first : (e : PlainEvent) → o.first ≡ Some e → Contains entries (entry_at o.number o.start e)
  pub last : (e : PlainEvent) → o.last ≡ Some e → Contains entries (entry_at o.number end e)
  pub span : (i : PlainInside) → o.inside ≡ Some i → Contains spans (span_at o end i)
  pub late : o.low ≤ o.high → o.low ≤ end

-- the first or the last event of an owner
pub record IsFrom (owners : List PlainOwner) (entries : List PlainEntry) (spans : List PlainSpan) (e : PlainEntry) : Type 0 where
  pub owner : PlainOwner
  pub end : ℕ
  pub there : Contains owners owner
  pub within : IsIn entries spans owner end
  pub is : ((owner.first ≡ Some e.event) × (e.time ≡ owner.start)) ⊎ ((owner.last ≡ Some e.event) × (e.time ≡ end))

one_event : (number time : ℕ) (event : Option PlainEvent) (e : PlainEntry) → Contains (event_entries number time event) e → (event ≡ Some e.event) × (e.time ≡ time)
one_event number time None e i = absurd (member_nil e i)
one_event number time (Some event) e i = elim (member_cases (entry_at number time event) [] e i) [ inl s ↦ (ap (λ (x : PlainEntry). Some x.event) s, ap (λ (x : PlainEntry). x.time) (sym s)) | inr j ↦ absurd (member_nil e j) ]

has_event : (number time : ℕ) (event : Option PlainEvent) (e : PlainEvent) → event ≡ Some e → Contains (event_entries number time event) (entry_at number time e)
has_event number time event e s = subst (λ o. Contains (event_entries number time o) (entry_at number time e)) (sym s) (here (entry_at number time e) [])

has_span : (o : PlainOwner) (end : ℕ) (inside : Option PlainInside) (i : PlainInside) → inside ≡ Some i → Contains (inside_spans o.number o.start end inside) (span_at o end i)
has_span o end inside i s = subst (λ x. Contains (inside_spans o.number o.start end x) (span_at o end i)) (sym s) (here (span_at o end i) [])

ends_late : (o : PlainOwner) (ds : List ℕ) (b : Bool) → o.uncertain ≡ b → IsInInterval o ds → o.low ≤ o.high → o.low ≤ end_of o ds
ends_late o ds true u w l = rw u (w u).1
ends_late o ds false u w l = rw u l

in_first : (o : PlainOwner) (os : List PlainOwner) (ds : List ℕ) → IsInInterval o ds → IsIn (entries_under (o ∷ os) ds) (spans_under (o ∷ os) ds) o (end_of o ds)
in_first o os ds w = record {
  first = λ e s. Contains-append_left (entries_of_owner o (end_of o ds)) (entries_under os (rest_of o ds)) (entry_at o.number o.start e) (Contains-append_left (event_entries o.number o.start o.first) (event_entries o.number (end_of o ds) o.last) (entry_at o.number o.start e) (has_event o.number o.start o.first e s));
  last = λ e s. Contains-append_left (entries_of_owner o (end_of o ds)) (entries_under os (rest_of o ds)) (entry_at o.number (end_of o ds) e) (Contains-append_right (event_entries o.number o.start o.first) (event_entries o.number (end_of o ds) o.last) (entry_at o.number (end_of o ds) e) (has_event o.number (end_of o ds) o.last e s));
  span = λ i s. Contains-append_left (spans_of_owner o (end_of o ds)) (spans_under os (rest_of o ds)) (span_at o (end_of o ds) i) (has_span o (end_of o ds) o.inside i s);
  late = λ l. ends_late o ds o.uncertain refl w l;
}

in_more : (entries more : List PlainEntry) (spans others : List PlainSpan) (o : PlainOwner) (end : ℕ) → IsIn entries spans o end → IsIn (more ++ entries) (others ++ spans) o end
in_more entries more spans others o end h = record {
  first = λ e s. Contains-append_right more entries (entry_at o.number o.start e) (h.first e s);
  last = λ e s. Contains-append_right more entries (entry_at o.number end e) (h.last e s);
  span = λ i s. Contains-append_right others spans (span_at o end i) (h.span i s);
  late = h.late;
}

pub origin : (owners : List PlainOwner) (ds : List ℕ) → IsVector owners ds → (e : PlainEntry) → Contains (entries_under owners ds) e → IsFrom owners (entries_under owners ds) (spans_under owners ds) e
origin [] ds v e i = absurd (member_nil e i)
origin (o ∷ os) ds v e i =
    elim (Contains-append_cases (entries_of_owner o (end_of o ds)) (entries_under os (rest_of o ds)) e i) [
      | inl j ↦
          record {
            owner = o;
            end = end_of o ds;
            there = here o os;
            within = in_first o os ds v.0;
            is = elim (Contains-append_cases (event_entries o.number o.start o.first) (event_entries o.number (end_of o ds) o.last) e j) [ inl k ↦ inl (one_event o.number o.start o.first e k) | inr k ↦ inr (one_event o.number (end_of o ds) o.last e k) ];
          }
      | inr j ↦
          let r = origin os (rest_of o ds) v.1 e j in
          record {
            owner = r.owner;
            end = r.end;
            there = there o os r.owner r.there;
            within = in_more (entries_under os (rest_of o ds)) (entries_of_owner o (end_of o ds)) (spans_under os (rest_of o ds)) (spans_of_owner o (end_of o ds)) r.owner r.end r.within;
            is = r.is;
          }
    ]
