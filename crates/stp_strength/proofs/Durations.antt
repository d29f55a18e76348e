-- Durations and moments that make the same run.
use Rattle.std.proofs.Common.{◌≡◌, ℕ, ◌+◌, ◌-◌, ◌≤◌, ◌==◌, Bool, true, false, ◌&&◌, cond, if◌then◌else◌, List, [], ◌∷◌, ◌++◌, map, All, Contains, Option, Some, None, inl, inr, refl, ap, ap₂, sym, ◌∙◌, subst, arith, true≢false, eq-eqb, eqb-true}
use Rattle.std.proofs.lemmas.Bool.{cases_Bool}
use Rattle.std.proofs.lemmas.List.{map-append}
use Rattle.std.proofs.lemmas.List.Elements.{All-head, All-tail, Contains-append_left, Contains-append_right}
use Rattle.stp_cond.specs.Atoms.{PlainEvent}
use Rattle.stp_happen.specs.Plain.{PlainEntry, PlainSpan, PlainRun}
use Rattle.stp_happen.specs.Boxes.{PlainInside, PlainOwner, PlainBox, end_of, rest_of, event_entries, entries_of_owner, inside_spans, entries_under, spans_under, run_under, IsInInterval, IsVector}
use Rattle.stp_happen.specs.Owners.{AreTimedApart, AreNumbered}
use Rattle.stp_happen.proofs.Members.{here, there, each_of, all_of, and_both, and_right}
use Rattle.stp_window.specs.Windows.{Point, OpenSpan, entry_at, span_at, run_when, IsInWindow, IsChoice}
use Rattle.stp_window.specs.OwnerWindows.{event_or_none, event_points, first_point, end_point, points_of_owner, points_of_owners, open_spans, open_spans_of_owner, open_spans_of_owners, windows_of, IsWellMade, AreWellMade}
use Rattle.stp_window.proofs.LastWay.{ordered, started}
use Rattle.stp_window.proofs.Proper.{first_of_owner, last_of_owner, windows_proper}
use Rattle.stp_strength.specs.Choices.{nearest}
use Rattle.stp_strength.specs.Vectors.{vector_from, vector_of}
use Rattle.stp_strength.proofs.Sound.{near_window}

some_is_not_none : {X : Type 0} (x : X) → Some x ≡ None → ⊥
some_is_not_none x e = cc

-- each owner starts and ends at its moments under these durations
abbrev pub Fit : (Point → ℕ) → List PlainOwner → List ℕ → Type 0
Fit v [] ds = Unit {0}
Fit v (o ∷ os) ds = ((o.first ≡ None → ⊥) → v (first_point o) ≡ o.start) × (v (end_point o) ≡ end_of o ds) × Fit v os (rest_of o ds)

-- ---- the runs are the same

event_fits : (v : Point → ℕ) (number time low high : ℕ) (event : Option PlainEvent) → ((event ≡ None → ⊥) → v (record { low = low; high = high; step = number; event = event_or_none event }) ≡ time) →
    event_entries number time event ≡ map (entry_at v) (event_points number low high event)
event_fits v number time low high None h = refl
event_fits v number time low high (Some e) h = ap (λ (t : ℕ). let entry : PlainEntry = record { time = t; step = number; event = e } in entry ∷ []) (sym (h (some_is_not_none e)))

owner_fits : (v : Point → ℕ) (o : PlainOwner) (end : ℕ) → ((o.first ≡ None → ⊥) → v (first_point o) ≡ o.start) → v (end_point o) ≡ end → entries_of_owner o end ≡ map (entry_at v) (points_of_owner o)
owner_fits v o end first last =
    ap₂ (λ es fs. es ++ fs) (event_fits v o.number o.start o.start o.start o.first first) (event_fits v o.number end o.low o.high o.last (λ some. last))
    ∙ sym (map-append (entry_at v) (event_points o.number o.start o.start o.first) (event_points o.number o.low o.high o.last))

entries_fit : (v : Point → ℕ) (owners : List PlainOwner) (ds : List ℕ) → Fit v owners ds → entries_under owners ds ≡ map (entry_at v) (points_of_owners owners)
entries_fit v [] ds fit = refl
entries_fit v (o ∷ os) ds fit =
    ap₂ (λ es fs. es ++ fs) (owner_fits v o (end_of o ds) fit.0 fit.1) (entries_fit v os (rest_of o ds) fit.2)
    ∙ sym (map-append (entry_at v) (points_of_owner o) (points_of_owners os))

inside_fits : (v : Point → ℕ) (from to : ℕ) (end : Point) (inside : Option PlainInside) → v end ≡ to → inside_spans end.step from to inside ≡ map (span_at v) (open_spans from end inside)
inside_fits v from to end None e = refl
inside_fits v from to end (Some k) e = ap (λ (t : ℕ). let span : PlainSpan = record { from = from; to = t; step = end.step; key = k.key; over = k.over } in span ∷ []) (sym e)

spans_fit : (v : Point → ℕ) (owners : List PlainOwner) (ds : List ℕ) → Fit v owners ds → spans_under owners ds ≡ map (span_at v) (open_spans_of_owners owners)
spans_fit v [] ds fit = refl
spans_fit v (o ∷ os) ds fit =
    ap₂ (λ es fs. es ++ fs) (inside_fits v o.start (end_of o ds) (end_point o) o.inside fit.1) (spans_fit v os (rest_of o ds) fit.2)
    ∙ sym (map-append (span_at v) (open_spans_of_owner o) (open_spans_of_owners os))

same_run : (box : PlainBox) (v : Point → ℕ) (ds : List ℕ) → Fit v box.owners ds → run_under box ds ≡ run_when (windows_of box) v
same_run box v ds fit =
    let run : List PlainEntry → List PlainSpan → PlainRun = λ es ss. record { entries = es; spans = ss; initial = box.initial; goal = box.goal } in
    ap₂ run (entries_fit v box.owners ds fit) (spans_fit v box.owners ds fit)

-- ---- durations of moments

up_again : (start low t : ℕ) → start ≤ low → low ≤ t → start + (t - start) ≡ t
up_again start low t a b = omega arith

abbrev KeepsEnds : (Point → ℕ) → List PlainOwner → Type 0
KeepsEnds v [] = Unit {0}
KeepsEnds v (o ∷ os) = ((o.first ≡ None → ⊥) → IsInWindow v (first_point o)) × IsInWindow v (end_point o) × KeepsEnds v os

durations_fit : (v : Point → ℕ) (owners : List PlainOwner) → All IsWellMade owners → KeepsEnds v owners → Fit v owners (vector_from v owners) × IsVector owners (vector_from v owners)
durations_fit v [] w keeps = (tt, refl)
durations_fit v (o ∷ os) w keeps = by_kind v o os o.uncertain refl (All-head IsWellMade o os w) keeps.0 keeps.1 (durations_fit v os (All-tail IsWellMade o os w) keeps.2)
  where
    at_start : (v : Point → ℕ) (o : PlainOwner) → IsInWindow v (first_point o) → v (first_point o) ≡ o.start
    at_start v o h = let low : o.start ≤ v (first_point o) = h.0 in let high : v (first_point o) ≤ o.start = h.1 in omega arith

    by_kind : (v : Point → ℕ) (o : PlainOwner) (os : List PlainOwner) (u : Bool) → o.uncertain ≡ u → IsWellMade o → ((o.first ≡ None → ⊥) → IsInWindow v (first_point o)) → IsInWindow v (end_point o) →
        Fit v os (vector_from v os) × IsVector os (vector_from v os) → Fit v (o ∷ os) (vector_from v (o ∷ os)) × IsVector (o ∷ os) (vector_from v (o ∷ os))
    by_kind v o os true e w first end rest =
        let up : o.start ≤ o.low = w.up in
        let t : o.start + (v (end_point o) - o.start) ≡ v (end_point o) = up_again o.start o.low (v (end_point o)) up end.0 in
        rw e ((λ some. at_start v o (first some), sym t, rest.0), (λ _. (omega arith, omega arith, omega arith), rest.1))
    by_kind v o os false e w first end rest =
        let low : o.low ≡ o.high = w.certain e in
        rw e ((λ some. at_start v o (first some), omega arith, rest.0), (λ u. absurd (true≢false (sym u)), rest.1))

-- the end of an owner is a point, or the end of a span
end_there : (v : Point → ℕ) (o : PlainOwner) → IsWellMade o → (last : Option PlainEvent) → o.last ≡ last → (inside : Option PlainInside) → o.inside ≡ inside →
    ((s : OpenSpan) → Contains (open_spans_of_owner o) s → IsInWindow v s.end) → ((p : Point) → Contains (points_of_owner o) p → IsInWindow v p) → IsInWindow v (end_point o)
end_there v o w (Some e) h inside k ends points = points (end_point o) (last_of_owner o (λ n. some_is_not_none e (sym h ∙ n)))
end_there v o w None h (Some i) k ends points =
    let s : OpenSpan = record { from = o.start; end = end_point o; key = i.key; over = i.over } in
    ends s (subst (λ x. Contains (open_spans o.start (end_point o) x) s) (sym k) (here s []))
end_there v o w None h None k ends points = absurd (w.ended h k)

within_windows : (v : Point → ℕ) (owners : List PlainOwner) → All IsWellMade owners → ((s : OpenSpan) → Contains (open_spans_of_owners owners) s → IsInWindow v s.end) →
    ((p : Point) → Contains (points_of_owners owners) p → IsInWindow v p) → KeepsEnds v owners
within_windows v [] w ends points = tt
within_windows v (o ∷ os) w ends points = (
  λ some. points (first_point o) (Contains-append_left (points_of_owner o) (points_of_owners os) (first_point o) (first_of_owner o some)),
  end_there v o (All-head IsWellMade o os w) o.last refl o.inside refl
      (λ s i. ends s (Contains-append_left (open_spans_of_owner o) (open_spans_of_owners os) s i))
      (λ p i. points p (Contains-append_left (points_of_owner o) (points_of_owners os) p i)),
  within_windows v os (All-tail IsWellMade o os w)
      (λ s i. ends s (Contains-append_right (open_spans_of_owner o) (open_spans_of_owners os) s i))
      (λ p i. points p (Contains-append_right (points_of_owner o) (points_of_owners os) p i)),
)

-- the durations of a choice of moments are a vector, and make the same run
pub record IsVectorOf (box : PlainBox) (v : Point → ℕ) (ds : List ℕ) : Type 0 where
  pub vector : IsVector box.owners ds
  pub same : run_under box ds ≡ run_when (windows_of box) v

pub durations_of_choice : (box : PlainBox) → AreWellMade box.owners → (v : Point → ℕ) → IsChoice (windows_of box) v → IsVectorOf box v (vector_of box v)
durations_of_choice box w v choice =
    let keeps = within_windows v box.owners w.each (each_of (λ s. IsInWindow v s.end) (open_spans_of_owners box.owners) choice.1) (each_of (IsInWindow v) (points_of_owners box.owners) choice.0) in
    let fit = durations_fit v box.owners w.each keeps in
    record { vector = fit.1; same = same_run box v (vector_from v box.owners) fit.0 }

-- ---- moments of durations

-- when the uncertain owner with this number ends
abbrev ends_from : List PlainOwner → List ℕ → ℕ → ℕ
ends_from [] ds n = 0
ends_from (o ∷ os) ds n = if o.uncertain && o.number == n then end_of o ds else ends_from os (rest_of o ds) n

-- this gives the end of each uncertain owner
abbrev AreEnds : (ℕ → ℕ) → List PlainOwner → List ℕ → Type 0
AreEnds end [] ds = Unit {0}
AreEnds end (o ∷ os) ds = (o.uncertain ≡ true → end o.number ≡ end_of o ds) × AreEnds end os (rest_of o ds)

same_ends : (f g : ℕ → ℕ) (owners : List PlainOwner) (ds : List ℕ) → ((y : PlainOwner) → Contains owners y → y.uncertain ≡ true → f y.number ≡ g y.number) → AreEnds g owners ds → AreEnds f owners ds
same_ends f g [] ds same h = tt
same_ends f g (o ∷ os) ds same h = (λ u. same o (here o os) u ∙ h.0 u, same_ends f g os (rest_of o ds) (λ y i. same y (there o os y i)) h.1)

-- an uncertain owner has no other's number
other_number : (x y : PlainOwner) → (x.number ≡ y.number → AreTimedApart x y) → y.uncertain ≡ true → (x.uncertain && x.number == y.number) ≡ false
other_number x y apart u = elim (cases_Bool (x.uncertain && x.number == y.number)) [
  | inl h ↦ let a = apart (eqb-true x.number y.number (and_right x.uncertain (x.number == y.number) h)) in absurd (true≢false (sym u ∙ a.other.certain))
  | inr h ↦ h
]

ends_are : (owners : List PlainOwner) (ds : List ℕ) → AreNumbered owners → AreEnds (ends_from owners ds) owners ds
ends_are [] ds n = tt
ends_are (o ∷ os) ds n = (
  λ u. ap (λ b. cond b (end_of o ds) (ends_from os (rest_of o ds) o.number)) (and_both o.uncertain (o.number == o.number) u (eq-eqb o.number o.number refl)),
  same_ends (ends_from (o ∷ os) ds) (ends_from os (rest_of o ds)) os (rest_of o ds)
      (λ y i u. ap (λ b. cond b (end_of o ds) (ends_from os (rest_of o ds) y.number)) (other_number o y (each_of (λ z. o.number ≡ z.number → AreTimedApart o z) os n.0 y i) u))
      (ends_are os (rest_of o ds) n.1),
)

end_within : (o : PlainOwner) (ds : List ℕ) → IsWellMade o → IsInInterval o ds → (u : Bool) → o.uncertain ≡ u → (o.low ≤ end_of o ds) × (end_of o ds ≤ o.high)
end_within o ds w v true e = rw e (let r = v e in (r.1, r.2))
end_within o ds w v false e = rw e (let low : o.low ≡ o.high = w.certain e in (omega arith, omega arith))

nearest_to : (t : ℕ) (p : Point) → p.low ≤ t → t ≤ p.high → nearest t p ≡ t
nearest_to t p l h = omega arith

-- whatever the look-up gives for a certain owner, its end is nearest
end_fits : (t : ℕ) (o : PlainOwner) (ds : List ℕ) → IsWellMade o → IsInInterval o ds → (o.uncertain ≡ true → t ≡ end_of o ds) → (u : Bool) → o.uncertain ≡ u → nearest t (end_point o) ≡ end_of o ds
end_fits t o ds w v h true e =
    let inside = end_within o ds w v true e in
    ap (λ x. nearest x (end_point o)) (h e) ∙ nearest_to (end_of o ds) (end_point o) inside.0 inside.1
end_fits t o ds w v h false e = rw e (let low : o.low ≡ o.high = w.certain e in omega arith)

ends_fit : (end : ℕ → ℕ) (owners : List PlainOwner) (ds : List ℕ) → All IsWellMade owners → IsVector owners ds → AreEnds end owners ds → Fit (λ p. nearest (end p.step) p) owners ds
ends_fit end [] ds w v h = tt
ends_fit end (o ∷ os) ds w v h = (
  λ some. omega arith,
  end_fits (end o.number) o ds (All-head IsWellMade o os w) v.0 h.0 o.uncertain refl,
  ends_fit end os (rest_of o ds) (All-tail IsWellMade o os w) v.1 h.1,
)

-- the moments of a vector are a choice, and make the same run
pub record AreMomentsOf (box : PlainBox) (ds : List ℕ) (v : Point → ℕ) : Type 0 where
  pub choice : IsChoice (windows_of box) v
  pub same : run_under box ds ≡ run_when (windows_of box) v

pub moments_of_vector : (box : PlainBox) → AreWellMade box.owners → (ds : List ℕ) → IsVector box.owners ds → (v : Point → ℕ) × AreMomentsOf box ds v
moments_of_vector box w ds vector =
    let end : ℕ → ℕ = ends_from box.owners ds in
    let v : Point → ℕ = λ p. nearest (end p.step) p in
    let proper = windows_proper box w in (
      v,
      record {
        choice = (
          all_of (IsInWindow v) (points_of_owners box.owners) (λ p i. near_window (end p.step) p (ordered (windows_of box) proper p i)),
          all_of (λ s. IsInWindow v s.end) (open_spans_of_owners box.owners) (λ s i. near_window (end s.end.step) s.end (started (windows_of box) proper s i).1),
        );
        same = same_run box v ds (ends_fit end box.owners ds w.each vector (ends_are box.owners ds w.numbered));
      },
    )
