-- Boxes on finer grids, and boxes without uncertain owners.
use Rattle.std.proofs.Common.{◌≡◌, ℕ, ◌*◌, Bool, true, false, cond, List, [], ◌∷◌, ◌++◌, map, drop, slice_index, All, Option, Some, None, refl, ap, ap₂, sym, ◌∙◌, subst, arith, mul-add, true≢false}
use Rattle.std.proofs.lemmas.List.{map-append}
use Rattle.std.proofs.lemmas.List.Elements.{All-head, All-tail}
use Rattle.stp_cond.specs.Atoms.{PlainEvent}
use Rattle.stp_happen.specs.Plain.{PlainEntry, PlainSpan, PlainRun, Executes}
use Rattle.stp_happen.specs.Boxes.{PlainInside, PlainOwner, end_of, rest_of, event_entries, entries_of_owner, inside_spans, spans_of_owner, entries_under, spans_under, run_under, IsVector, finer_owner, finer_box}
use Rattle.stp_happen.specs.Moves.{moved_entry, moved_span, finer, FinerBoxesMakeFinerRuns, CertainBoxesAreStrong}
use Rattle.stp_happen.proofs.Moving.{finer_runs_agree}

abbrev times : ℕ → ℕ → ℕ
times k t = k * t

first_times : (k : ℕ) (ds : List ℕ) → slice_index (map (times k) ds) 0 ≡ k * slice_index ds 0
first_times k [] = omega arith
first_times k (d ∷ ds) = refl

drop_times : (k : ℕ) (ds : List ℕ) → drop 1 (map (times k) ds) ≡ map (times k) (drop 1 ds)
drop_times k [] = refl
drop_times k (d ∷ ds) = refl

end_times : (k : ℕ) (o : PlainOwner) (ds : List ℕ) (b : Bool) → o.uncertain ≡ b → end_of (finer_owner k o) (map (times k) ds) ≡ k * end_of o ds
end_times k o ds true e = rw (e, first_times k ds) (sym (mul-add k o.start (slice_index ds 0)))
end_times k o ds false e = rw e refl

rest_times : (k : ℕ) (o : PlainOwner) (ds : List ℕ) (b : Bool) → o.uncertain ≡ b → rest_of (finer_owner k o) (map (times k) ds) ≡ map (times k) (rest_of o ds)
rest_times k o ds true e = rw e (drop_times k ds)
rest_times k o ds false e = rw e refl

event_times : (k number time : ℕ) (event : Option PlainEvent) → event_entries number (k * time) event ≡ map (moved_entry (times k)) (event_entries number time event)
event_times k number time None = refl
event_times k number time (Some e) = refl

owner_times : (k : ℕ) (o : PlainOwner) (end : ℕ) → entries_of_owner (finer_owner k o) (k * end) ≡ map (moved_entry (times k)) (entries_of_owner o end)
owner_times k o end =
    ap₂ (λ es os. es ++ os) (event_times k o.number o.start o.first) (event_times k o.number end o.last)
    ∙ sym (map-append (moved_entry (times k)) (event_entries o.number o.start o.first) (event_entries o.number end o.last))

inside_times : (k number from to : ℕ) (inside : Option PlainInside) → inside_spans number (k * from) (k * to) inside ≡ map (moved_span (times k)) (inside_spans number from to inside)
inside_times k number from to None = refl
inside_times k number from to (Some i) = refl

entries_times : (k : ℕ) (owners : List PlainOwner) (ds : List ℕ) → entries_under (map (finer_owner k) owners) (map (times k) ds) ≡ map (moved_entry (times k)) (entries_under owners ds)
entries_times k [] ds = refl
entries_times k (o ∷ os) ds =
    ap₂ (λ t r. entries_of_owner (finer_owner k o) t ++ entries_under (map (finer_owner k) os) r) (end_times k o ds o.uncertain refl) (rest_times k o ds o.uncertain refl)
    ∙ (ap₂ (λ es fs. es ++ fs) (owner_times k o (end_of o ds)) (entries_times k os (rest_of o ds))
    ∙ sym (map-append (moved_entry (times k)) (entries_of_owner o (end_of o ds)) (entries_under os (rest_of o ds))))

spans_times : (k : ℕ) (owners : List PlainOwner) (ds : List ℕ) → spans_under (map (finer_owner k) owners) (map (times k) ds) ≡ map (moved_span (times k)) (spans_under owners ds)
spans_times k [] ds = refl
spans_times k (o ∷ os) ds =
    ap₂ (λ t r. spans_of_owner (finer_owner k o) t ++ spans_under (map (finer_owner k) os) r) (end_times k o ds o.uncertain refl) (rest_times k o ds o.uncertain refl)
    ∙ (ap₂ (λ es fs. es ++ fs) (inside_times k o.number o.start (end_of o ds) o.inside) (spans_times k os (rest_of o ds))
    ∙ sym (map-append (moved_span (times k)) (spans_of_owner o (end_of o ds)) (spans_under os (rest_of o ds))))

pub finer_boxes_make_finer_runs : FinerBoxesMakeFinerRuns
finer_boxes_make_finer_runs k box ds =
    let run : List PlainEntry → List PlainSpan → PlainRun = λ es os. record { entries = es; spans = os; initial = box.initial; goal = box.goal } in
    ap₂ run (entries_times k box.owners ds) (spans_times k box.owners ds)

-- ---- boxes without uncertain owners

abbrev IsCertain : PlainOwner → Type 0
IsCertain o = o.uncertain ≡ false

no_durations : (k : ℕ) (owners : List PlainOwner) → All IsCertain owners → IsVector (map (finer_owner k) owners) []
no_durations k [] h = refl
no_durations k (o ∷ os) h =
    let e : o.uncertain ≡ false = All-head IsCertain o os h in
    (λ u. absurd (true≢false (sym u ∙ e)), subst (IsVector (map (finer_owner k) os)) (sym (ap (λ b. cond b (drop 1 []) []) e)) (no_durations k os (All-tail IsCertain o os h)))

only_vector : (k : ℕ) (owners : List PlainOwner) (ds : List ℕ) → All IsCertain owners → IsVector (map (finer_owner k) owners) ds → ds ≡ []
only_vector k [] ds h v = v
only_vector k (o ∷ os) ds h v =
    let e : o.uncertain ≡ false = All-head IsCertain o os h in
    only_vector k os ds (All-tail IsCertain o os h) (subst (IsVector (map (finer_owner k) os)) (ap (λ b. cond b (drop 1 ds) ds) e) v.1)

pub certain_boxes_are_strong : CertainBoxesAreStrong
certain_boxes_are_strong box h =
    let same : (k : ℕ) → run_under (finer_box k box) [] ≡ finer k (run_under box []) = λ k. finer_boxes_make_finer_runs k box [] in (
      λ strong. (finer_runs_agree 1 (run_under box []) (omega arith)).1 (subst Executes (same 1) (strong 1 (omega arith) [] (no_durations 1 box.owners h))),
      λ x k l ds v. subst (λ es. Executes (run_under (finer_box k box) es)) (sym (only_vector k box.owners ds h v)) (subst Executes (sym (same k)) ((finer_runs_agree k (run_under box []) l).0 x)),
    )
