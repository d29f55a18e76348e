-- Boxes over another numbering of their atoms.
use Rattle.std.proofs.Common.{◌≡◌, ℕ, Bool, List, [], ◌∷◌, ◌++◌, map, Option, Some, None, option_map, refl, sym, ap, ap₂, ◌∙◌, subst, ◌↔◌}
use Rattle.std.proofs.lemmas.List.{map-append}
use Rattle.stp_cond.specs.Atoms.{PlainEvent}
use Rattle.stp_happen.specs.Plain.{PlainEntry, PlainSpan, PlainRun, Executes}
use Rattle.stp_happen.specs.Boxes.{PlainInside, PlainOwner, PlainBox, end_of, rest_of, event_entries, entries_of_owner, inside_spans, spans_of_owner, entries_under, spans_under, run_under, IsVector, finer_owner, finer_box}
use Rattle.stp_numbering.specs.Numbering.{renamed_test, renamed_event, renamed_entry, renamed_span, renamed_run, renamed_inside, renamed_owner, renamed_box, RenamedBoxesMakeRenamedRuns, StrengthIsFreeOfNumbering}
use Rattle.stp_numbering.proofs.Renaming.{numbering_is_free}

module _ (f : ℕ → ℕ) where
  -- ---- runs of boxes

  event_renamed : (number time : ℕ) (event : Option PlainEvent) → event_entries number time (option_map (renamed_event f) event) ≡ map (renamed_entry f) (event_entries number time event)
  event_renamed number time None = refl
  event_renamed number time (Some e) = refl

  inside_renamed : (number from to : ℕ) (inside : Option PlainInside) → inside_spans number from to (option_map (renamed_inside f) inside) ≡ map (renamed_span f) (inside_spans number from to inside)
  inside_renamed number from to None = refl
  inside_renamed number from to (Some i) = refl

  owner_renamed : (o : PlainOwner) (end : ℕ) → entries_of_owner (renamed_owner f o) end ≡ map (renamed_entry f) (entries_of_owner o end)
  owner_renamed o end =
      ap₂ (λ es os. es ++ os) (event_renamed o.number o.start o.first) (event_renamed o.number end o.last)
      ∙ sym (map-append (renamed_entry f) (event_entries o.number o.start o.first) (event_entries o.number end o.last))

  entries_renamed : (owners : List PlainOwner) (ds : List ℕ) → entries_under (map (renamed_owner f) owners) ds ≡ map (renamed_entry f) (entries_under owners ds)
  entries_renamed [] ds = refl
  entries_renamed (o ∷ os) ds =
      ap₂ (λ es fs. es ++ fs) (owner_renamed o (end_of o ds)) (entries_renamed os (rest_of o ds))
      ∙ sym (map-append (renamed_entry f) (entries_of_owner o (end_of o ds)) (entries_under os (rest_of o ds)))

  spans_renamed : (owners : List PlainOwner) (ds : List ℕ) → spans_under (map (renamed_owner f) owners) ds ≡ map (renamed_span f) (spans_under owners ds)
  spans_renamed [] ds = refl
  spans_renamed (o ∷ os) ds =
      ap₂ (λ es fs. es ++ fs) (inside_renamed o.number o.start (end_of o ds) o.inside) (spans_renamed os (rest_of o ds))
      ∙ sym (map-append (renamed_span f) (spans_of_owner o (end_of o ds)) (spans_under os (rest_of o ds)))

  -- ---- finer grids

  finer_renamed : (k : ℕ) (owners : List PlainOwner) → map (finer_owner k) (map (renamed_owner f) owners) ≡ map (renamed_owner f) (map (finer_owner k) owners)
  finer_renamed k [] = refl
  finer_renamed k (o ∷ os) = ap (λ l. renamed_owner f (finer_owner k o) ∷ l) (finer_renamed k os)

  vector_to : (k : ℕ) (owners : List PlainOwner) (ds : List ℕ) → IsVector (map (finer_owner k) (map (renamed_owner f) owners)) ds → IsVector (map (finer_owner k) owners) ds
  vector_to k [] ds v = v
  vector_to k (o ∷ os) ds v = (v.0, vector_to k os (rest_of (finer_owner k o) ds) v.1)

  vector_from : (k : ℕ) (owners : List PlainOwner) (ds : List ℕ) → IsVector (map (finer_owner k) owners) ds → IsVector (map (finer_owner k) (map (renamed_owner f) owners)) ds
  vector_from k [] ds v = v
  vector_from k (o ∷ os) ds v = (v.0, vector_from k os (rest_of (finer_owner k o) ds) v.1)

pub renamed_boxes_make_renamed_runs : RenamedBoxesMakeRenamedRuns
renamed_boxes_make_renamed_runs f initial box ds =
    let run : List PlainEntry → List PlainSpan → PlainRun = λ es os. record { entries = es; spans = os; initial = initial; goal = renamed_test f box.goal } in
    ap₂ run (entries_renamed f box.owners ds) (spans_renamed f box.owners ds)

finer_run_renamed : (f : ℕ → ℕ) (initial : ℕ → Bool) (k : ℕ) (box : PlainBox) (ds : List ℕ) → run_under (finer_box k (renamed_box f initial box)) ds ≡ renamed_run f initial (run_under (finer_box k box) ds)
finer_run_renamed f initial k box ds =
    let of : List PlainOwner → PlainBox = λ owners. record { owners = owners; initial = initial; goal = renamed_test f box.goal } in
    ap (λ owners. run_under (of owners) ds) (finer_renamed f k box.owners) ∙ renamed_boxes_make_renamed_runs f initial (finer_box k box) ds

pub strength_is_free_of_numbering : StrengthIsFreeOfNumbering
strength_is_free_of_numbering f initial box one agrees =
    let same : (k : ℕ) (ds : List ℕ) → Executes (run_under (finer_box k box) ds) ↔ Executes (renamed_run f initial (run_under (finer_box k box) ds)) = λ k ds. numbering_is_free f initial (run_under (finer_box k box) ds) one agrees in (
      λ strong k l ds v. subst Executes (sym (finer_run_renamed f initial k box ds)) ((same k ds).0 (strong k l ds (vector_to f k box.owners ds v))),
      λ strong k l ds v. (same k ds).1 (subst Executes (finer_run_renamed f initial k box ds) (strong k l ds (vector_from f k box.owners ds v))),
    )
