-- A box is strong where one with wider windows is.
use Rattle.std.proofs.Common.{◌≡◌, ℕ, ◌+◌, ◌*◌, ◌≤◌, Bool, true, false, cond, List, [], ◌∷◌, ◌++◌, map, drop, slice_index, refl, ap, ap₂, sym, ◌∙◌, subst, arith}
use Rattle.stp_happen.specs.Plain.{PlainEntry, PlainSpan, PlainRun, Executes}
use Rattle.stp_happen.specs.Boxes.{PlainBox, end_of, rest_of, run_under, IsInInterval, IsVector, finer_box, PlainOwner, entries_of_owner, spans_of_owner, entries_under, spans_under, finer_owner}
use Rattle.stp_strength.proofs.Strong.{times_up}
use Rattle.stp_strength.specs.Narrower.{IsNarrowed, AreNarrowed, IsNarrowedBox, NarrowerBoxesAreStrong}

-- what a wide step is, by the narrow one
kind_same : (s wide : PlainOwner) → IsNarrowed s wide → wide.uncertain ≡ s.uncertain
kind_same s wide n = ap (λ (x : PlainOwner). x.uncertain) n.rest

start_same : (s wide : PlainOwner) → IsNarrowed s wide → wide.start ≡ s.start
start_same s wide n = ap (λ (x : PlainOwner). x.start) n.rest

end_same : (s wide : PlainOwner) → IsNarrowed s wide → (ds : List ℕ) → end_of s ds ≡ end_of wide ds
end_same s wide n ds =
    ap (λ u. cond u (s.start + slice_index ds 0) s.high) (sym (kind_same s wide n))
    ∙ by_kind s wide ds n wide.uncertain refl
  where
    by_kind : (s wide : PlainOwner) (ds : List ℕ) → IsNarrowed s wide → (u : Bool) → wide.uncertain ≡ u → cond wide.uncertain (s.start + slice_index ds 0) s.high ≡ end_of wide ds
    by_kind s wide ds n true e = rw e (ap (λ t. t + slice_index ds 0) (sym (start_same s wide n)))
    by_kind s wide ds n false e = rw e (n.certain e)

rest_same : (s wide : PlainOwner) → IsNarrowed s wide → (ds : List ℕ) → rest_of s ds ≡ rest_of wide ds
rest_same s wide n ds = ap (λ u. cond u (drop 1 ds) ds) (sym (kind_same s wide n))

entries_of_same : (o wide : PlainOwner) → IsNarrowed o wide → (end : ℕ) → entries_of_owner o end ≡ entries_of_owner wide end
entries_of_same o wide n end = sym (ap (λ x. entries_of_owner x end) n.rest)

spans_of_same : (o wide : PlainOwner) → IsNarrowed o wide → (end : ℕ) → spans_of_owner o end ≡ spans_of_owner wide end
spans_of_same o wide n end = sym (ap (λ x. spans_of_owner x end) n.rest)

entries_same : (owners wides : List PlainOwner) → AreNarrowed owners wides → (ds : List ℕ) → entries_under owners ds ≡ entries_under wides ds
entries_same [] wides n ds = ap (λ ws. entries_under ws ds) (sym n)
entries_same (o ∷ os) [] n ds = absurd n
entries_same (o ∷ os) (w ∷ ws) n ds =
    ap₂ (λ es fs. es ++ fs)
    (entries_of_same o w n.0 (end_of o ds) ∙ ap (entries_of_owner w) (end_same o w n.0 ds))
    (ap (entries_under os) (rest_same o w n.0 ds) ∙ entries_same os ws n.1 (rest_of w ds))

spans_same : (owners wides : List PlainOwner) → AreNarrowed owners wides → (ds : List ℕ) → spans_under owners ds ≡ spans_under wides ds
spans_same [] wides n ds = ap (λ ws. spans_under ws ds) (sym n)
spans_same (o ∷ os) [] n ds = absurd n
spans_same (o ∷ os) (w ∷ ws) n ds =
    ap₂ (λ es fs. es ++ fs)
    (spans_of_same o w n.0 (end_of o ds) ∙ ap (spans_of_owner w) (end_same o w n.0 ds))
    (ap (spans_under os) (rest_same o w n.0 ds) ∙ spans_same os ws n.1 (rest_of w ds))

within_wide : (s wide : PlainOwner) → IsNarrowed s wide → (ds : List ℕ) → IsInInterval s ds → IsInInterval wide ds
within_wide s wide n ds w u =
    let r = w (sym (kind_same s wide n) ∙ u) in
    let e : wide.start ≡ s.start = start_same s wide n in
    let low : wide.low ≤ s.low = n.low in
    let high : s.high ≤ wide.high = n.high in
    let down : s.low ≤ s.start + slice_index ds 0 = r.1 in
    let up : s.start + slice_index ds 0 ≤ s.high = r.2 in
    (r.0, omega arith, omega arith)

pub vector_wide : (owners wides : List PlainOwner) → AreNarrowed owners wides → (ds : List ℕ) → IsVector owners ds → IsVector wides ds
vector_wide [] wides n ds v = subst (λ ws. IsVector ws ds) (sym n) v
vector_wide (s ∷ ss) [] n ds v = absurd n
vector_wide (s ∷ ss) (w ∷ ws) n ds v = (within_wide s w n.0 ds v.0, subst (IsVector ws) (rest_same s w n.0 ds) (vector_wide ss ws n.1 (rest_of s ds) v.1))

pub run_same : (box wide : PlainBox) → IsNarrowedBox box wide → (ds : List ℕ) → run_under box ds ≡ run_under wide ds
run_same box wide n ds =
    let run : List PlainEntry → List PlainSpan → (ℕ → Bool) → ((ℕ → Bool) → Bool) → PlainRun = λ es os i g. record { entries = es; spans = os; initial = i; goal = g } in
    ap₂ (λ es os. run es os box.initial box.goal) (entries_same box.owners wide.owners n.owners ds) (spans_same box.owners wide.owners n.owners ds)
    ∙ ap₂ (λ i g. run (entries_under wide.owners ds) (spans_under wide.owners ds) i g) n.initial n.goal

finer_narrowed : (k : ℕ) (s wide : PlainOwner) → IsNarrowed s wide → IsNarrowed (finer_owner k s) (finer_owner k wide)
finer_narrowed k s wide n = record {
  low = times_up k wide.low s.low n.low;
  high = times_up k s.high wide.high n.high;
  certain = λ u. ap (λ t. k * t) (n.certain u);
  rest = ap (finer_owner k) n.rest;
}

all_finer : (k : ℕ) (owners wides : List PlainOwner) → AreNarrowed owners wides → AreNarrowed (map (finer_owner k) owners) (map (finer_owner k) wides)
all_finer k [] wides n = ap (map (finer_owner k)) n
all_finer k (s ∷ ss) [] n = absurd n
all_finer k (s ∷ ss) (w ∷ ws) n = (finer_narrowed k s w n.0, all_finer k ss ws n.1)

pub narrower_boxes_are_strong : NarrowerBoxesAreStrong
narrower_boxes_are_strong box wide n strong k h ds v =
    let finer : IsNarrowedBox (finer_box k box) (finer_box k wide) = record { owners = all_finer k box.owners wide.owners n.owners; initial = n.initial; goal = n.goal } in
    subst Executes (sym (run_same (finer_box k box) (finer_box k wide) finer ds)) (strong k h ds (vector_wide (map (finer_owner k) box.owners) (map (finer_owner k) wide.owners) finer.owners ds v))
