-- The points of steps and of events of the environment, in the order of the windows.
use Rattle.std.proofs.Common.{◌≡◌, ℕ, zero, suc, ◌+◌, ◌<◌, ◌≤◌, List, [], ◌∷◌, ◌++◌, map, drop, length, get_or, Option, Some, refl, ap, sym, ◌∙◌, subst, arith, append_assoc}
use Rattle.std.specs.Prelude.{slice_get, option_map}
use Rattle.std.proofs.lemmas.List.{map-append, append-nil, drop_all, length-map}
use Rattle.std.proofs.lemmas.Option.{slice_get-map, slice_get_read}
use Rattle.stp_happen.specs.declared.boxes.BoxStep.{BoxStep}
use Rattle.stp_happen.specs.declared.boxes.BoxTimed.{BoxTimed}
use Rattle.stp_happen.specs.Boxes.{PlainOwner}
use Rattle.stp_happen.specs.Owners.{PlainBoxStep, PlainBoxTimed, step_owner, step_owners, timed_owner, timed_owners, number_after, owners_of}
use Rattle.stp_happen.specs.StepViews.{step_of, steps_of, plain_timed, timed_of}
use Rattle.stp_happen.proofs.Refining.{item_here}
use Rattle.stp_window.specs.Windows.{Point}
use Rattle.stp_window.specs.OwnerWindows.{end_point, points_of_owner, points_of_owners}
use Rattle.stp_window.specs.declared.points.PointOf.{PointOf}
use Rattle.stp_window.specs.declared.points.PointOf.TheVariants.{Timed}
use Rattle.stp_window.specs.Points.{step_numbered, point_at}
use Rattle.stp_window.proofs.Later.{points_append}

-- ---- steps

-- the step at a place has the next number
pub step_at : (steps : List BoxStep) (i : ℕ) (s : BoxStep) → i < length steps → s ≡ get_or steps i s → step_numbered (steps_of steps) (i + 1) ≡ Some (step_of s)
step_at steps i s l is =
    let next : i + 1 ≡ suc i = omega arith in
    ap (step_numbered (steps_of steps)) next ∙ (slice_get-map step_of steps i ∙ ap (option_map step_of) (slice_get_read steps (length steps) i s refl l is))

-- one more step
pub steps_more : (timed : List PlainBoxTimed) (steps : List BoxStep) (i : ℕ) (s : BoxStep) → i < length steps → s ≡ get_or steps i s → (number : ℕ) (done new : List PointOf) (whole : List (Option Point)) →
    map (point_at (steps_of steps) timed) new ≡ map (point_at (steps_of steps) timed) done ++ map Some (points_of_owner (step_owner number (step_of s))) →
    map (point_at (steps_of steps) timed) done ++ map Some (points_of_owners (step_owners number (steps_of (drop i steps)))) ≡ whole →
    map (point_at (steps_of steps) timed) new ++ map Some (points_of_owners (step_owners (number + 1) (steps_of (drop (i + 1) steps)))) ≡ whole
steps_more timed steps i s l is number done new whole more all =
    let so_far = map (point_at (steps_of steps) timed) done in
    let here = points_of_owner (step_owner number (step_of s)) in
    let rest = points_of_owners (step_owners (number + 1) (steps_of (drop (i + 1) steps))) in
    ap (λ ps. ps ++ map Some rest) more
    ∙ (append_assoc so_far (map Some here) (map Some rest)
    ∙ (ap (λ ps. so_far ++ ps) (sym (map-append Some here rest)) ∙ (ap (λ ss. so_far ++ map Some (points_of_owners (step_owners number ss))) (sym (item_here step_of steps i s l is)) ∙ all)))

-- in the end all steps are there
pub steps_all : (timed : List PlainBoxTimed) (steps : List BoxStep) (i : ℕ) → length steps ≤ i → (number : ℕ) (done : List PointOf) (whole : List (Option Point)) →
    map (point_at (steps_of steps) timed) done ++ map Some (points_of_owners (step_owners number (steps_of (drop i steps)))) ≡ whole → map (point_at (steps_of steps) timed) done ≡ whole
steps_all timed steps i l number done whole all =
    let so_far = map (point_at (steps_of steps) timed) done in
    sym (append-nil so_far) ∙ (ap (λ ss. so_far ++ map Some (points_of_owners (step_owners number (steps_of ss)))) (sym (drop_all i steps l)) ∙ all)

-- ---- events

abbrev pub timed_points : ℕ → List PlainBoxTimed → List (Option Point)
timed_points number timed = map (λ o. Some (end_point o)) (timed_owners number timed)

pub points_of_timed : (number : ℕ) (timed : List PlainBoxTimed) → map Some (points_of_owners (timed_owners number timed)) ≡ timed_points number timed
points_of_timed number [] = refl
points_of_timed number (e ∷ es) = ap (λ ps. Some (end_point (timed_owner number e)) ∷ ps) (points_of_timed (number_after number e) es)

pub length_of_timed : (number : ℕ) (timed : List PlainBoxTimed) → length (timed_owners number timed) ≡ length timed
length_of_timed number [] = refl
length_of_timed number (e ∷ es) = ap suc (length_of_timed (number_after number e) es)

owner_there : (owners : List PlainOwner) (place : ℕ) → place < length owners →
    drop place (map (λ o. Some (end_point o)) owners) ≡ option_map end_point (slice_get owners place) ∷ drop (place + 1) (map (λ o. Some (end_point o)) owners)
owner_there [] place l = absurd (omega arith)
owner_there (o ∷ os) zero l = refl
owner_there (o ∷ os) (suc k) l =
    let next : suc (k + 1) ≡ suc k + 1 = omega arith in
    owner_there os k (omega arith) ∙ ap (λ n. option_map end_point (slice_get os k) ∷ drop n (map (λ x. Some (end_point x)) (o ∷ os))) next

-- one more event
pub events_more : (steps : List PlainBoxStep) (timed : List BoxTimed) (place : ℕ) → place < length timed → (done new : List PointOf) (whole : List (Option Point)) →
    new ≡ done ++ Timed place ∷ [] →
    map (point_at steps (timed_of timed)) done ++ drop place (timed_points (length steps + 1) (timed_of timed)) ≡ whole →
    map (point_at steps (timed_of timed)) new ++ drop (place + 1) (timed_points (length steps + 1) (timed_of timed)) ≡ whole
events_more steps timed place l done new whole more all =
    let name = point_at steps (timed_of timed) in
    let points = timed_points (length steps + 1) (timed_of timed) in
    let within : place < length (timed_owners (length steps + 1) (timed_of timed)) = let n : length (timed_owners (length steps + 1) (timed_of timed)) ≡ length timed = length_of_timed (length steps + 1) (timed_of timed) ∙ length-map timed plain_timed in omega arith in
    ap (λ ps. map name ps ++ drop (place + 1) points) more
    ∙ (ap (λ ps. ps ++ drop (place + 1) points) (map-append name done (Timed place ∷ []))
    ∙ (append_assoc (map name done) (name (Timed place) ∷ []) (drop (place + 1) points)
    ∙ (ap (λ ps. map name done ++ ps) (sym (owner_there (timed_owners (length steps + 1) (timed_of timed)) place within)) ∙ all)))

-- in the end all events are there
pub events_all : (steps : List PlainBoxStep) (timed : List BoxTimed) (place : ℕ) → length timed ≤ place → (done : List PointOf) (whole : List (Option Point)) →
    map (point_at steps (timed_of timed)) done ++ drop place (timed_points (length steps + 1) (timed_of timed)) ≡ whole → map (point_at steps (timed_of timed)) done ≡ whole
events_all steps timed place l done whole all =
    let owners = timed_owners (length steps + 1) (timed_of timed) in
    let few : length (map (λ o. Some (end_point o)) owners) ≤ place = let n : length (map (λ o. Some (end_point o)) owners) ≡ length timed = length-map owners (λ o. Some (end_point o)) ∙ (length_of_timed (length steps + 1) (timed_of timed) ∙ length-map timed plain_timed) in omega arith in
    sym (append-nil (map (point_at steps (timed_of timed)) done)) ∙ (ap (λ ps. map (point_at steps (timed_of timed)) done ++ ps) (sym (drop_all place (map (λ o. Some (end_point o)) owners) few)) ∙ all)

-- ---- both

-- the points of a box are those of its steps and then of its events
pub points_of_both : (steps : List PlainBoxStep) (timed : List PlainBoxTimed) → map Some (points_of_owners (owners_of steps timed)) ≡ map Some (points_of_owners (step_owners 1 steps)) ++ map Some (points_of_owners (timed_owners (length steps + 1) timed))
points_of_both steps timed =
    ap (map Some) (points_append (step_owners 1 steps) (timed_owners (length steps + 1) timed)) ∙ map-append Some (points_of_owners (step_owners 1 steps)) (points_of_owners (timed_owners (length steps + 1) timed))

-- the names of the points of steps, and then of events
pub all_named : (steps read : List BoxStep) (timed seen : List BoxTimed) (none first all : List PointOf) → read ≡ steps → seen ≡ timed → none ≡ [] →
    map (point_at (steps_of read) (timed_of timed)) first ≡ map (point_at (steps_of read) (timed_of timed)) none ++ map Some (points_of_owners (step_owners 1 (steps_of read))) →
    map (point_at (steps_of steps) (timed_of seen)) all ≡ map (point_at (steps_of steps) (timed_of seen)) first ++ map Some (points_of_owners (timed_owners (length (steps_of steps) + 1) (timed_of seen))) →
    map (point_at (steps_of steps) (timed_of timed)) all ≡ map Some (points_of_owners (owners_of (steps_of steps) (timed_of timed)))
all_named steps read timed seen none first all e f g named more =
    let rest = map Some (points_of_owners (timed_owners (length (steps_of steps) + 1) (timed_of timed))) in
    let so_far : map (point_at (steps_of steps) (timed_of timed)) first ≡ map Some (points_of_owners (step_owners 1 (steps_of steps))) =
    subst (λ ss. map (point_at (steps_of ss) (timed_of timed)) first ≡ map Some (points_of_owners (step_owners 1 (steps_of ss)))) e
    (named ∙ ap (λ ps. map (point_at (steps_of read) (timed_of timed)) ps ++ map Some (points_of_owners (step_owners 1 (steps_of read)))) g) in
    subst (λ es. map (point_at (steps_of steps) (timed_of es)) all ≡ map (point_at (steps_of steps) (timed_of es)) first ++ map Some (points_of_owners (timed_owners (length (steps_of steps) + 1) (timed_of es)))) f more
    ∙ (ap (λ ps. ps ++ rest) so_far ∙ sym (points_of_both (steps_of steps) (timed_of timed)))
