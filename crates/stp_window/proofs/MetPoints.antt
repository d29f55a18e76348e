-- Two points of a box that meet and interfere, by the places of their windows.
use Rattle.std.proofs.Common.{◌≡◌, ℕ, zero, suc, ◌+◌, ◌<◌, ◌≤◌, List, [], ◌∷◌, map, length, get_or, Contains, Option, Some, None, MatchOption, refl, ap, sym, ◌∙◌, subst, arith}
use Rattle.std.specs.Prelude.{slice_get, slice_index_or, option_map, option_and_then}
use Rattle.std.proofs.lemmas.List.{length-map}
use Rattle.std.proofs.lemmas.List.Elements.{Contains-append_left, Contains-append_right}
use Rattle.std.proofs.lemmas.Option.{slice_get-map, slice_get-get_or, slice_get_read}
use Rattle.stp_cond.specs.Atoms.{PlainEvent}
use Rattle.stp_happen.specs.declared.boxes.BoxRun.{BoxRun}
use Rattle.stp_happen.specs.Boxes.{PlainOwner}
use Rattle.stp_happen.specs.BoxViews.{plain_box}
use Rattle.stp_happen.specs.Owners.{PlainBoxStep, PlainBoxTimed, step_owner, step_owners, timed_owners, owners_of}
use Rattle.stp_happen.specs.StepViews.{steps_of, timed_of}
use Rattle.stp_happen.proofs.Members.{here, there, member_map}
use Rattle.stp_happen.proofs.OwnerLists.{in_timed}
use Rattle.stp_window.specs.declared.points.PointOf.{PointOf}
use Rattle.stp_window.specs.declared.points.PointOf.TheVariants.{First, Last, Timed}
use Rattle.stp_window.specs.declared.places.Places.{Places}
use Rattle.stp_window.specs.declared.windows.Window.{Window}
use Rattle.stp_window.specs.Boxed.{windows_in_run}
use Rattle.stp_window.specs.Met.{AreAtOdds, NoneMeeting}
use Rattle.stp_window.specs.OwnerWindows.{first_point, end_point, points_of_owners}
use Rattle.stp_window.specs.Points.{step_numbered, last_point, point_at, IsInWindow}
use Rattle.stp_window.specs.Sweep.{Clash, ClashAt, IsAt, NoneMeet}
use Rattle.stp_window.specs.Views.{point_of, points_of}
use Rattle.stp_window.specs.Windows.{Point}
use Rattle.stp_window.proofs.PlacedPoints.{owner_at}
use Rattle.stp_window.proofs.LastWay.{ordered}
use Rattle.stp_window.proofs.Proper.{first_there, last_there, windows_proper}
use Rattle.stp_window.proofs.Swept.{one_at}
use Rattle.stp_window.proofs.WellMade.{runs_are_well_made}

some_same : {X : Type 0} {x y : X} → Some x ≡ Some y → x ≡ y
some_same e = cc

some_is_not_none : {X : Type 0} (x : X) → Some x ≡ None → ⊥
some_is_not_none x e = cc

-- ---- each point that is there has a window

owner_numbered : (steps : List PlainBoxStep) (m k : ℕ) (s : PlainBoxStep) → slice_get steps k ≡ Some s → Contains (step_owners m steps) (step_owner (m + k) s)
owner_numbered [] m k s e = absurd (cc)
owner_numbered (x ∷ xs) m zero s e =
    let same : m ≡ m + 0 = omega arith in
    subst (Contains (step_owners m (x ∷ xs))) (ap (step_owner m) (some_same e) ∙ ap (λ n. step_owner n s) same) (here (step_owner m x) (step_owners (m + 1) xs))
owner_numbered (x ∷ xs) m (suc k) s e =
    let same : (m + 1) + k ≡ m + suc k = omega arith in
    subst (λ n. Contains (step_owners m (x ∷ xs)) (step_owner n s)) same (there (step_owner m x) (step_owners (m + 1) xs) (step_owner ((m + 1) + k) s) (owner_numbered xs (m + 1) k s e))

-- the owner of the step with a number
step_there : (steps : List PlainBoxStep) (timed : List PlainBoxTimed) (number : ℕ) (s : PlainBoxStep) → step_numbered steps number ≡ Some s → Contains (owners_of steps timed) (step_owner number s)
step_there steps timed zero s e = absurd (cc)
step_there steps timed (suc k) s e =
    let same : 1 + k ≡ suc k = omega arith in
    Contains-append_left (step_owners 1 steps) (timed_owners (length steps + 1) timed) (step_owner (suc k) s) (subst (λ n. Contains (step_owners 1 steps) (step_owner n s)) same (owner_numbered steps 1 k s e))

first_in : (owners : List PlainOwner) (number : ℕ) (found : Option PlainBoxStep) (p : Point) → ((s : PlainBoxStep) → found ≡ Some s → Contains owners (step_owner number s)) → option_map (λ s. first_point (step_owner number s)) found ≡ Some p →
    Contains (points_of_owners owners) p
first_in owners number None p within e = absurd (cc)
first_in owners number (Some s) p within e = subst (Contains (points_of_owners owners)) (some_same e) (first_there owners (step_owner number s) (within s refl) (some_is_not_none s.first))

last_in : (owners : List PlainOwner) (number : ℕ) (found : Option PlainBoxStep) (p : Point) → ((s : PlainBoxStep) → found ≡ Some s → Contains owners (step_owner number s)) → option_and_then (last_point number) found ≡ Some p →
    Contains (points_of_owners owners) p
last_in owners number None p within e = absurd (cc)
last_in owners number (Some s) p within e = with_last owners number s s.last refl p (within s refl) e
  where
    with_last : (owners : List PlainOwner) (number : ℕ) (s : PlainBoxStep) (last : Option PlainEvent) → s.last ≡ last → (p : Point) → Contains owners (step_owner number s) → option_map (λ event. end_point (step_owner number s)) last ≡ Some p → Contains (points_of_owners owners) p
    with_last owners number s None is p within e = absurd (cc)
    with_last owners number s (Some event) is p within e = subst (Contains (points_of_owners owners)) (some_same e) (last_there owners (step_owner number s) within (λ none. some_is_not_none event (sym is ∙ none)))

timed_in : (owners : List PlainOwner) (found : Option PlainOwner) (p : Point) → ((o : PlainOwner) → found ≡ Some o → Contains owners o × (o.last ≡ None → ⊥)) → option_map end_point found ≡ Some p → Contains (points_of_owners owners) p
timed_in owners None p within e = absurd (cc)
timed_in owners (Some o) p within e = let h = within o refl in subst (Contains (points_of_owners owners)) (some_same e) (last_there owners o h.0 h.1)

pub point_in : (steps : List PlainBoxStep) (timed : List PlainBoxTimed) (point : PointOf) (p : Point) → point_at steps timed point ≡ Some p → Contains (points_of_owners (owners_of steps timed)) p
point_in steps timed (First step) p e = first_in (owners_of steps timed) step.0 (step_numbered steps step.0) p (λ s h. step_there steps timed step.0 s h) e
point_in steps timed (Last step) p e = last_in (owners_of steps timed) step.0 (step_numbered steps step.0) p (λ s h. step_there steps timed step.0 s h) e
point_in steps timed (Timed place) p e =
    let events = timed_owners (length steps + 1) timed in
    timed_in (owners_of steps timed) (slice_get events place) p (λ o h.
    let i = owner_at events place o h in
    let r = in_timed (length steps + 1) timed o i in
    (Contains-append_right (step_owners 1 steps) events o i, λ none. some_is_not_none r.e.event (sym (ap (λ (x : PlainOwner). x.last) r.is) ∙ none))) e

-- where no windows meet and interfere, no points do
pub no_points_meet : (steps : List PlainBoxStep) (timed : List PlainBoxTimed) (points : List Point) → points ≡ points_of_owners (owners_of steps timed) → NoneMeet points → NoneMeeting steps timed
no_points_meet steps timed points all none one other p q odds moment =
    none p q (subst (λ ps. Contains ps p) (sym all) (point_in steps timed one p odds.one_there)) (subst (λ ps. Contains ps q) (sym all) (point_in steps timed other q odds.other_there)) (record {
      other = odds.different;
      meet = common p.low p.high q.low q.high moment.0 moment.1 moment.2;
      interfere = odds.interfere;
    })
  where
    common : (a b c d t : ℕ) → (a ≤ t) × (t ≤ b) → (c ≤ t) × (t ≤ d) → (a ≤ d) × (c ≤ b)
    common a b c d t i j = (omega arith, omega arith)

-- ---- the windows at two places

-- the points in the order of the windows
named_at : (name : PointOf → Option Point) (points : List PointOf) (windows : List Window) (i : ℕ) (d : PointOf) (w : Window) → map name points ≡ map Some (points_of windows) → IsAt windows i w → name (slice_index_or points i d) ≡ Some (point_of w)
named_at name points windows i d w names at =
    let n : length points ≡ length windows = sym (length-map points name) ∙ (ap length names ∙ (length-map (points_of windows) Some ∙ length-map windows point_of)) in
    let l : i < length points = let k : i < length windows = at.0 in omega arith in
    some_same
    (ap (option_map name) (sym (slice_get-get_or points i d l))
    ∙ (sym (slice_get-map name points i)
    ∙ (ap (λ xs. slice_get xs i) names
    ∙ (slice_get-map Some (points_of windows) i
    ∙ ap (option_map Some) (slice_get-map point_of windows i ∙ ap (option_map point_of) (slice_get_read windows (length windows) i w refl at.0 (sym at.1)))))))

pub within_points : (name : PointOf → Option Point) (points : List PointOf) (windows : List Window) (i : ℕ) (w : Window) → map name points ≡ map Some (points_of windows) → IsAt windows i w → i < length points
within_points name points windows i w names at =
    let n : length points ≡ length windows = sym (length-map points name) ∙ (ap length names ∙ (length-map (points_of windows) Some ∙ length-map windows point_of)) in
    let k : i < length windows = at.0 in
    omega arith

-- the points at these places meet, at the latest from the later of their beginnings on
pub points_meet : (steps : List PlainBoxStep) (timed : List PlainBoxTimed) (points : List PointOf) (windows : List Window) (i j : ℕ) (d e : PointOf) (v w : Window) (t : ℕ) →
    map (point_at steps timed) points ≡ map Some (points_of windows) → IsAt windows i v → IsAt windows j w → Clash (point_of v) (point_of w) →
    (v.low ≤ t) × (w.low ≤ t) → ((u : ℕ) → v.low ≤ u → w.low ≤ u → t ≤ u) → v.low ≤ v.high → w.low ≤ w.high →
    (p : Point) × (q : Point) × AreAtOdds steps timed (slice_index_or points i d) (slice_index_or points j e) p q × IsInWindow t p × IsInWindow t q
points_meet steps timed points windows i j d e v w t names at other clash within least up too = (
  point_of v,
  point_of w,
  record {
    one_there = named_at (point_at steps timed) points windows i d v names at;
    other_there = named_at (point_at steps timed) points windows j e w names other;
    different = clash.other;
    interfere = clash.interfere;
  },
  (within.0, least v.high up (clash.meet.1)),
  (within.1, least w.high (clash.meet.0) too),
)

-- ---- of a box

-- the windows of a box go up
goes_up : (boxed : BoxRun) (windows : List Window) (i : ℕ) (w : Window) → points_of windows ≡ points_of_owners (plain_box boxed).owners → IsAt windows i w → w.low ≤ w.high
goes_up boxed windows i w all at =
    ordered (windows_in_run boxed) (windows_proper (plain_box boxed) (runs_are_well_made boxed)) (point_of w) (subst (λ ps. Contains ps (point_of w)) all (member_map point_of windows w (i, at.0, at.1)))

pub none_in_box : (boxed : BoxRun) (windows : List Window) (found : Option Places) → points_of windows ≡ points_of_owners (plain_box boxed).owners → found ≡ None →
    MatchOption found (NoneMeet (points_of windows)) (λ m. ClashAt windows m.one m.other) → NoneMeeting (steps_of boxed.steps) (timed_of boxed.timed)
none_in_box boxed windows found all is h = no_points_meet (steps_of boxed.steps) (timed_of boxed.timed) (points_of windows) all (subst (λ (r : Option Places). MatchOption r (NoneMeet (points_of windows)) (λ m. ClashAt windows m.one m.other)) is h)

pub meeting_in_box : (boxed : BoxRun) (windows : List Window) (points first second : List PointOf) (found : Option Places) (m : Places) (d e : PointOf) (a b : Window) (t : ℕ) → points_of windows ≡ points_of_owners (plain_box boxed).owners →
    map (point_at (steps_of boxed.steps) (timed_of boxed.timed)) points ≡ map Some (points_of_owners (plain_box boxed).owners) → first ≡ points → second ≡ points → found ≡ Some m →
    MatchOption found (NoneMeet (points_of windows)) (λ k. ClashAt windows k.one k.other) → a ≡ get_or windows m.one a → b ≡ get_or windows m.other b → (a.low ≤ t) × (b.low ≤ t) → ((u : ℕ) → a.low ≤ u → b.low ≤ u → t ≤ u) →
    (p : Point) × (q : Point) × AreAtOdds (steps_of boxed.steps) (timed_of boxed.timed) (slice_index_or first m.one d) (slice_index_or second m.other e) p q × IsInWindow t p × IsInWindow t q
meeting_in_box boxed windows points first second found m d e a b t all names f g is h one other within least =
    let clash : ClashAt windows m.one m.other = subst (λ (r : Option Places). MatchOption r (NoneMeet (points_of windows)) (λ k. ClashAt windows k.one k.other)) is h in
    let v = clash.0 in
    let w = clash.2.0 in
    let at : IsAt windows m.one v = clash.1 in
    let too : IsAt windows m.other w = clash.2.1 in
    let x : a ≡ v = one_at windows m.one a v (at.0, sym one) at in
    let y : b ≡ w = one_at windows m.other b w (too.0, sym other) too in
    let together : (v.low ≤ t) × (w.low ≤ t) = subst (λ (c : Window). (c.low ≤ t) × (w.low ≤ t)) x (subst (λ (c : Window). (a.low ≤ t) × (c.low ≤ t)) y within) in
    let earliest : (u : ℕ) → v.low ≤ u → w.low ≤ u → t ≤ u = subst (λ (c : Window). (u : ℕ) → c.low ≤ u → w.low ≤ u → t ≤ u) x (subst (λ (c : Window). (u : ℕ) → a.low ≤ u → c.low ≤ u → t ≤ u) y least) in
    subst (λ xs. (p : Point) × (q : Point) × AreAtOdds (steps_of boxed.steps) (timed_of boxed.timed) (slice_index_or xs m.one d) (slice_index_or second m.other e) p q × IsInWindow t p × IsInWindow t q) (sym f)
    (subst (λ xs. (p : Point) × (q : Point) × AreAtOdds (steps_of boxed.steps) (timed_of boxed.timed) (slice_index_or points m.one d) (slice_index_or xs m.other e) p q × IsInWindow t p × IsInWindow t q) (sym g)
    (points_meet (steps_of boxed.steps) (timed_of boxed.timed) points windows m.one m.other d e v w t (names ∙ ap (map Some) (sym all)) at too clash.2.2 together earliest (goes_up boxed windows m.one v all at) (goes_up boxed windows m.other w all too)))
