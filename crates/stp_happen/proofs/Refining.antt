-- Steps and events on a grid that is so many times as fine keep what steps and events keep.
use Rattle.std.proofs.Common.{◌≡◌, ℕ, ◌+◌, ◌*◌, ◌^◌, ◌<◌, ◌≤◌, nat_lt, Bool, true, not, ◌&&◌, ◌||◌, List, [], ◌∷◌, ◌++◌, map, drop, filter, length, get_or, All, Option, Some, None, IfSome, inl, inr, refl, ap, ap₂, sym, ◌∙◌, subst, arith, append_assoc, mul-pos}
use Rattle.std.proofs.lemmas.Bool.{cases_lt, lt-ltb, ltb-true}
use Rattle.std.proofs.lemmas.List.{at_drop_more, length-map}
use Rattle.std.proofs.Math.Logic.{∥∥₁_elim}
use Rattle.std.proofs.Math.Path.{fun_ext}
use Rattle.std.proofs.Props.{props}
use Rattle.stp_base.specs.declared.limits.TheConstants.{MAX_EVENTS, MAX_MOMENT, MAX_TIMED}
use Rattle.stp_cond.specs.declared.cond.Cond.{Cond}
use Rattle.stp_cond.specs.declared.event.Event.{Event}
use Rattle.stp_happen.specs.declared.boxes.BoxRun.{BoxRun}
use Rattle.stp_happen.specs.declared.boxes.BoxStep.{BoxStep}
use Rattle.stp_happen.specs.declared.boxes.BoxTimed.{BoxTimed}
use Rattle.stp_happen.specs.Sound.{is_ascending}
use Rattle.stp_happen.specs.SoundBox.{IsBox, IsBoxStep, IsBoxTimed}
use Rattle.stp_happen.specs.Boxes.{PlainOwner, PlainBox, finer_box}
use Rattle.stp_happen.specs.Owners.{PlainBoxStep, PlainBoxTimed, owners_of, finer_step, finer_timed, timed_before}
use Rattle.stp_happen.specs.StepViews.{step_of, plain_timed, timed_of}
use Rattle.stp_happen.proofs.Members.{same_tests, kept_alike}
use Rattle.stp_happen.proofs.Ascending.{ascending_map}
use Rattle.stp_happen.proofs.OwnerLists.{owners_are_finer}

times_below : (k a b : ℕ) → 0 < k → a < b → k * a < k * b
times_below k a b h l = grind arith

times_up : (k a b : ℕ) → a ≤ b → k * a ≤ k * b
times_up k a b l = grind arith

-- a bound of so many units is kept on the finer grid
times_last : (units k a grid : ℕ) → a ≤ units * grid → k * a ≤ units * (grid * k)
times_last units k a grid l = let e = times_up k a (units * grid) l in grind arith

lasting_refined : (last : Option Event) (k a b : ℕ) → 0 < k → IfSome last (λ e. a < b) → IfSome last (λ e. k * a < k * b)
lasting_refined None k a b h l = l
lasting_refined (Some e) k a b h l = times_below k a b h l

abbrev pub refined : ℕ → BoxStep → BoxStep
refined k s = record s { start = k * s.start; low = k * s.low; high = k * s.high }

pub refined_in_range : (grid n k : ℕ) (s : BoxStep) → 0 < k → IsBoxStep grid n s → IsBoxStep (grid * k) n (refined k s)
refined_in_range grid n k s h b = record {
  up = times_up k s.low s.high b.up;
  high = times_last 999999999 k s.high grid b.high;
  certain = λ u. ap (λ t. k * t) (b.certain u);
  lasting = lasting_refined s.last k s.start s.low h b.lasting;
  instant = λ u. let r = b.instant u in (ap (λ t. k * t) r.0, r.1);
  first_in_range = b.first_in_range;
  last_in_range = b.last_in_range;
  over_in_range = b.over_in_range;
}

abbrev pub refined_timed : ℕ → BoxTimed → BoxTimed
refined_timed k e = record e { low = k * e.low; high = k * e.high }

pub timed_in_range : (grid n k : ℕ) (e : BoxTimed) → 0 < k → IsBoxTimed grid n e → IsBoxTimed (grid * k) n (refined_timed k e)
timed_in_range grid n k e h b = record {
  up = times_up k e.low e.high b.up;
  high = times_last MAX_MOMENT k e.high grid b.high;
  certain = λ u. ap (λ t. k * t) (b.certain u);
  event_in_range = b.event_in_range;
}

-- the moments of a box's events fit into 64 bits
pub small_events : (boxed : BoxRun) (read : List BoxTimed) → read ≡ boxed.timed → All (λ e. (e.low < 2 ^ 64) × (e.high < 2 ^ 64)) read
small_events boxed read e = ∥∥₁_elim boxed.sound (Prim.hlevel props) (λ b. subst (All (λ e. (e.low < 2 ^ 64) × (e.high < 2 ^ 64))) (sym e) (λ k d h.
    let t = b.timed_in_range k d h in
    let grid : boxed.grid ≤ 999999999 = b.grid_high in
    let high : (get_or boxed.timed k d).high ≤ MAX_MOMENT * boxed.grid = t.high in
    let up : (get_or boxed.timed k d).low ≤ (get_or boxed.timed k d).high = t.up in
    (omega arith, omega arith)))

-- ---- one more item of a list

pub item_here : {X Y : Type 0} (view : X → Y) (xs : List X) (i : ℕ) (x : X) → i < length xs → x ≡ get_or xs i x → map view (drop i xs) ≡ view x ∷ map view (drop (i + 1) xs)
item_here view xs i x l e = at_drop_more (map view) xs i x l ∙ ap (λ t. view t ∷ map view (drop (i + 1) xs)) (sym e)

pub mapped_more : {X Y Z : Type 0} (view : X → Y) (f : Y → Z) (xs : List X) (i : ℕ) (x : X) → i < length xs → x ≡ get_or xs i x → (done new whole : List Z) →
    new ≡ done ++ f (view x) ∷ [] → done ++ map f (map view (drop i xs)) ≡ whole → new ++ map f (map view (drop (i + 1) xs)) ≡ whole
mapped_more view f xs i x l e done new whole more all =
    ap (λ os. os ++ map f (map view (drop (i + 1) xs))) more
    ∙ (append_assoc done (f (view x) ∷ []) (map f (map view (drop (i + 1) xs)))
    ∙ (ap (λ ys. done ++ map f ys) (sym (item_here view xs i x l e)) ∙ all))

-- ---- the whole box

same_length : {X Y : Type 0} (view : X → Y) (f : Y → Y) (xs news : List X) → map view news ≡ map f (map view xs) → length news ≡ length xs
same_length view f xs news e = sym (length-map news view) ∙ (ap length e ∙ (length-map (map view xs) f ∙ length-map xs view))

-- the order of events is the same on the finer grid
still_before : (k : ℕ) → 0 < k → (e f : PlainBoxTimed) → timed_before (finer_timed k e) (finer_timed k f) ≡ timed_before e f
still_before k h e f = ap (λ b. f.uncertain || (not e.uncertain && b)) (same_tests (nat_lt (k * e.high) (k * f.high)) (nat_lt e.high f.high) (down k e.high f.high) (up k e.high f.high h))
  where
    up : (k a b : ℕ) → 0 < k → nat_lt a b ≡ true → nat_lt (k * a) (k * b) ≡ true
    up k a b h l = let less : k * a < k * b = times_below k a b h (ltb-true a b l) in lt-ltb (k * a) (k * b) less

    down : (k a b : ℕ) → nat_lt (k * a) (k * b) ≡ true → nat_lt a b ≡ true
    down k a b l = elim (cases_lt a b) [
      | inl less ↦ lt-ltb a b less
      | inr more ↦ absurd (let i : k * b ≤ k * a = times_up k b a more in let j : k * a < k * b = ltb-true (k * a) (k * b) l in omega arith)
    ]

still_ordered : (k : ℕ) → 0 < k → (timed : List PlainBoxTimed) → is_ascending timed_before timed ≡ true → is_ascending timed_before (map (finer_timed k) timed) ≡ true
still_ordered k h timed up = ascending_map timed_before (finer_timed k) timed ∙ (ap (λ before. is_ascending before timed) (fun_ext (λ e. fun_ext (λ f. still_before k h e f))) ∙ up)

-- of the finer events as many pass a test that does not see moments
as_many : (k : ℕ) (q : PlainBoxTimed → Bool) → ((e : PlainBoxTimed) → q (finer_timed k e) ≡ q e) → (timed events : List PlainBoxTimed) → events ≡ map (finer_timed k) timed → length (filter q events) ≡ length (filter q timed)
as_many k q same timed events e = ap (λ es. length (filter q es)) e ∙ (ap length (kept_alike (finer_timed k) q q timed (λ x i. same x)) ∙ length-map (filter q timed) (finer_timed k))

-- what a refined list is, and what its items keep
pub record IsRefined {X Y : Type 0} (view : X → Y) (f : Y → Y) (IsIn : ℕ → ℕ → X → Type 0) (grid k : ℕ) (xs news : List X) : Type 0 where
  pub same : map view news ≡ map f (map view xs)
  pub keeps : (n : ℕ) → All (IsIn grid n) xs → All (IsIn (grid * k) n) news

pub refined_box : (grid k : ℕ) (steps news : List BoxStep) (timed events : List BoxTimed) (initial row : List Bool) (goal : Cond) → 1 ≤ k → grid * k ≤ 999999999 → IsBox grid steps timed initial goal →
    IsRefined step_of (finer_step k) IsBoxStep grid k steps news → IsRefined plain_timed (finer_timed k) IsBoxTimed grid k timed events → row ≡ initial → IsBox (grid * k) news events row goal
refined_box grid k steps news timed events initial row goal low high b same same_timed e = subst (λ r. IsBox (grid * k) news events r goal) (sym e) (record {
  grid_low = let l : 1 ≤ grid = b.grid_low in mul-pos l low;
  grid_high = high;
  few = let l : length steps ≤ 500 = b.few in omega (arith, same_length step_of (finer_step k) steps news same.same);
  few_fixed = let l : length (filter (λ (e : PlainBoxTimed). not e.uncertain) (timed_of timed)) ≤ MAX_TIMED = b.few_fixed in omega (arith, as_many k (λ e. not e.uncertain) (λ e. refl) (timed_of timed) (timed_of events) same_timed.same);
  few_chosen = let l : length (filter (λ (e : PlainBoxTimed). e.uncertain) (timed_of timed)) ≤ MAX_EVENTS = b.few_chosen in omega (arith, as_many k (λ e. e.uncertain) (λ e. refl) (timed_of timed) (timed_of events) same_timed.same);
  steps_in_range = same.keeps (length initial) b.steps_in_range;
  timed_in_range = same_timed.keeps (length initial) b.timed_in_range;
  timed_ordered = ap (is_ascending timed_before) same_timed.same ∙ still_ordered k low (timed_of timed) b.timed_ordered;
  goal_in_range = b.goal_in_range;
})

abbrev box_with : List PlainBoxStep → List PlainBoxTimed → (ℕ → Bool) → ((ℕ → Bool) → Bool) → PlainBox
box_with steps timed initial goal = record { owners = owners_of steps timed; initial = initial; goal = goal }

pub refined_is_finer : (k : ℕ) (steps news : List PlainBoxStep) (timed events : List PlainBoxTimed) (initial row : ℕ → Bool) (goal : (ℕ → Bool) → Bool) →
    news ≡ map (finer_step k) steps → events ≡ map (finer_timed k) timed → row ≡ initial → box_with news events row goal ≡ finer_box k (box_with steps timed initial goal)
refined_is_finer k steps news timed events initial row goal s t r =
    ap₂ (λ x y. box_with x y row goal) s t
    ∙ (ap (λ y. box_with (map (finer_step k) steps) (map (finer_timed k) timed) y goal) r
    ∙ ap (λ (os : List PlainOwner). let b : PlainBox = record { owners = os; initial = initial; goal = goal } in b) (owners_are_finer k steps timed))
