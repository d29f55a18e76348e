-- The faults of one more moment of a run.
use Rattle.std.proofs.Common.{◌≡◌, ℕ, ◌+◌, ◌-◌, ◌<◌, ◌≤◌, Bool, ◌&&◌, ◌==◌, nat_lt, nat_le, slice_range, List, [], ◌∷◌, ◌++◌, map, take, drop, length, get_or, Option, None, All, refl, sym, ap, ◌∙◌, ⊎_elim, arith}
use Rattle.std.specs.List.{cons_option, filter, filter_map, flat_map}
use Rattle.std.proofs.Math.Path.{fun_ext}
use Rattle.std.proofs.Math.Seq.{take-add}
use Rattle.std.proofs.lemmas.Bool.{cases_lt, ne_eqb, and_left, and_right, cond-false}
use Rattle.std.proofs.lemmas.Grind.{flat_map-append}
use Rattle.std.proofs.lemmas.List.{append-nil, map-append, take-append-drop, get_or_default, get_or-take, get_or-drop, length-take, length-drop, length-map}
use Rattle.std.proofs.lemmas.List.Elements.{All-head, All-tail, All-map, filter_map-append}
use Rattle.std.proofs.lemmas.List.Folds.{drop_split}
use Rattle.stp_cond.specs.Atoms.{interfere}
use Rattle.stp_happen.specs.declared.fault.Fault.{Fault}
use Rattle.stp_happen.specs.declared.run.Entry.{Entry}
use Rattle.stp_happen.specs.Faults.{interference_of, condition_in, over_all_in, interferences}
use Rattle.stp_happen.specs.Firsts.{first_from, first_of}
use Rattle.stp_happen.specs.Plain.{PlainEntry, PlainRun, state_after, before, after}
use Rattle.stp_happen.specs.Views.{entry_of, entries_of}
use Rattle.stp_happen.proofs.FaultOrder.{first_again}
use Rattle.stp_happen.proofs.FirstSteps.{first_from-append}
use Rattle.stp_happen.proofs.MomentStates.{before_is, after_is}

-- ---- lists

filter_map_agree : {X Y : Type 0} (f g : X → Option Y) (xs : List X) → All (λ x. f x ≡ g x) xs → filter_map f xs ≡ filter_map g xs
filter_map_agree f g [] all = refl
filter_map_agree f g (x ∷ xs) all = ap (λ r. cons_option r (filter_map f xs)) (All-head (λ y. f y ≡ g y) x xs all) ∙ ap (cons_option (g x)) (filter_map_agree f g xs (All-tail (λ y. f y ≡ g y) x xs all))

pub filter_map_none : {X Y : Type 0} (f : X → Option Y) (xs : List X) → All (λ x. f x ≡ None) xs → filter_map f xs ≡ []
filter_map_none f [] all = refl
filter_map_none f (x ∷ xs) all = ap (λ r. cons_option r (filter_map f xs)) (All-head (λ y. f y ≡ None) x xs all) ∙ filter_map_none f xs (All-tail (λ y. f y ≡ None) x xs all)

flat_map_agree : {X Y : Type 0} (f g : X → List Y) (xs : List X) → All (λ x. f x ≡ g x) xs → flat_map f xs ≡ flat_map g xs
flat_map_agree f g [] all = refl
flat_map_agree f g (x ∷ xs) all = ap (λ r. r ++ flat_map f xs) (All-head (λ y. f y ≡ g y) x xs all) ∙ ap (λ r. g x ++ r) (flat_map_agree f g xs (All-tail (λ y. f y ≡ g y) x xs all))

-- ---- a moment and what is before and after it

-- M is all of the moment t of D, M and L one after another
pub record IsMoment (D M L : List PlainEntry) (t : ℕ) : Type 0 where
  pub early : All (λ e. e.time < t) D
  pub same : All (λ e. e.time ≡ t) M
  pub late : All (λ e. t < e.time) L
  pub some : 0 < length M

other_moment : (e o : PlainEntry) → (e.time ≡ o.time → ⊥) → interference_of e o ≡ None
other_moment e o apart =
    cond-false (nat_lt e.step o.step && e.time == o.time && interfere e.event o.event) _ _
    (and_left (nat_lt e.step o.step && e.time == o.time) (interfere e.event o.event) (and_right (nat_lt e.step o.step) (e.time == o.time) (ne_eqb e.time o.time apart)))

within_moment : (D M L : List PlainEntry) (t : ℕ) → IsMoment D M L t → (e : PlainEntry) → e.time ≡ t → filter_map (interference_of e) (D ++ (M ++ L)) ≡ filter_map (interference_of e) M
within_moment D M L t is e at =
    filter_map-append (interference_of e) D (M ++ L)
    ∙ (ap (λ r. r ++ filter_map (interference_of e) (M ++ L)) (filter_map_none (interference_of e) D (λ k d h. other_moment e (get_or D k d) (λ same. omega (arith, is.early k d h))))
    ∙ (filter_map-append (interference_of e) M L
    ∙ (ap (λ r. filter_map (interference_of e) M ++ r) (filter_map_none (interference_of e) L (λ k d h. other_moment e (get_or L k d) (λ same. omega (arith, is.late k d h))))
    ∙ append-nil (filter_map (interference_of e) M))))

pub interference_step : (D M L : List PlainEntry) (t : ℕ) → IsMoment D M L t →
    first_from (first_of (flat_map (λ e. filter_map (interference_of e) (D ++ (M ++ L))) D)) (interferences M) ≡ first_of (flat_map (λ e. filter_map (interference_of e) (D ++ (M ++ L))) (D ++ M))
interference_step D M L t is =
    let all : PlainEntry → List Fault = λ e. filter_map (interference_of e) (D ++ (M ++ L)) in
    ap (first_from (first_of (flat_map all D))) (sym (flat_map_agree all (λ e. filter_map (interference_of e) M) M (λ k d h. within_moment D M L t is (get_or M k d) (is.same k d h))))
    ∙ (sym (first_from-append None (flat_map all D) (flat_map all M)) ∙ ap first_of (sym (flat_map-append all D M)))

before_at : (run : PlainRun) (D M L : List PlainEntry) (t : ℕ) → IsMoment D M L t → run.entries ≡ D ++ (M ++ L) → before run t ≡ state_after run.initial D
before_at run D M L t is parts = ap (λ es. state_after run.initial (filter (λ e. nat_lt e.time t) es)) parts ∙ ap (state_after run.initial) (before_is D M L t is.early is.same is.late)

after_at : (run : PlainRun) (D M L : List PlainEntry) (t : ℕ) → IsMoment D M L t → run.entries ≡ D ++ (M ++ L) → after run t ≡ state_after run.initial (D ++ M)
after_at run D M L t is parts = ap (λ es. state_after run.initial (filter (λ e. nat_le e.time t) es)) parts ∙ ap (state_after run.initial) (after_is D M L t is.early is.same is.late)

pub condition_step : (run : PlainRun) (D M L : List PlainEntry) (t : ℕ) → IsMoment D M L t → run.entries ≡ D ++ (M ++ L) → (state : ℕ → Bool) → ((a : ℕ) → state a ≡ state_after run.initial D a) →
    first_from (first_of (filter_map (λ e. condition_in (before run e.time) e) D)) (filter_map (condition_in state) M) ≡ first_of (filter_map (λ e. condition_in (before run e.time) e) (D ++ M))
condition_step run D M L t is parts state row =
    let all : PlainEntry → Option Fault = λ e. condition_in (before run e.time) e in
    let now : before run t ≡ state = before_at run D M L t is parts ∙ sym (fun_ext row) in
    ap (first_from (first_of (filter_map all D))) (sym (filter_map_agree all (condition_in state) M (λ k d h. ap (λ u. condition_in (before run u) (get_or M k d)) (is.same k d h) ∙ ap (λ s. condition_in s (get_or M k d)) now)))
    ∙ (sym (first_from-append None (filter_map all D) (filter_map all M)) ∙ ap first_of (sym (filter_map-append all D M)))

-- the same faults for each entry of a moment are as good as once
once : {X : Type 0} (best : Option Fault) (faults : List Fault) (xs : List X) → 0 < length xs → first_from best (flat_map (λ x. faults) xs) ≡ first_from best faults
once best faults [] some = absurd (omega arith)
once best faults (x ∷ []) some = ap (first_from best) (append-nil faults)
once best faults (x ∷ y ∷ ys) some =
    first_from-append best faults (flat_map (λ x. faults) (y ∷ ys)) ∙ (once (first_from best faults) faults (y ∷ ys) (omega arith) ∙ first_again best faults)

pub over_all_step : (run : PlainRun) (D M L : List PlainEntry) (t : ℕ) → IsMoment D M L t → run.entries ≡ D ++ (M ++ L) → (state : ℕ → Bool) → ((a : ℕ) → state a ≡ state_after run.initial (D ++ M) a) →
    first_from (first_of (flat_map (λ e. filter_map (over_all_in (after run e.time) e.time) run.spans) D)) (filter_map (over_all_in state t) run.spans) ≡ first_of (flat_map (λ e. filter_map (over_all_in (after run e.time) e.time) run.spans) (D ++ M))
over_all_step run D M L t is parts state row =
    let all : PlainEntry → List Fault = λ e. filter_map (over_all_in (after run e.time) e.time) run.spans in
    let here : List Fault = filter_map (over_all_in state t) run.spans in
    let now : after run t ≡ state = after_at run D M L t is parts ∙ sym (fun_ext row) in
    sym (once (first_of (flat_map all D)) here M is.some)
    ∙ (ap (first_from (first_of (flat_map all D))) (sym (flat_map_agree all (λ e. here) M (λ k d h. ap (λ u. filter_map (over_all_in (after run u) u) run.spans) (is.same k d h) ∙ ap (λ s. filter_map (over_all_in s t) run.spans) now)))
    ∙ (sym (first_from-append None (flat_map all D) (flat_map all M)) ∙ ap first_of (sym (flat_map-append all D M))))

-- ---- the same in the lists of the code

pub taken : (entries : List Entry) (start end : ℕ) → start ≤ end → entries_of (take end entries) ≡ entries_of (take start entries) ++ entries_of (slice_range entries start end)
taken entries start end h =
    let sum : start + (end - start) ≡ end = omega arith in
    ap (λ n. entries_of (take n entries)) (sym sum) ∙ (ap (map entry_of) (take-add start (end - start) entries) ∙ map-append entry_of (take start entries) (take (end - start) (drop start entries)))

pub parted : (entries : List Entry) (start end : ℕ) → start ≤ end → entries_of entries ≡ entries_of (take start entries) ++ (entries_of (slice_range entries start end) ++ entries_of (drop end entries))
parted entries start end h =
    ap (map entry_of) (sym (take-append-drop start entries))
    ∙ (map-append entry_of (take start entries) (drop start entries)
    ∙ ap (λ r. entries_of (take start entries) ++ r) (ap (map entry_of) (drop_split entries start end h) ∙ map-append entry_of (slice_range entries start end) (drop end entries)))

pub moment_is : (entries : List Entry) (start end : ℕ) (at : Entry) (t : ℕ) → start < end → end ≤ length entries → (get_or entries start at).time ≡ t →
    ((k j : ℕ) (d : Entry) → k < start → start ≤ j → j < length entries → (get_or entries k d).time < (get_or entries j d).time) →
    ((k : ℕ) (d : Entry) → start ≤ k → k < end → (get_or entries k d).time ≡ (get_or entries start d).time) →
    ((k : ℕ) (d : Entry) → end ≤ k → k < length entries → (get_or entries start d).time < (get_or entries k d).time) →
    IsMoment (entries_of (take start entries)) (entries_of (slice_range entries start end)) (entries_of (drop end entries)) t
moment_is entries start end at t h within time apart same later =
    let here : (d : Entry) → (get_or entries start d).time ≡ t = λ d. ap (λ e. e.time) (get_or_default entries start d at (omega arith)) ∙ time in
    record {
      early = All-map (λ e. e.time < t) entry_of (take start entries) (λ k d i.
          let front : k < start = omega (arith, length-take start entries) in
          let read : (get_or (take start entries) k d).time ≡ (get_or entries k d).time = ap (λ e. e.time) (get_or-take start entries k d front) in
          let first : (get_or entries start d).time ≡ t = here d in
          let less : (get_or entries k d).time < (get_or entries start d).time = apart k start d front (omega arith) (omega arith) in
          omega arith);
      same = All-map (λ e. e.time ≡ t) entry_of (slice_range entries start end) (λ k d i.
          let long : k < length (take (end - start) (drop start entries)) = i in
          let inside : k < end - start = omega (arith, length-take (end - start) (drop start entries)) in
          ap (λ e. e.time) (get_or-take (end - start) (drop start entries) k d inside ∙ get_or-drop start entries k d) ∙ (same (start + k) d (omega arith) (omega arith) ∙ here d));
      late = All-map (λ e. t < e.time) entry_of (drop end entries) (λ k d i.
          let long : k < length (drop end entries) = i in
          let read : (get_or (drop end entries) k d).time ≡ (get_or entries (end + k) d).time = ap (λ e. e.time) (get_or-drop end entries k d) in
          let first : (get_or entries start d).time ≡ t = here d in
          let less : (get_or entries start d).time < (get_or entries (end + k) d).time = later (end + k) d (omega arith) (omega (arith, length-drop end entries)) in
          omega arith);
      some = omega (arith, length-map (slice_range entries start end) entry_of, length-take (end - start) (drop start entries), length-drop start entries);
    }

pub parted_next : (entries : List Entry) (start end : ℕ) → start ≤ end → end ≤ length entries →
    ((k j : ℕ) (d : Entry) → k < start → start ≤ j → j < length entries → (get_or entries k d).time < (get_or entries j d).time) →
    ((k : ℕ) (d : Entry) → start ≤ k → k < end → (get_or entries k d).time ≡ (get_or entries start d).time) →
    ((k : ℕ) (d : Entry) → end ≤ k → k < length entries → (get_or entries start d).time < (get_or entries k d).time) →
    (k j : ℕ) (d : Entry) → k < end → end ≤ j → j < length entries → (get_or entries k d).time < (get_or entries j d).time
parted_next entries start end up within apart same later k j d below from inside =
    ⊎_elim
    (λ early. apart k j d early (omega arith) inside)
    (λ late. let here : (get_or entries k d).time ≡ (get_or entries start d).time = same k d late below in omega (arith, later j d from inside))
    (cases_lt k start)
