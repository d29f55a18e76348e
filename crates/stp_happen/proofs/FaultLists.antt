-- The faults of a run, and so the first of them, depend on the members of its entries and spans alone.
use Rattle.std.proofs.Common.{◌≡◌, false, List, [], ◌∷◌, ◌++◌, Contains, Option, Some, None, ◌⊎◌, inl, inr, refl, ap, ap₂, sym, ◌∙◌, subst}
use Rattle.std.specs.List.{filter_map, flat_map, cons_option}
use Rattle.std.proofs.lemmas.List.Elements.{Contains-append_left, Contains-append_right, Contains-append_cases}
use Rattle.stp_happen.specs.declared.fault.Fault.{Fault}
use Rattle.stp_happen.specs.Plain.{PlainRun, before, after}
use Rattle.stp_happen.specs.Faults.{overlap_of, interference_of, condition_in, over_all_in, goal_in, overlaps, interferences, conditions, over_alls, goals, faults_of, is_before, IsFirstFault}
use Rattle.stp_happen.specs.Orders.{AreAlike, FirstFaultIsFreeOfOrder}
use Rattle.stp_happen.proofs.Members.{here, there, member_cases, member_nil, all_of, each_of}
use Rattle.stp_happen.proofs.Alike.{alike_turned, before_alike, after_alike, end_alike}

-- one list's members are the other's
abbrev pub AreAmong : {X : Type 0} → List X → List X → Type 0
AreAmong {X} xs ys = (x : X) → Contains xs x → Contains ys x

-- ---- members of what a map or a flat map keeps

in_option : {Y : Type 0} (o : Option Y) (ys : List Y) (y : Y) → o ≡ Some y → Contains (cons_option o ys) y
in_option None ys y e = absurd (cc)
in_option (Some z) ys y e = let h : z ≡ y = cc in subst (λ w. Contains (z ∷ ys) w) h (here z ys)

past_option : {Y : Type 0} (o : Option Y) (ys : List Y) (y : Y) → Contains ys y → Contains (cons_option o ys) y
past_option None ys y i = i
past_option (Some z) ys y i = there z ys y i

option_cases : {Y : Type 0} (o : Option Y) (ys : List Y) (y : Y) → Contains (cons_option o ys) y → (o ≡ Some y) ⊎ Contains ys y
option_cases None ys y i = inr i
option_cases (Some z) ys y i = elim (member_cases z ys y i) [ inl e ↦ inl (ap Some e) | inr j ↦ inr j ]

kept_some : {X Y : Type 0} (h : X → Option Y) (xs : List X) (x : X) (y : Y) → Contains xs x → h x ≡ Some y → Contains (filter_map h xs) y
kept_some h [] x y i e = absurd (member_nil x i)
kept_some h (z ∷ zs) x y i e =
    elim (member_cases z zs x i) [ inl s ↦ in_option (h z) (filter_map h zs) y (ap h s ∙ e) | inr j ↦ past_option (h z) (filter_map h zs) y (kept_some h zs x y j e) ]

some_kept : {X Y : Type 0} (h : X → Option Y) (xs : List X) (y : Y) → Contains (filter_map h xs) y → (x : X) × Contains xs x × (h x ≡ Some y)
some_kept h [] y i = absurd (member_nil y i)
some_kept h (x ∷ xs) y i =
    elim (option_cases (h x) (filter_map h xs) y i) [ inl e ↦ (x, here x xs, e) | inr j ↦ let r = some_kept h xs y j in (r.0, there x xs r.0 r.1, r.2) ]

in_flat : {X Y : Type 0} (h : X → List Y) (xs : List X) (x : X) (y : Y) → Contains xs x → Contains (h x) y → Contains (flat_map h xs) y
in_flat h [] x y i j = absurd (member_nil x i)
in_flat h (z ∷ zs) x y i j =
    elim (member_cases z zs x i) [
      | inl s ↦ Contains-append_left (h z) (flat_map h zs) y (subst (λ w. Contains (h w) y) (sym s) j)
      | inr k ↦ Contains-append_right (h z) (flat_map h zs) y (in_flat h zs x y k j)
    ]

of_flat : {X Y : Type 0} (h : X → List Y) (xs : List X) (y : Y) → Contains (flat_map h xs) y → (x : X) × Contains xs x × Contains (h x) y
of_flat h [] y i = absurd (member_nil y i)
of_flat h (x ∷ xs) y i =
    elim (Contains-append_cases (h x) (flat_map h xs) y i) [ inl j ↦ (x, here x xs, j) | inr j ↦ let r = of_flat h xs y j in (r.0, there x xs r.0 r.1, r.2) ]

among_kept : {X Y : Type 0} (h k : X → Option Y) (xs zs : List X) → AreAmong xs zs → ((x : X) → h x ≡ k x) → AreAmong (filter_map h xs) (filter_map k zs)
among_kept h k xs zs a e y i = let r = some_kept h xs y i in kept_some k zs r.0 y (a r.0 r.1) (sym (e r.0) ∙ r.2)

among_flat : {X Y : Type 0} (h k : X → List Y) (xs zs : List X) → AreAmong xs zs → ((x : X) → AreAmong (h x) (k x)) → AreAmong (flat_map h xs) (flat_map k zs)
among_flat h k xs zs a e y i = let r = of_flat h xs y i in in_flat k zs r.0 y (a r.0 r.1) (e r.0 y r.2)

among_append : {X : Type 0} (xs zs us vs : List X) → AreAmong xs zs → AreAmong us vs → AreAmong (xs ++ us) (zs ++ vs)
among_append xs zs us vs a b x i = elim (Contains-append_cases xs us x i) [ inl j ↦ Contains-append_left zs vs x (a x j) | inr j ↦ Contains-append_right zs vs x (b x j) ]

-- ---- the faults of alike runs

overlaps_among : (run other : PlainRun) → AreAlike run other → AreAmong (overlaps run.spans) (overlaps other.spans)
overlaps_among run other h =
    let spans : AreAmong run.spans other.spans = λ s. (h.spans s).0 in
    among_flat (λ s. filter_map (overlap_of s) run.spans) (λ s. filter_map (overlap_of s) other.spans) run.spans other.spans spans
    (λ s. among_kept (overlap_of s) (overlap_of s) run.spans other.spans spans (λ o. refl))

interferences_among : (run other : PlainRun) → AreAlike run other → AreAmong (interferences run.entries) (interferences other.entries)
interferences_among run other h =
    let entries : AreAmong run.entries other.entries = λ e. (h.entries e).0 in
    among_flat (λ e. filter_map (interference_of e) run.entries) (λ e. filter_map (interference_of e) other.entries) run.entries other.entries entries
    (λ e. among_kept (interference_of e) (interference_of e) run.entries other.entries entries (λ o. refl))

conditions_among : (run other : PlainRun) → AreAlike run other → AreAmong (conditions run) (conditions other)
conditions_among run other h =
    among_kept (λ e. condition_in (before run e.time) e) (λ e. condition_in (before other e.time) e) run.entries other.entries (λ e. (h.entries e).0)
    (λ e. ap (λ state. condition_in state e) (before_alike run other h e.time))

over_alls_among : (run other : PlainRun) → AreAlike run other → AreAmong (over_alls run) (over_alls other)
over_alls_among run other h =
    among_flat (λ e. filter_map (over_all_in (after run e.time) e.time) run.spans) (λ e. filter_map (over_all_in (after other e.time) e.time) other.spans) run.entries other.entries (λ e. (h.entries e).0)
    (λ e. among_kept (over_all_in (after run e.time) e.time) (over_all_in (after other e.time) e.time) run.spans other.spans (λ s. (h.spans s).0)
    (λ s. ap (λ state. over_all_in state e.time s) (after_alike run other h e.time)))

goals_among : (run other : PlainRun) → AreAlike run other → AreAmong (goals run) (goals other)
goals_among run other h f i = subst (λ l. Contains l f) (ap₂ (λ state goal. filter_map (goal_in state) (goal ∷ [])) (end_alike run other h) h.goal) i

faults_among : (run other : PlainRun) → AreAlike run other → AreAmong (faults_of run) (faults_of other)
faults_among run other h =
    let two = among_append (overlaps run.spans) (overlaps other.spans) (interferences run.entries) (interferences other.entries) (overlaps_among run other h) (interferences_among run other h) in
    let three = among_append (overlaps run.spans ++ interferences run.entries) (overlaps other.spans ++ interferences other.entries) (conditions run) (conditions other) two (conditions_among run other h) in
    let four = among_append (overlaps run.spans ++ interferences run.entries ++ conditions run) (overlaps other.spans ++ interferences other.entries ++ conditions other) (over_alls run) (over_alls other) three (over_alls_among run other h) in
    among_append (overlaps run.spans ++ interferences run.entries ++ conditions run ++ over_alls run) (overlaps other.spans ++ interferences other.entries ++ conditions other ++ over_alls other) (goals run) (goals other) four (goals_among run other h)

first_alike : (run other : PlainRun) (f : Fault) → AreAlike run other → IsFirstFault run f → IsFirstFault other f
first_alike run other f h first = record {
  there = faults_among run other h f first.there;
  first = all_of (λ g. is_before g f ≡ false) (faults_of other) (λ g i. each_of (λ g. is_before g f ≡ false) (faults_of run) first.first g (faults_among other run (alike_turned run other h) g i));
}

pub first_fault_is_free_of_order : FirstFaultIsFreeOfOrder
first_fault_is_free_of_order run other f h = (first_alike run other f h, first_alike other run f (alike_turned run other h))
