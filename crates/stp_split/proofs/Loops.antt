-- One formula after another, and the two cases of one end, in the lists of the code.
use Rattle.std.proofs.Common.{◌≡◌, ℕ, ◌+◌, ◌<◌, ◌≤◌, ◌==◌, Bool, true, false, not, ◌||◌, cond, List, [], ◌∷◌, ◌++◌, map, drop, length, filter, get_or, All, Contains, Option, Some, None, MatchOption, inl, inr, refl, ap, sym, ◌∙◌, subst, arith, true≢false, eq-eqb}
use mathlib.Core.Path.{fun_ext}
use Rattle.std.proofs.lemmas.Bool.{and_parts}
use Rattle.std.proofs.lemmas.List.{at_drop_more, at_drop_all}
use Rattle.std.proofs.lemmas.List.Folds.{list_any-append}
use Rattle.stp_cond.specs.declared.cond.Cond.{Cond}
use Rattle.stp_cond.specs.Atoms.{has, changed_by}
use Rattle.stp_cond.specs.Events.{IsEventInRange, event_of}
use Rattle.stp_cond.specs.Truth.{all_of as every_of, is_below}
use Rattle.stp_happen.proofs.Members.{here, member_cases, member_nil, member_map, each_of, all_of, kept_alike, member_of_kept}
use Rattle.stp_window.specs.declared.windows.Window.{Window}
use Rattle.stp_window.specs.Windows.{Point}
use Rattle.stp_window.specs.Views.{point_of, points_of}
use Rattle.stp_split.specs.Cases.{AreCases, ShareNone, written, have_come, turns, without_step}
use Rattle.stp_split.specs.Judged.{IsAlways, FailsAt, SomeAlways, EachFails}
use Rattle.stp_split.proofs.Splitting.{one_is_enough, others_are_enough, apart_formulas_fail_together, both_cases_are_all, stayed_cases_fail, come_cases_fail}
use Rattle.stp_split.proofs.Written.{truth_alike, written_alike, rest_cases}

-- ---- what an answer says

pub found_some : {X : Type 0} (P : Type 0) (Q : X → Type 0) (o : Option X) (x : X) → o ≡ Some x → MatchOption o P Q → Q x
found_some P Q o x e h = subst (λ r. MatchOption r P Q) e h

pub found_none : {X : Type 0} (P : Type 0) (Q : X → Type 0) (o : Option X) → o ≡ None → MatchOption o P Q → P
found_none P Q o e h = subst (λ r. MatchOption r P Q) e h

-- ---- formulas by their places

below_in : (n : ℕ) (conds : List Cond) (c : Cond) → Contains conds c → every_of (map (is_below n) conds) ≡ true → is_below n c ≡ true
below_in n [] c i h = absurd (member_nil c i)
below_in n (d ∷ conds) c i h =
    let parts = and_parts (is_below n d) (every_of (map (is_below n) conds)) h in
    elim (member_cases d conds c i) [ inl e ↦ ap (is_below n) (sym e) ∙ parts.0 | inr j ↦ below_in n conds c j parts.1 ]

pub cond_below : (n : ℕ) (conds : List Cond) (i : ℕ) (c : Cond) → i < length conds → c ≡ get_or conds i c → every_of (map (is_below n) conds) ≡ true → is_below n c ≡ true
cond_below n conds i c l is h = below_in n conds c (i, l, sym is) h

-- the formulas from a place on
pub left_at : (conds : List Cond) (i : ℕ) (c : Cond) → i < length conds → c ≡ get_or conds i c → drop i conds ≡ c ∷ drop (i + 1) conds
left_at conds i c l is = at_drop_more (λ ds. ds) conds i c l ∙ ap (λ d. d ∷ drop (i + 1) conds) (sym is)

pub first_left : (conds : List Cond) (i : ℕ) (c : Cond) → i < length conds → c ≡ get_or conds i c → Contains (drop i conds) c
first_left conds i c l is = subst (λ ds. Contains ds c) (sym (left_at conds i c l is)) (here c (drop (i + 1) conds))

-- ---- formulas one after another

-- it is enough that one of those that are left has the truth that is wanted
abbrev pub IsEnough : List Cond → List Cond → Bool → List Point → (ℕ → Bool) → Type 0
IsEnough left conds want ends state = SomeAlways left want ends state → SomeAlways conds want ends state

-- with what fails those that are left these steps fail all
abbrev pub FailWith : List ℕ → List Cond → List Cond → Bool → List Point → (ℕ → Bool) → Type 0
FailWith steps left conds want ends state = (more all : List ℕ) → ((n : ℕ) → has all n ≡ (has steps n || has more n)) → EachFails left want ends state more → EachFails conds want ends state all

has_append : (xs ys : List ℕ) (n : ℕ) → has (xs ++ ys) n ≡ (has xs n || has ys n)
has_append xs ys n = list_any-append (λ a. a == n) xs ys

each_alike : (conds : List Cond) (want : Bool) (ends : List Point) (state : ℕ → Bool) → AreCases ends → (some all : List ℕ) → ((n : ℕ) → has all n ≡ has some n) → EachFails conds want ends state some → EachFails conds want ends state all
each_alike conds want ends state cases some all told h = record {
  fails = λ c i. truth_alike c (written ends (have_come all) state) (written ends (have_come some) state) (λ a k. written_alike ends cases (have_come all) (have_come some) state a (λ p j. told p.step)) ∙ h.fails c i;
  few = λ n e. h.few n (sym (told n) ∙ e);
}

pub fail_first : (conds : List Cond) (want : Bool) (ends : List Point) (state : ℕ → Bool) (steps : List ℕ) → AreCases ends → steps ≡ [] → FailWith steps conds conds want ends state
fail_first conds want ends state steps cases none = λ more all told h. each_alike conds want ends state cases more all (λ n. told n ∙ ap (λ ns. has ns n || has more n) none) h

regroup : (a b c : Bool) → ((a || b) || c) ≡ (a || (b || c))
regroup true b c = refl
regroup false b c = refl

pub fail_next : (left rest conds : List Cond) (c : Cond) (want : Bool) (ends : List Point) (state : ℕ → Bool) (steps one new : List ℕ) → AreCases ends → left ≡ c ∷ rest → ShareNone ends state c rest → new ≡ steps ++ one → FailsAt c want ends state one →
    FailWith steps left conds want ends state → FailWith new rest conds want ends state
fail_next left rest conds c want ends state steps one new cases is apart joined first so_far = λ more all told h.
    so_far (one ++ more) all
    (λ n. told n ∙ (ap (λ ns. has ns n || has more n) joined ∙ (ap (λ b. b || has more n) (has_append steps one n) ∙ (regroup (has steps n) (has one n) (has more n) ∙ ap (λ b. has steps n || b) (sym (has_append one more n))))))
    (subst (λ ds. EachFails ds want ends state (one ++ more)) (sym is) (apart_formulas_fail_together c rest want ends state one more (one ++ more) (has_append one more) cases apart first h))

pub enough_next : (left rest conds : List Cond) (c : Cond) (want : Bool) (ends : List Point) (state : ℕ → Bool) → left ≡ c ∷ rest → IsEnough left conds want ends state → IsEnough rest conds want ends state
enough_next left rest conds c want ends state is so_far = λ h. so_far (subst (λ ds. SomeAlways ds want ends state) (sym is) (others_are_enough c rest want ends state h))

pub enough_now : (left rest conds : List Cond) (c : Cond) (want : Bool) (ends : List Point) (state : ℕ → Bool) → left ≡ c ∷ rest → IsEnough left conds want ends state → IsAlways c want ends state → SomeAlways conds want ends state
enough_now left rest conds c want ends state is so_far h = so_far (subst (λ ds. SomeAlways ds want ends state) (sym is) (one_is_enough c rest want ends state h))

pub fail_all : (left conds : List Cond) (want : Bool) (ends : List Point) (state : ℕ → Bool) (steps more new : List ℕ) → new ≡ steps ++ more → EachFails left want ends state more → FailWith steps left conds want ends state → EachFails conds want ends state new
fail_all left conds want ends state steps more new joined h so_far = so_far more new (λ n. ap (λ ns. has ns n) joined ∙ has_append steps more n) h

pub fail_last : (conds : List Cond) (place start : ℕ) (want : Bool) (ends : List Point) (state : ℕ → Bool) (steps : List ℕ) → length conds ≤ place → FailWith steps (drop place conds) (drop start conds) want ends state → EachFails (drop start conds) want ends state steps
fail_last conds place start want ends state steps l so_far =
    so_far [] steps (λ n. or_nothing (has steps n))
    (subst (λ ds. EachFails ds want ends state []) (sym (at_drop_all (λ ds. ds) conds place l)) (record { fails = λ c i. absurd (member_nil c i); few = λ n e. absurd (true≢false (sym e)) }))
  where
    or_nothing : (b : Bool) → b ≡ (b || false)
    or_nothing true = refl
    or_nothing false = refl

-- ---- the ends of other steps

pub rest_points : (ends rest : List Window) (step : ℕ) → rest ≡ filter (λ w. not (w.step == step)) ends → points_of rest ≡ without_step step (points_of ends)
rest_points ends rest step e = ap points_of e ∙ sym (kept_alike point_of (λ p. not (p.step == step)) (λ w. not (w.step == step)) ends (λ w i. refl))

pub rest_are_cases : (ends given rest : List Window) (step : ℕ) → given ≡ rest → rest ≡ filter (λ w. not (w.step == step)) ends → AreCases (points_of ends) → AreCases (points_of given)
rest_are_cases ends given rest step f e cases = subst AreCases (sym (rest_points ends given step (f ∙ e))) (rest_cases step (points_of ends) cases)

pub rest_in_range : (n m : ℕ) (ends given rest : List Window) (step : ℕ) → m ≡ n → given ≡ rest → rest ≡ filter (λ w. not (w.step == step)) ends → All (λ w. IsEventInRange n w.event) ends → All (λ w. IsEventInRange m w.event) given
rest_in_range n m ends given rest step g f e all =
    subst (λ k. All (λ (w : Window). IsEventInRange k w.event) given) (sym g)
    (subst (All (λ (w : Window). IsEventInRange n w.event)) (sym (f ∙ e))
    (all_of (λ (w : Window). IsEventInRange n w.event) (filter (λ w. not (w.step == step)) ends) (λ w i. each_of (λ (v : Window). IsEventInRange n v.event) ends all w (member_of_kept (λ (v : Window). not (v.step == step)) ends w i).0)))

kept_fewer : (f : Window → Bool) (ws : List Window) → length (filter f ws) ≤ length ws
kept_fewer f [] = omega arith
kept_fewer f (w ∷ ws) = by_test f w ws (f w) (kept_fewer f ws)
  where
    by_test : (f : Window → Bool) (w : Window) (ws : List Window) (b : Bool) → length (filter f ws) ≤ length ws → length (cond b (w ∷ filter f ws) (filter f ws)) ≤ length (w ∷ ws)
    by_test f w ws true l = omega arith
    by_test f w ws false l = omega arith

kept_less : (f : Window → Bool) (ws : List Window) (w : Window) → Contains ws w → f w ≡ false → length (filter f ws) < length ws
kept_less f [] w i h = absurd (member_nil w i)
kept_less f (v ∷ ws) w i h = elim (member_cases v ws w i) [ inl e ↦ by_first f v ws (f v) (ap f e ∙ h) (kept_fewer f ws) | inr j ↦ by_rest f v ws (f v) (kept_less f ws w j h) ]
  where
    by_first : (f : Window → Bool) (v : Window) (ws : List Window) (b : Bool) → b ≡ false → length (filter f ws) ≤ length ws → length (cond b (v ∷ filter f ws) (filter f ws)) < length (v ∷ ws)
    by_first f v ws true e l = absurd (true≢false e)
    by_first f v ws false e l = omega arith

    by_rest : (f : Window → Bool) (v : Window) (ws : List Window) (b : Bool) → length (filter f ws) < length ws → length (cond b (v ∷ filter f ws) (filter f ws)) < length (v ∷ ws)
    by_rest f v ws true l = omega arith
    by_rest f v ws false l = omega arith

pub rest_shorter : (ends given rest : List Window) (end : Window) → given ≡ rest → rest ≡ filter (λ w. not (w.step == end.step)) ends → Contains ends end → length given < length ends
rest_shorter ends given rest end f e i =
    let l : length (filter (λ w. not (w.step == end.step)) ends) < length ends = kept_less (λ w. not (w.step == end.step)) ends end i (ap not (eq-eqb end.step end.step refl)) in
    subst (λ ws. length ws < length ends) (sym (f ∙ e)) l

-- ---- the two cases of one end

pub stayed_answered : (conds : List Cond) (want : Bool) (ends given rest : List Window) (state : ℕ → Bool) (end : Window) (steps : List ℕ) → AreCases (points_of ends) → Contains ends end → given ≡ rest → rest ≡ filter (λ w. not (w.step == end.step)) ends →
    EachFails conds want (points_of given) state steps → EachFails conds want (points_of ends) state steps
stayed_answered conds want ends given rest state end steps cases i f e h =
    stayed_cases_fail conds want (points_of ends) state (point_of end) steps cases (member_map point_of ends end i) (subst (λ ps. EachFails conds want ps state steps) (rest_points ends given end.step (f ∙ e)) h)

pub both_answered : (conds : List Cond) (want : Bool) (ends first second rest : List Window) (state next : ℕ → Bool) (end : Window) → AreCases (points_of ends) → Contains ends end → first ≡ rest → second ≡ rest → rest ≡ filter (λ w. not (w.step == end.step)) ends →
    ((a : ℕ) → next a ≡ changed_by (event_of end.event) state a) → SomeAlways conds want (points_of first) state → SomeAlways conds want (points_of second) next → SomeAlways conds want (points_of ends) state
both_answered conds want ends first second rest state next end cases i f g e after h k =
    both_cases_are_all conds want (points_of ends) state (point_of end) cases (member_map point_of ends end i)
    (subst (λ ps. SomeAlways conds want ps state) (rest_points ends first end.step (f ∙ e)) h)
    (subst (SomeAlways conds want (without_step end.step (points_of ends))) (fun_ext after) (subst (λ ps. SomeAlways conds want ps next) (rest_points ends second end.step (g ∙ e)) k))

last_first : (a b : Bool) → (a || (b || false)) ≡ (b || a)
last_first true true = refl
last_first true false = refl
last_first false true = refl
last_first false false = refl

pub come_answered : (conds : List Cond) (want : Bool) (ends given rest : List Window) (state next : ℕ → Bool) (end : Window) (steps new : List ℕ) → AreCases (points_of ends) → Contains ends end → given ≡ rest → rest ≡ filter (λ w. not (w.step == end.step)) ends →
    ((a : ℕ) → next a ≡ changed_by (event_of end.event) state a) → (c : Cond) × Contains conds c × (turns (point_of end) state c ≡ true) → new ≡ steps ++ end.step ∷ [] → EachFails conds want (points_of given) next steps → EachFails conds want (points_of ends) state new
come_answered conds want ends given rest state next end steps new cases i f e after turned joined h =
    come_cases_fail conds want (points_of ends) state (point_of end) turned.0 steps new
    (λ n. ap (λ ns. has ns n) joined ∙ (has_append steps (end.step ∷ []) n ∙ last_first (has steps n) (end.step == n)))
    cases (member_map point_of ends end i) turned.1 turned.2
    (subst (λ s. EachFails conds want (without_step end.step (points_of ends)) s steps) (fun_ext after) (subst (λ ps. EachFails conds want ps next steps) (rest_points ends given end.step (f ∙ e)) h))
