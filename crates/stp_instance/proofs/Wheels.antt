-- What is left of the bindings while wheels are turned, from the last one on.
use Rattle.std.proofs.Common.{◌≡◌, ℕ, ◌+◌, ◌-◌, ◌<◌, ◌≤◌, suc, zero, Bool, true, false, not, ◌&&◌, if◌then◌else◌, eqb, nat_lt, List, [], ◌∷◌, ◌++◌, length, map, take, drop, set, get_or, refl, ap, sym, ◌∙◌, add-one, arith}
use Rattle.std.specs.List.{flat_map, list_all}
use Rattle.std.proofs.lemmas.Bool.{and_parts, and_from, lt-ltb}
use Rattle.std.proofs.lemmas.Bool.Decides.{nat_tests}
use Rattle.std.proofs.lemmas.List.{append-nil, append_assoc, take_more, take_rest, take-set, take_all, drop_all, drop-set, set_split}
use Rattle.stp_base.specs.declared.ids.ObjectId.{ObjectId}
use Rattle.stp_instance.specs.Bindings.{numbers_of}
use Rattle.stp_instance.specs.declared.wheel.Wheel.{Wheel}
use Rattle.stp_instance.specs.Expanded.{bindings_of}
use Rattle.stp_instance.specs.Turning.{choices_of, rest_of, shown, has_choice, left}

-- each of these objects before each of those bindings
abbrev pub before_all : List (List ℕ) → List ℕ → List (List ℕ)
before_all others objects = flat_map (λ object. map (λ other. object ∷ other) others) objects

-- what comes after the bindings in which the first of the wheels show what they show, where the others begin anew
abbrev pub carried : List Wheel → List Wheel → List (List ℕ)
carried [] behind = []
carried (w ∷ ws) behind = map (λ other. shown w ∷ other) (carried ws behind) ++ before_all (bindings_of choices_of (ws ++ behind)) (drop 1 (rest_of w))

-- before anything turns
pub at_first : (ws : List Wheel) → left ws ≡ map shown ws ∷ carried ws []
at_first [] = refl
at_first (w ∷ ws) =
    ap (λ l. map (λ other. shown w ∷ other) l ++ before_all (bindings_of choices_of ws) (drop 1 (rest_of w))) (at_first ws)
    ∙ ap (λ l. (shown w ∷ map shown ws) ∷ (map (λ other. shown w ∷ other) (carried ws []) ++ before_all (bindings_of choices_of l) (drop 1 (rest_of w)))) (sym (append-nil ws))

-- bindings by the choices alone
pub by_choices : (front : List Wheel) (w v : Wheel) (behind : List Wheel) → choices_of w ≡ choices_of v → bindings_of choices_of (front ++ w ∷ behind) ≡ bindings_of choices_of (front ++ v ∷ behind)
by_choices [] w v behind e = ap (before_all (bindings_of choices_of behind)) e
by_choices (u ∷ us) w v behind e = ap (λ l. before_all l (choices_of u)) (by_choices us w v behind e)

by_split : (front : List Wheel) (w v : Wheel) (behind : List Wheel) → choices_of w ≡ choices_of v → bindings_of choices_of ((front ++ w ∷ []) ++ behind) ≡ bindings_of choices_of (front ++ v ∷ behind)
by_split front w v behind e = ap (bindings_of choices_of) (append_assoc front (w ∷ []) behind) ∙ by_choices front w v behind e

-- a wheel that shows its last object begins anew
pub over : (front : List Wheel) (w v : Wheel) (behind : List Wheel) → choices_of w ≡ choices_of v → drop 1 (rest_of w) ≡ [] → carried (front ++ w ∷ []) behind ≡ carried front (v ∷ behind)
over [] w v behind e none = ap (before_all (bindings_of choices_of behind)) none
over (u ∷ us) w v behind e none =
    ap (λ l. map (λ other. shown u ∷ other) l ++ before_all (bindings_of choices_of ((us ++ w ∷ []) ++ behind)) (drop 1 (rest_of u))) (over us w v behind e none)
    ∙ ap (λ l. map (λ other. shown u ∷ other) (carried us (v ∷ behind)) ++ before_all l (drop 1 (rest_of u))) (by_split us w v behind e)

-- a wheel that has another object left turns to it
pub onward : (front : List Wheel) (w v : Wheel) (behind : List Wheel) → choices_of w ≡ choices_of v → drop 1 (rest_of w) ≡ shown v ∷ drop 1 (rest_of v) → left behind ≡ bindings_of choices_of behind → carried (front ++ w ∷ []) behind ≡ left (front ++ v ∷ behind)
onward [] w v behind e next begun =
    ap (before_all (bindings_of choices_of behind)) next
    ∙ ap (λ l. map (λ other. shown v ∷ other) l ++ before_all (bindings_of choices_of behind) (drop 1 (rest_of v))) (sym begun)
onward (u ∷ us) w v behind e next begun =
    ap (λ l. map (λ other. shown u ∷ other) l ++ before_all (bindings_of choices_of ((us ++ w ∷ []) ++ behind)) (drop 1 (rest_of u))) (onward us w v behind e next begun)
    ∙ ap (λ l. map (λ other. shown u ∷ other) (left (us ++ v ∷ behind)) ++ before_all l (drop 1 (rest_of u))) (by_split us w v behind e)

-- a wheel that shows its first object, before wheels that begin anew
anew_of : (choices : List ObjectId) (rest : List ℕ) (others begun : List (List ℕ)) → nat_lt 0 (length choices) ≡ true → rest ≡ numbers_of choices → begun ≡ others → map (λ other. get_or rest 0 0 ∷ other) begun ++ before_all others (drop 1 rest) ≡ before_all others (numbers_of choices)
anew_of [] rest others begun h e f = cc
anew_of (c ∷ cs) rest others begun h e f = rw (e, f) refl

pub anew : (w : Wheel) (behind : List Wheel) → has_choice w ≡ true → rest_of w ≡ choices_of w → left behind ≡ bindings_of choices_of behind → left (w ∷ behind) ≡ bindings_of choices_of (w ∷ behind)
anew w behind h e f = anew_of w.choices.now (rest_of w) (bindings_of choices_of behind) (left behind) h e f

-- wheels that show their first objects
pub all_anew : (ws : List Wheel) → list_all has_choice ws ≡ true → map rest_of ws ≡ map choices_of ws → left ws ≡ bindings_of choices_of ws
all_anew [] all e = refl
all_anew (w ∷ ws) all e =
    let parts = and_parts (has_choice w) (list_all has_choice ws) all in
    anew w ws parts.0 (heads_same (rest_of w) (choices_of w) (map rest_of ws) (map choices_of ws) e) (all_anew ws parts.1 (tails_same (rest_of w) (choices_of w) (map rest_of ws) (map choices_of ws) e))
  where
    heads_same : (x y : List ℕ) (xs ys : List (List ℕ)) → x ∷ xs ≡ y ∷ ys → x ≡ y
    heads_same x y xs ys e = cc

    tails_same : (x y : List ℕ) (xs ys : List (List ℕ)) → x ∷ xs ≡ y ∷ ys → xs ≡ ys
    tails_same x y xs ys e = cc

before_none : (objects : List ℕ) → before_all [] objects ≡ []
before_none [] = refl
before_none (o ∷ os) = before_none os

none_of : (choices : List ObjectId) (others : List (List ℕ)) (rest : Bool) → (rest ≡ false → others ≡ []) → (nat_lt 0 (length choices) && rest) ≡ false → before_all others (numbers_of choices) ≡ []
none_of [] others rest h e = refl
none_of (c ∷ cs) others rest h e = ap (λ l. before_all l (numbers_of (c ∷ cs))) (h (right_false (nat_lt 0 (length (c ∷ cs))) rest (some_of cs) e)) ∙ before_none (numbers_of (c ∷ cs))
  where
    right_false : (b r : Bool) → b ≡ true → (b && r) ≡ false → r ≡ false
    right_false true r f e = e
    right_false false r f e = cc

    some_of : (cs : List ObjectId) → nat_lt 0 (suc (length cs)) ≡ true
    some_of cs = lt-ltb 0 (suc (length cs)) (omega arith)

-- where one has no choice there are no bindings
pub no_bindings : (ws : List Wheel) → list_all has_choice ws ≡ false → bindings_of choices_of ws ≡ []
no_bindings [] e = cc
no_bindings (w ∷ ws) e = none_of w.choices.now (bindings_of choices_of ws) (list_all has_choice ws) (no_bindings ws) e

-- bindings by lists of choices
by_lists : {K : Type 0} (f : K → List ℕ) (xs : List K) → bindings_of f xs ≡ bindings_of (λ (l : List ℕ). l) (map f xs)
by_lists f [] = refl
by_lists f (x ∷ xs) = ap (λ l. before_all l (f x)) (by_lists f xs)

pub same_bindings : (below : ℕ → List ℕ) (kinds : List ℕ) (ws : List Wheel) → map choices_of ws ≡ map below kinds → bindings_of choices_of ws ≡ bindings_of below kinds
same_bindings below kinds ws e = by_lists choices_of ws ∙ ap (bindings_of (λ (l : List ℕ). l)) e ∙ sym (by_lists below kinds)

-- ---- by places

pub all_at : (p : Wheel → Bool) (ws : List Wheel) (i : ℕ) (d : Wheel) → i < length ws → list_all p ws ≡ true → p (get_or ws i d) ≡ true
all_at p [] i d h all = absurd (omega (arith, h))
all_at p (w ∷ ws) zero d h all = (and_parts (p w) (list_all p ws) all).0
all_at p (w ∷ ws) (suc i) d h all = all_at p ws i d (omega (arith, h)) (and_parts (p w) (list_all p ws) all).1

pub all_set : (p : Wheel → Bool) (ws : List Wheel) (i : ℕ) (v d : Wheel) → p v ≡ p (get_or ws i d) → list_all p ws ≡ true → list_all p (set ws i v) ≡ true
all_set p [] i v d e all = refl
all_set p (w ∷ ws) zero v d e all = ap (λ b. b && list_all p ws) e ∙ all
all_set p (w ∷ ws) (suc i) v d e all =
    let parts = and_parts (p w) (list_all p ws) all in
    and_from (p w) (list_all p (set ws i v)) parts.0 (all_set p ws i v d e parts.1)

pub none_after : (rest : List ObjectId) → length rest < 1 → drop 1 (numbers_of rest) ≡ []
none_after [] h = refl
none_after (x ∷ xs) h = absurd (omega (arith, h))

pub none_behind : (rest : List ObjectId) → eqb (length (take (length rest - 1) (drop 1 rest))) 0 ≡ true → drop 1 (numbers_of rest) ≡ []
none_behind [] h = refl
none_behind (x ∷ []) h = refl
none_behind (x ∷ y ∷ ys) h = absurd (let e = ap length (take_rest (x ∷ y ∷ ys) 1) in grind (arith, nat_tests, e, h))

pub one_behind : (rest : List ObjectId) → eqb (length (take (length rest - 1) (drop 1 rest))) 0 ≡ false → drop 1 (numbers_of rest) ≡ get_or (numbers_of (take (length rest - 1) (drop 1 rest))) 0 0 ∷ drop 1 (numbers_of (take (length rest - 1) (drop 1 rest)))
one_behind [] h = absurd (grind (arith, nat_tests, h))
one_behind (x ∷ []) h = absurd (grind (arith, nat_tests, h))
one_behind (x ∷ y ∷ ys) h = ap (λ l. get_or (numbers_of l) 0 0 ∷ drop 1 (numbers_of l)) (sym (take_rest (x ∷ y ∷ ys) 1))

-- the wheel at a place, from which on the others have begun anew, is turned into another of the same choices
module _ (ws : List Wheel) (at i : ℕ) (d v : Wheel) (e : at ≡ i + 1) (h : i < length ws) (same : choices_of (get_or ws i d) ≡ choices_of v) where
  at_place : (F : List Wheel → List Wheel → List (List ℕ)) → F (take at ws) (drop at ws) ≡ F (take i ws ++ get_or ws i d ∷ []) (drop (i + 1) ws)
  at_place F = ap (λ n. F (take n ws) (drop n ws)) e ∙ ap (λ l. F l (drop (i + 1) ws)) (take_more ws i d h)

  pub over_at : drop 1 (rest_of (get_or ws i d)) ≡ [] → carried (take at ws) (drop at ws) ≡ carried (take i (set ws i v)) (drop i (set ws i v))
  over_at none =
      at_place carried
      ∙ over (take i ws) (get_or ws i d) v (drop (i + 1) ws) same none
      ∙ ap (λ l. carried l (v ∷ drop (i + 1) ws)) (sym (take-set ws i v))
      ∙ ap (carried (take i (set ws i v))) (sym (drop-set ws i v h))

  pub onward_at : drop 1 (rest_of (get_or ws i d)) ≡ shown v ∷ drop 1 (rest_of v) → left (drop at ws) ≡ bindings_of choices_of (drop at ws) → carried (take at ws) (drop at ws) ≡ left (set ws i v)
  onward_at next begun =
      at_place carried
      ∙ onward (take i ws) (get_or ws i d) v (drop (i + 1) ws) same next (ap (λ n. left (drop n ws)) (sym e) ∙ begun ∙ ap (λ n. bindings_of choices_of (drop n ws)) e)
      ∙ ap (λ n. left (take i ws ++ v ∷ drop n ws)) (add-one i)
      ∙ ap left (sym (set_split ws i v h))

  pub anew_at : has_choice v ≡ true → rest_of v ≡ choices_of v → left (drop at ws) ≡ bindings_of choices_of (drop at ws) → left (drop i (set ws i v)) ≡ bindings_of choices_of (drop i (set ws i v))
  anew_at has first begun =
      ap left (drop-set ws i v h)
      ∙ anew v (drop (i + 1) ws) has first (ap (λ n. left (drop n ws)) (sym e) ∙ begun ∙ ap (λ n. bindings_of choices_of (drop n ws)) e)
      ∙ ap (bindings_of choices_of) (sym (drop-set ws i v h))

-- before anything has turned, from the end
pub at_end : (ws : List Wheel) → (left (drop (length ws) ws) ≡ bindings_of choices_of (drop (length ws) ws)) × (left ws ≡ map shown ws ∷ carried (take (length ws) ws) (drop (length ws) ws))
at_end ws = (
  ap left (drop_all (length ws) ws (omega arith)) ∙ ap (bindings_of choices_of) (sym (drop_all (length ws) ws (omega arith))),
  at_first ws ∙ ap (λ l. map shown ws ∷ carried l []) (sym (take_all (length ws) ws (omega arith))) ∙ ap (λ l. map shown ws ∷ carried (take (length ws) ws) l) (sym (drop_all (length ws) ws (omega arith))),
)

-- the wheels before anything has turned, or none where a variable has no choice
pub all_left : (below : ℕ → List ℕ) (kinds : List ℕ) (ws : List Wheel) (n : ℕ) (none : Bool) → length kinds ≤ n → map choices_of ws ≡ map below (take n kinds) → map rest_of ws ≡ map choices_of ws → not none ≡ list_all has_choice ws → (if none then [] else left ws) ≡ bindings_of below kinds
all_left below kinds ws n true h same first all = sym (no_bindings ws (sym all)) ∙ same_bindings below (take n kinds) ws same ∙ ap (bindings_of below) (take_all n kinds h)
all_left below kinds ws n false h same first all = all_anew ws (sym all) first ∙ same_bindings below (take n kinds) ws same ∙ ap (bindings_of below) (take_all n kinds h)
