-- What the plain check computes, in the words of the definitions.
use Rattle.std.proofs.Common.{◌≡◌, ℕ, ◌-◌, take, ◌==◌, ◌<◌, ◌≤◌, nat_lt, nat_le, Bool, true, false, not, ◌&&◌, ◌||◌, List, [], ◌∷◌, ◌++◌, map, filter, drop, length, get_or, All, refl, ap, ap₂, sym, ◌∙◌, arith, append_assoc}
use Rattle.std.specs.List.{list_all}
use Rattle.std.proofs.Math.Logic.{∥∥₁_elim}
use Rattle.std.proofs.Props.{props}
use Rattle.std.proofs.lemmas.Bool.Decides.{nat_tests}
use Rattle.std.proofs.lemmas.Grind.{common_steps}
use Rattle.std.proofs.lemmas.List.{append-nil}
use Rattle.std.proofs.lemmas.List.Folds.{list_all-append}
use Rattle.stp_cond.specs.Truth.{meaning_of, is_below, state_of_row}
use Rattle.stp_happen.specs.declared.owners.OwnedBox.{OwnedBox}
use Rattle.stp_happen.specs.Plain.{state_after}
use Rattle.stp_happen.specs.SoundOwned.{IsOwner}
use Rattle.stp_happen.specs.OwnerViews.{plain_owners}
use Rattle.stp_happen.proofs.Members.{kept_alike}
use Rattle.stp_window.specs.declared.windows.Window.{Window}
use Rattle.stp_window.specs.declared.windows.Lasting.{Lasting}
use Rattle.stp_window.specs.Windows.{Point, OpenSpan, WindowBox, entry_at, is_unsettled}
use Rattle.stp_strength.specs.Failures.{sublists, others}
use Rattle.stp_window.specs.OwnerWindows.{points_of_owners, open_spans_of_owners}
use Rattle.stp_window.specs.Boxed.{windows_in}
use Rattle.stp_window.specs.Views.{point_of, points_of, spans_of, box_of}
use Rattle.stp_strength.specs.Views.{late_entries}
use Rattle.stp_strength.proofs.Certainty.{filter_true}

-- ---- lists

map_map : {X Y Z : Type 0} (f : X → Y) (g : Y → Z) (xs : List X) → map g (map f xs) ≡ map (λ x. g (f x)) xs
map_map f g [] = refl
map_map f g (x ∷ xs) = ap (λ l. g (f x) ∷ l) (map_map f g xs)

-- what windows leave that pass a test
pub left_of : (initial : ℕ → Bool) (windows : List Window) (c : Point → Bool) →
    state_after initial (late_entries (filter (λ w. c (point_of w)) windows)) ≡ state_after initial (map (entry_at (λ p. p.high)) (filter c (points_of windows)))
left_of initial windows c =
    ap (state_after initial)
    (sym (map_map point_of (entry_at (λ p. p.high)) (filter (λ w. c (point_of w)) windows)) ∙ ap (map (entry_at (λ p. p.high))) (sym (kept_alike point_of c (λ w. c (point_of w)) windows (λ w i. refl))))

pub lows_of : (windows : List Window) → map (λ w. w.low) windows ≡ map (λ p. p.low) (points_of windows)
lows_of windows = sym (map_map point_of (λ (p : Point). p.low) windows)

pub others_of : (windows : List Window) (number time : ℕ) → map (λ w. w.step) (filter (λ w. is_unsettled time (point_of w) && not (w.step == number)) windows)
    ≡ map (λ p. p.step) (filter (λ p. is_unsettled time p && not (p.step == number)) (points_of windows))
others_of windows number time =
    sym (map_map point_of (λ (p : Point). p.step) (filter (λ w. is_unsettled time (point_of w) && not (w.step == number)) windows))
    ∙ ap (map (λ (p : Point). p.step)) (sym (kept_alike point_of (λ p. is_unsettled time p && not (p.step == number)) (λ w. is_unsettled time (point_of w) && not (w.step == number)) windows (λ w i. refl)))

-- ---- choices one after another

and_true : (b : Bool) → (b && true) ≡ b
and_true true = refl
and_true false = refl

pub no_other : (test : List ℕ → Bool) (chosen others : List ℕ) → length others ≡ 0 → test chosen ≡ list_all (λ l. test (chosen ++ l)) (sublists others)
no_other test chosen [] e = ap test (sym (append-nil chosen)) ∙ sym (and_true (test (chosen ++ [])))
no_other test chosen (n ∷ ns) e = absurd (omega arith)

with_first : (test : List ℕ → Bool) (chosen : List ℕ) (n : ℕ) (ls : List (List ℕ)) → list_all (λ l. test (chosen ++ l)) (map (λ l. n ∷ l) ls) ≡ list_all (λ l. test ((chosen ++ n ∷ []) ++ l)) ls
with_first test chosen n [] = refl
with_first test chosen n (l ∷ ls) = ap₂ (λ b c. b && c) (ap test (sym (append_assoc chosen (n ∷ []) l))) (with_first test chosen n ls)

pub one_other : (test : List ℕ → Bool) (chosen others : List ℕ) → 0 < length others →
    list_all (λ l. test (chosen ++ l)) (sublists others) ≡ (list_all (λ l. test (chosen ++ l)) (sublists (drop 1 others)) && list_all (λ l. test ((chosen ++ get_or others 0 0 ∷ []) ++ l)) (sublists (drop 1 others)))
one_other test chosen [] h = absurd (omega arith)
one_other test chosen (n ∷ ns) h = list_all-append (λ l. test (chosen ++ l)) (sublists ns) (map (λ l. n ∷ l) (sublists ns)) ∙ ap (λ b. list_all (λ l. test (chosen ++ l)) (sublists ns) && b) (with_first test chosen n (sublists ns))

rest_is : (xs : List ℕ) → take (length xs - 1) (drop 1 xs) ≡ drop 1 xs
rest_is [] = refl
rest_is (x ∷ xs) = grind (arith, common_steps)

-- the choices with the first of them, where those without it have passed
pub last_other : (test : List ℕ → Bool) (chosen others : List ℕ) → 0 < length others → list_all (λ l. test (chosen ++ l)) (sublists (take (length others - 1) (drop 1 others))) ≡ true →
    list_all (λ l. test ((chosen ++ get_or others 0 0 ∷ []) ++ l)) (sublists (take (length others - 1) (drop 1 others))) ≡ list_all (λ l. test (chosen ++ l)) (sublists others)
last_other test chosen others some first =
    ap (λ b. b && list_all (λ l. test ((chosen ++ get_or others 0 0 ∷ []) ++ l)) (sublists (take (length others - 1) (drop 1 others)))) (sym first)
    ∙ (ap (λ rest. list_all (λ l. test (chosen ++ l)) (sublists rest) && list_all (λ l. test ((chosen ++ get_or others 0 0 ∷ []) ++ l)) (sublists rest)) (rest_is others) ∙ sym (one_other test chosen others some))

-- ---- spans

pub inside : (a t b : ℕ) (x : Bool) → a ≤ t → t < b → x ≡ (not (nat_le a t && nat_lt t b) || x)
inside a t b true l k = grind (arith, nat_tests)
inside a t b false l k = grind (arith, nat_tests)

-- ---- the whole

pub last_of : (initial : ℕ → Bool) (windows : List Window) → state_after initial (late_entries windows) ≡ state_after initial (map (entry_at (λ p. p.high)) (filter (λ p. true) (points_of windows)))
last_of initial windows = ap (state_after initial) (sym (map_map point_of (entry_at (λ p. p.high)) windows) ∙ ap (map (entry_at (λ p. p.high))) (sym (filter_true (points_of windows))))

-- an early exit, and the last
pub not_fed : (a c f k g : Bool) → f ≡ false → false ≡ (a && (c && (f && (k && g))))
not_fed true true f k g h = rw h refl
not_fed true false f k g h = refl
not_fed false c f k g h = refl

pub not_kept : (a c f k g : Bool) → k ≡ false → false ≡ (a && (c && (f && (k && g))))
not_kept true true true k g h = rw h refl
not_kept true true false k g h = refl
not_kept true false f k g h = refl
not_kept false c f k g h = refl

pub all_but_the_goal : (a c f k g : Bool) → a ≡ true → c ≡ true → f ≡ true → k ≡ true → g ≡ (a && (c && (f && (k && g))))
all_but_the_goal a c f k g h i p q = rw (h, i, p, q) refl

pub box_same : (boxed : OwnedBox) (windows : List Window) (spans : List Lasting) → points_of windows ≡ points_of_owners (plain_owners boxed.owners) → spans_of spans ≡ open_spans_of_owners (plain_owners boxed.owners) →
    box_of windows spans boxed.initial boxed.goal.now ≡ windows_in boxed
box_same boxed windows spans e f =
    let box : List Point → List OpenSpan → WindowBox = λ ps os. record { points = ps; spans = os; initial = state_of_row boxed.initial; goal = meaning_of boxed.goal.now } in
    ap₂ box e f

pub owners_in_range : (boxed : OwnedBox) → All (IsOwner boxed.grid (length boxed.initial)) boxed.owners
owners_in_range boxed = ∥∥₁_elim boxed.sound (Prim.hlevel props) (λ b k d h. b.owners_in_range k d h)

pub goal_in_range : (boxed : OwnedBox) → is_below (length boxed.initial) boxed.goal.now ≡ true
goal_in_range boxed = ∥∥₁_elim boxed.sound (Prim.hlevel props) (λ b. b.goal_in_range)
