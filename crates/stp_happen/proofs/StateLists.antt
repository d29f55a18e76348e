-- What entries leave depends on their members alone, and on the order of their times.
use Rattle.std.proofs.Common.{◌≡◌, ℕ, Bool, not, ◌&&◌, ◌||◌, nat_lt, nat_le, List, map, filter, Contains, refl, ap, ◌∙◌, arith}
use Rattle.std.specs.List.{list_any, list_all}
use mathlib.Core.Path.{fun_ext}
use Rattle.std.proofs.lemmas.Bool.Decides.{nat_tests}
use Rattle.stp_cond.specs.Atoms.{has}
use Rattle.stp_happen.specs.Plain.{PlainEntry, PlainRun, writes, is_latest_write, state_after, before, after}
use Rattle.stp_happen.specs.Moves.{moved_entry, moved, KeepsOrder}
use Rattle.stp_happen.specs.Orders.{HaveSameMembers}
use Rattle.stp_happen.proofs.Members.{same_tests, passing_member, any_passes, each_passes, all_pass, kept_member, member_of_kept, any_alike, all_alike, kept_alike}

-- ---- the same members

pub any_of_same : {X : Type 0} (p : X → Bool) (xs ys : List X) → HaveSameMembers xs ys → list_any p xs ≡ list_any p ys
any_of_same p xs ys same = same_tests (list_any p xs) (list_any p ys)
    (λ e. let r = passing_member p xs e in any_passes p ys r.0 ((same r.0).0 r.1) r.2)
    (λ e. let r = passing_member p ys e in any_passes p xs r.0 ((same r.0).1 r.1) r.2)

pub all_of_same : {X : Type 0} (p : X → Bool) (xs ys : List X) → HaveSameMembers xs ys → list_all p xs ≡ list_all p ys
all_of_same p xs ys same = same_tests (list_all p xs) (list_all p ys)
    (λ e. all_pass p ys (λ x i. each_passes p xs e x ((same x).1 i)))
    (λ e. all_pass p xs (λ x i. each_passes p ys e x ((same x).0 i)))

pub kept_of_same : {X : Type 0} (p : X → Bool) (xs ys : List X) → HaveSameMembers xs ys → HaveSameMembers (filter p xs) (filter p ys)
kept_of_same p xs ys same x =
    (λ i. let r = member_of_kept p xs x i in kept_member p ys x ((same x).0 r.0) r.1, λ i. let r = member_of_kept p ys x i in kept_member p xs x ((same x).1 r.0) r.1)

pub state_of_same : (initial : ℕ → Bool) (es os : List PlainEntry) → HaveSameMembers es os → state_after initial es ≡ state_after initial os
state_of_same initial es os same = fun_ext (λ a.
    let latest : (e : PlainEntry) → (has e.event.adds a && is_latest_write es a e.time) ≡ (has e.event.adds a && is_latest_write os a e.time) =
    λ e. ap (λ b. has e.event.adds a && b) (all_of_same (λ o. not (writes o a) || nat_le o.time e.time) es os same) in
    let added : list_any (λ e. has e.event.adds a && is_latest_write es a e.time) es ≡ list_any (λ e. has e.event.adds a && is_latest_write os a e.time) os =
    any_of_same (λ e. has e.event.adds a && is_latest_write es a e.time) es os same ∙ ap (λ p. list_any p os) (fun_ext latest) in
    rw (any_of_same (λ e. writes e a) es os same, added))

-- ---- moved times

pub moved_le : (f : ℕ → ℕ) (ts : List ℕ) → KeepsOrder f ts → (x y : ℕ) → Contains ts x → Contains ts y → nat_le (f x) (f y) ≡ nat_le x y
moved_le f ts keeps x y i j = grind (arith, nat_tests, keeps x y i j, keeps y x j i)

pub moved_lt : (f : ℕ → ℕ) (ts : List ℕ) → KeepsOrder f ts → (x y : ℕ) → Contains ts x → Contains ts y → nat_lt (f x) (f y) ≡ nat_lt x y
moved_lt f ts keeps x y i j = grind (arith, nat_tests, keeps x y i j, keeps y x j i)

-- each entry's time is one of these moments
abbrev pub AreTimed : List ℕ → List PlainEntry → Type 0
AreTimed ts es = (e : PlainEntry) → Contains es e → Contains ts e.time

moved_latest : (f : ℕ → ℕ) (ts : List ℕ) → KeepsOrder f ts → (es : List PlainEntry) → AreTimed ts es → (a t : ℕ) → Contains ts t → is_latest_write (map (moved_entry f) es) a (f t) ≡ is_latest_write es a t
moved_latest f ts keeps es timed a t i =
    all_alike (moved_entry f) (λ o. not (writes o a) || nat_le o.time (f t)) (λ o. not (writes o a) || nat_le o.time t) es
    (λ o j. ap (λ b. not (writes o a) || b) (moved_le f ts keeps o.time t (timed o j) i))

pub moved_state : (f : ℕ → ℕ) (ts : List ℕ) → KeepsOrder f ts → (initial : ℕ → Bool) (es : List PlainEntry) → AreTimed ts es → state_after initial (map (moved_entry f) es) ≡ state_after initial es
moved_state f ts keeps initial es timed = fun_ext (λ a.
    let written : list_any (λ e. writes e a) (map (moved_entry f) es) ≡ list_any (λ e. writes e a) es =
    any_alike (moved_entry f) (λ e. writes e a) (λ e. writes e a) es (λ e i. refl) in
    let added : list_any (λ e. has e.event.adds a && is_latest_write (map (moved_entry f) es) a e.time) (map (moved_entry f) es) ≡ list_any (λ e. has e.event.adds a && is_latest_write es a e.time) es =
    any_alike (moved_entry f) (λ e. has e.event.adds a && is_latest_write (map (moved_entry f) es) a e.time) (λ e. has e.event.adds a && is_latest_write es a e.time) es
    (λ e i. ap (λ b. has e.event.adds a && b) (moved_latest f ts keeps es timed a e.time (timed e i))) in
    rw (written, added))

timed_kept : (ts : List ℕ) (p : PlainEntry → Bool) (es : List PlainEntry) → AreTimed ts es → AreTimed ts (filter p es)
timed_kept ts p es timed e i = timed e (member_of_kept p es e i).0

pub moved_before : (f : ℕ → ℕ) (ts : List ℕ) → KeepsOrder f ts → (run : PlainRun) → AreTimed ts run.entries → (t : ℕ) → Contains ts t → before (moved f run) (f t) ≡ before run t
moved_before f ts keeps run timed t i =
    ap (state_after run.initial) (kept_alike (moved_entry f) (λ e. nat_lt e.time (f t)) (λ e. nat_lt e.time t) run.entries (λ e j. moved_lt f ts keeps e.time t (timed e j) i))
    ∙ moved_state f ts keeps run.initial (filter (λ e. nat_lt e.time t) run.entries) (timed_kept ts (λ e. nat_lt e.time t) run.entries timed)

pub moved_after : (f : ℕ → ℕ) (ts : List ℕ) → KeepsOrder f ts → (run : PlainRun) → AreTimed ts run.entries → (t : ℕ) → Contains ts t → after (moved f run) (f t) ≡ after run t
moved_after f ts keeps run timed t i =
    ap (state_after run.initial) (kept_alike (moved_entry f) (λ e. nat_le e.time (f t)) (λ e. nat_le e.time t) run.entries (λ e j. moved_le f ts keeps e.time t (timed e j) i))
    ∙ moved_state f ts keeps run.initial (filter (λ e. nat_le e.time t) run.entries) (timed_kept ts (λ e. nat_le e.time t) run.entries timed)
