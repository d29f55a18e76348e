-- Calls that are to fail, now or later.
use Rattle.std.proofs.Common.{◌≡◌, ◌≤◌, ℕ, Bool, true, false, not, ◌&&◌, List, [], ◌∷◌, refl, sym, ◌∙◌, arith, inl, inr, nat_le, ◌==◌}
use Rattle.std.specs.List.{list_any}
use Rattle.std.specs.Option.{is_some}
use Rattle.std.proofs.Math.Bool.{true-or, or-true, and-true, and-false}
use Rattle.std.proofs.lemmas.Bool.{cases_Bool, false≢true, eqb-true, leb-true, le-leb, or_from, or_parts}
use Rattle.stp_io.specs.Calls.{fails_now, fails_later}
use Rattle.stp_io.specs.Named.{file_of}
use Rattle.stp_io.specs.Store.{StoreState, is_steady}

-- where no number is at least a, none is at least a greater one
pub none_past : (numbers : List ℕ) (a b : ℕ) → a ≤ b → list_any (λ n. nat_le a n) numbers ≡ false → list_any (λ n. nat_le b n) numbers ≡ false
none_past [] a b h none = refl
none_past (x ∷ xs) a b h none =
    let parts = or_parts (nat_le a x) (list_any (λ n. nat_le a n) xs) none in
    let rest : list_any (λ n. nat_le b n) xs ≡ false = none_past xs a b h parts.1 in
    elim (cases_Bool (nat_le b x)) [
      | inl past ↦ absurd (false≢true (sym parts.0 ∙ le-leb a x (omega (arith, leb-true b x past))))
      | inr short ↦ or_from (nat_le b x) (list_any (λ n. nat_le b n) xs) short rest
    ]

-- a number that is there is at least itself
pub now_or_later : (numbers : List ℕ) (a : ℕ) → list_any (λ n. n == a) numbers ≡ true → list_any (λ n. nat_le a n) numbers ≡ true
now_or_later [] a h = h
now_or_later (x ∷ xs) a h =
    elim (cases_Bool (x == a)) [
      | inl same ↦ rw (le-leb a x (omega (arith, eqb-true x a same))) (true-or (list_any (λ n. nat_le a n) xs))
      | inr other ↦ rw (now_or_later xs a (rw other at h)) (or-true (nat_le a x))
    ]

pub still : (there past now : Bool) → (past ≡ false → now ≡ false) → (there && not past) ≡ true → (there && not now) ≡ true
still there past now h e =
    elim (cases_Bool past) [
      | inl more ↦ absurd (false≢true (sym (and-false there) ∙ (rw more at e)))
      | inr none ↦ rw (h none) (rw none at e)
    ]

-- a store with the same files that is further on in the same calls is steady where it was
pub steady_after : (old new : StoreState) → new.files ≡ old.files → new.calls.failing ≡ old.calls.failing → old.calls.next ≤ new.calls.next → (n : List ℕ) → is_steady old n ≡ true → is_steady new n ≡ true
steady_after old new files failing onward n h =
    still (is_some (file_of new.files n)) (fails_later old.calls) (fails_later new.calls)
    (λ none. rw failing (none_past old.calls.failing old.calls.next new.calls.next onward none))
    (rw files h)

pub not_steady : (there now later : Bool) → (now ≡ true → later ≡ true) → false ≡ (there && not now) → (there && not later) ≡ false
not_steady there now later h e =
    elim (cases_Bool now) [
      | inl fails ↦ rw (h fails) (and-false there)
      | inr none ↦ let gone : there ≡ false = sym (and-true there) ∙ sym (rw none at e) in rw gone refl
    ]

-- a store that fails a call is not steady at its name
pub unsteady : (s : StoreState) (n : List ℕ) → false ≡ (is_some (file_of s.files n) && not (fails_now s.calls)) → is_steady s n ≡ false
unsteady s n = not_steady (is_some (file_of s.files n)) (fails_now s.calls) (fails_later s.calls) (now_or_later s.calls.failing s.calls.next)
