-- What entries leave at an atom is the way of the latest that writes it.
use Rattle.std.proofs.Common.{◌≡◌, ℕ, ◌<◌, ◌≤◌, Bool, true, false, not, ◌&&◌, ◌||◌, cond, nat_le, List, Contains, ◌⊎◌, inl, inr, refl, ap, sym, ◌∙◌, arith}
use Rattle.std.specs.List.{list_any}
use Rattle.std.proofs.lemmas.Bool.{cases_Bool, le-leb}
use Rattle.std.proofs.lemmas.Bool.Decides.{nat_tests}
use Rattle.stp_cond.specs.Atoms.{has}
use Rattle.stp_happen.specs.Plain.{PlainEntry, writes, is_latest_write, state_after}
use Rattle.stp_happen.proofs.Members.{same_tests, and_left, and_right, and_both, passing_member, any_passes, each_passes, all_pass}
use Rattle.stp_happen.proofs.Tops.{IsTop, NonePasses, top}

none_false : {X : Type 0} (p : X → Bool) (xs : List X) → NonePasses p xs → list_any p xs ≡ false
none_false p xs none = elim (cases_Bool (list_any p xs)) [ inl e ↦ let r = passing_member p xs e in absurd (none r.0 r.1 r.2) | inr e ↦ e ]

pub no_writer : (initial : ℕ → Bool) (es : List PlainEntry) (a : ℕ) → NonePasses (λ e. writes e a) es → state_after initial es a ≡ initial a
no_writer initial es a none = ap (λ b. cond b (list_any (λ e. has e.event.adds a && is_latest_write es a e.time) es) (initial a)) (none_false (λ e. writes e a) es none)

late_test : (b : Bool) (m n : ℕ) → b ≡ true → (not b || nat_le m n) ≡ true → m ≤ n
late_test b m n e h = grind (arith, nat_tests)

is_late : (b : Bool) (m n : ℕ) → (b ≡ true → m ≤ n) → (not b || nat_le m n) ≡ true
is_late true m n h = le-leb m n (h refl)
is_late false m n h = refl

or_left : (b c : Bool) → b ≡ true → (b || c) ≡ true
or_left b c e = grind arith

-- each that writes the atom otherwise than q comes before it
abbrev pub ComesLast : List PlainEntry → ℕ → PlainEntry → Type 0
ComesLast es a q = (e : PlainEntry) → Contains es e → writes e a ≡ true → (has e.event.adds a ≡ has q.event.adds a) ⊎ (e.time < q.time)

not_before : (es : List PlainEntry) (a : ℕ) (q e : PlainEntry) → q.time ≤ e.time → (has e.event.adds a ≡ has q.event.adds a) ⊎ (e.time < q.time) → has e.event.adds a ≡ has q.event.adds a
not_before es a q e l (inl same) = same
not_before es a q e l (inr before) = absurd (omega arith)

pub latest_way : (initial : ℕ → Bool) (es : List PlainEntry) (a : ℕ) (q : PlainEntry) → Contains es q → writes q a ≡ true → ComesLast es a q → state_after initial es a ≡ has q.event.adds a
latest_way initial es a q i w last =
    ap (λ b. cond b (list_any (λ e. has e.event.adds a && is_latest_write es a e.time) es) (initial a)) (any_passes (λ e. writes e a) es q i w)
    ∙ same_tests (list_any (λ e. has e.event.adds a && is_latest_write es a e.time) es) (has q.event.adds a) (found initial es a q i w last) (finds initial es a q i w last (top (λ e. e.time) (λ e. writes e a) es))
  where
    found : (initial : ℕ → Bool) (es : List PlainEntry) (a : ℕ) (q : PlainEntry) → Contains es q → writes q a ≡ true → ComesLast es a q →
        list_any (λ e. has e.event.adds a && is_latest_write es a e.time) es ≡ true → has q.event.adds a ≡ true
    found initial es a q i w last h =
        let r = passing_member (λ e. has e.event.adds a && is_latest_write es a e.time) es h in
        let adds : has r.0.event.adds a ≡ true = and_left (has r.0.event.adds a) (is_latest_write es a r.0.time) r.2 in
        let late : is_latest_write es a r.0.time ≡ true = and_right (has r.0.event.adds a) (is_latest_write es a r.0.time) r.2 in
        let order : q.time ≤ r.0.time = late_test (writes q a) q.time r.0.time w (each_passes (λ o. not (writes o a) || nat_le o.time r.0.time) es late q i) in
        sym (not_before es a q r.0 order (last r.0 r.1 (or_left (has r.0.event.adds a) (has r.0.event.dels a) adds))) ∙ adds

    finds : (initial : ℕ → Bool) (es : List PlainEntry) (a : ℕ) (q : PlainEntry) → Contains es q → writes q a ≡ true → ComesLast es a q →
        NonePasses (λ e. writes e a) es ⊎ ((m : PlainEntry) × IsTop (λ e. e.time) (λ e. writes e a) es m) →
        has q.event.adds a ≡ true → list_any (λ e. has e.event.adds a && is_latest_write es a e.time) es ≡ true
    finds initial es a q i w last (inl none) h = absurd (none q i w)
    finds initial es a q i w last (inr (m, t)) h =
        let adds : has m.event.adds a ≡ true = not_before es a q m (t.most q i w) (last m t.there t.passes) ∙ h in
        let late : is_latest_write es a m.time ≡ true = all_pass (λ o. not (writes o a) || nat_le o.time m.time) es (λ o j. is_late (writes o a) o.time m.time (t.most o j)) in
        any_passes (λ e. has e.event.adds a && is_latest_write es a e.time) es m t.there (and_both (has m.event.adds a) (is_latest_write es a m.time) adds late)
