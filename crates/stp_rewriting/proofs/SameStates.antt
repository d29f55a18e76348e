-- Entries leave the same at an atom where each that writes it has one among the others at the same moment, which writes
-- it the same way, and back.
use Rattle.std.proofs.Common.{◌≡◌, ℕ, ◌≤◌, Bool, true, false, not, ◌&&◌, ◌||◌, cond, nat_le, List, Contains, refl, ap, ◌∙◌, arith}
use Rattle.std.specs.List.{list_any}
use Rattle.std.proofs.lemmas.Bool.{le-leb}
use Rattle.std.proofs.lemmas.Bool.Decides.{nat_tests}
use Rattle.stp_cond.specs.Atoms.{has}
use Rattle.stp_happen.specs.Plain.{PlainEntry, writes, is_latest_write, state_after}
use Rattle.stp_happen.proofs.Members.{same_tests, and_left, and_right, and_both, passing_member, any_passes, each_passes, all_pass}
use Rattle.stp_rewriting.proofs.Atoms.{first_holds}

pub record HasCounterpart (a : ℕ) (os : List PlainEntry) (e : PlainEntry) : Type 0 where
  pub o : PlainEntry
  pub there : Contains os o
  pub same_time : o.time ≡ e.time
  pub also_writes : writes o a ≡ true
  pub same_way : has o.event.adds a ≡ has e.event.adds a

abbrev pub HaveCounterparts : ℕ → List PlainEntry → List PlainEntry → Type 0
HaveCounterparts a es os = (e : PlainEntry) → Contains es e → writes e a ≡ true → HasCounterpart a os e

late_test : (b : Bool) (m n : ℕ) → b ≡ true → (not b || nat_le m n) ≡ true → m ≤ n
late_test b m n e h = grind (arith, nat_tests)

is_late : (b : Bool) (m n : ℕ) → (b ≡ true → m ≤ n) → (not b || nat_le m n) ≡ true
is_late true m n h = le-leb m n (h refl)
is_late false m n h = refl

abbrev is_last_adder : List PlainEntry → ℕ → PlainEntry → Bool
is_last_adder es a e = has e.event.adds a && is_latest_write es a e.time

also_written : (es os : List PlainEntry) (a : ℕ) → HaveCounterparts a es os → list_any (λ e. writes e a) es ≡ true → list_any (λ e. writes e a) os ≡ true
also_written es os a m h =
    let r = passing_member (λ (e : PlainEntry). writes e a) es h in
    let c = m r.0 r.1 r.2 in
    any_passes (λ e. writes e a) os c.o c.there c.also_writes

also_added : (es os : List PlainEntry) (a : ℕ) → HaveCounterparts a es os → HaveCounterparts a os es → list_any (is_last_adder es a) es ≡ true → list_any (is_last_adder os a) os ≡ true
also_added es os a m back h =
    let r = passing_member (is_last_adder es a) es h in
    let adds : has r.0.event.adds a ≡ true = and_left (has r.0.event.adds a) (is_latest_write es a r.0.time) r.2 in
    let late : is_latest_write es a r.0.time ≡ true = and_right (has r.0.event.adds a) (is_latest_write es a r.0.time) r.2 in
    let c = m r.0 r.1 (first_holds (has r.0.event.adds a) (has r.0.event.dels a) adds) in
    any_passes (is_last_adder os a) os c.o c.there (and_both (has c.o.event.adds a) (is_latest_write os a c.o.time) (c.same_way ∙ adds)
    (all_pass (λ o. not (writes o a) || nat_le o.time c.o.time) os (λ o j. is_late (writes o a) o.time c.o.time (λ w.
    let d = back o j w in
    let before : d.o.time ≤ r.0.time = late_test (writes d.o a) d.o.time r.0.time d.also_writes (each_passes (λ x. not (writes x a) || nat_le x.time r.0.time) es late d.o d.there) in
    omega (arith, before, d.same_time, c.same_time)))))

pub state_same : (one other : ℕ → Bool) (es os : List PlainEntry) (a : ℕ) → one a ≡ other a → HaveCounterparts a es os → HaveCounterparts a os es → state_after one es a ≡ state_after other os a
state_same one other es os a first m back =
    let written = same_tests (list_any (λ e. writes e a) es) (list_any (λ e. writes e a) os) (also_written es os a m) (also_written os es a back) in
    let added = same_tests (list_any (is_last_adder es a) es) (list_any (is_last_adder os a) os) (also_added es os a m back) (also_added os es a back m) in
    ap (λ x. cond x (list_any (is_last_adder es a) es) (one a)) written
    ∙ (ap (λ x. cond (list_any (λ e. writes e a) os) x (one a)) added ∙ ap (λ x. cond (list_any (λ e. writes e a) os) (list_any (is_last_adder os a) os) x) first)
