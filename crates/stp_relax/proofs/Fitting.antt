-- States that fit a pair.
use Rattle.std.proofs.Common.{◌≡◌, ℕ, Bool, true, false, not, ◌&&◌, ◌||◌, cond, List, Contains, inl, inr, refl, sym, ap, ◌∙◌}
use Rattle.std.specs.List.{list_any}
use Rattle.std.proofs.lemmas.Bool.{cases_Bool}
use Rattle.stp_cond.specs.Atoms.{PlainEvent, has}
use Rattle.stp_cond.specs.Formulas.{Formula, Formulas, Always, Never, Atomic, Negation, Conjunction, Disjunction, NoMore, More, all_hold, holds_in, some_holds}
use Rattle.stp_cond.proofs.Interferes.{either}
use Rattle.stp_happen.specs.Plain.{PlainEntry, is_latest_write, state_after, writes}
use Rattle.stp_happen.proofs.LatestWay.{latest_way, no_writer}
use Rattle.stp_happen.proofs.Members.{any_passes, passing_member, and_left, and_right, and_both}
use Rattle.stp_task.specs.Certificates.{Pair, all_may_be, may_be, possible, some_may_be}
use Rattle.stp_relax.proofs.Growing.{or_more}
use Rattle.stp_relax.proofs.Tests.{clash, not_false, not_true, or_right, turned}

-- what is true may be, and what is always true is
pub record Fits (p : Pair) (s : ℕ → Bool) : Type 0 where
  pub may : (a : ℕ) → s a ≡ true → p.may a ≡ true
  pub always : (a : ℕ) → p.always a ≡ true → s a ≡ true

-- ---- what is true in a state that fits is possible

not_is_false : (b : Bool) → not b ≡ false → b ≡ true
not_is_false true h = refl
not_is_false false h = sym h

some_of_not_all : (b c d e : Bool) → (b ≡ false → d ≡ true) → (c ≡ false → e ≡ true) → (b && c) ≡ false → (d || e) ≡ true
some_of_not_all true c d e f g h = or_right d e (g h)
some_of_not_all false c d e f g h = ap (λ x. x || e) (f refl)

all_of_none : (b c d e : Bool) → (b ≡ false → d ≡ true) → (c ≡ false → e ≡ true) → (b || c) ≡ false → (d && e) ≡ true
all_of_none true c d e f g h = absurd (clash true refl h)
all_of_none false c d e f g h = and_both d e (f refl) (g h)

mutual
  pub true_may_be : (p : Pair) (s : ℕ → Bool) → Fits p s → (value : Bool) (f : Formula) → holds_in s f ≡ value → may_be p value f ≡ true
  true_may_be p s w true Always h = refl
  true_may_be p s w false Always h = sym h
  true_may_be p s w true Never h = h
  true_may_be p s w false Never h = refl
  true_may_be p s w true (Atomic atom) h = w.may atom h
  true_may_be p s w false (Atomic atom) h = turned (p.always atom) (not_true (p.always atom) (λ e. clash (s atom) (w.always atom e) h))
  true_may_be p s w true (Negation part) h = true_may_be p s w false part (not_false (holds_in s part) h)
  true_may_be p s w false (Negation part) h = true_may_be p s w true part (not_is_false (holds_in s part) h)
  true_may_be p s w true (Conjunction parts) h = all_true p s w parts h
  true_may_be p s w false (Conjunction parts) h = some_false p s w parts h
  true_may_be p s w true (Disjunction parts) h = some_true p s w parts h
  true_may_be p s w false (Disjunction parts) h = all_false p s w parts h

  all_true : (p : Pair) (s : ℕ → Bool) → Fits p s → (fs : Formulas) → all_hold s fs ≡ true → all_may_be p true fs ≡ true
  all_true p s w NoMore h = refl
  all_true p s w (More f fs) h = and_both (may_be p true f) (all_may_be p true fs) (true_may_be p s w true f (and_left (holds_in s f) (all_hold s fs) h)) (all_true p s w fs (and_right (holds_in s f) (all_hold s fs) h))

  some_false : (p : Pair) (s : ℕ → Bool) → Fits p s → (fs : Formulas) → all_hold s fs ≡ false → some_may_be p false fs ≡ true
  some_false p s w NoMore h = sym h
  some_false p s w (More f fs) h = some_of_not_all (holds_in s f) (all_hold s fs) (may_be p false f) (some_may_be p false fs) (true_may_be p s w false f) (some_false p s w fs) h

  some_true : (p : Pair) (s : ℕ → Bool) → Fits p s → (fs : Formulas) → some_holds s fs ≡ true → some_may_be p true fs ≡ true
  some_true p s w NoMore h = h
  some_true p s w (More f fs) h = or_more (holds_in s f) (some_holds s fs) (may_be p true f) (some_may_be p true fs) (true_may_be p s w true f) (some_true p s w fs) h

  all_false : (p : Pair) (s : ℕ → Bool) → Fits p s → (fs : Formulas) → some_holds s fs ≡ false → all_may_be p false fs ≡ true
  all_false p s w NoMore h = refl
  all_false p s w (More f fs) h = all_of_none (holds_in s f) (some_holds s fs) (may_be p false f) (all_may_be p false fs) (true_may_be p s w false f) (all_false p s w fs) h

pub holds_possible : (p : Pair) (s : ℕ → Bool) → Fits p s → (f : Formula) → holds_in s f ≡ true → possible p f ≡ true
holds_possible p s w f h = true_may_be p s w true f h

-- ---- what allowed entries leave fits

-- what an event in a run adds may be true, and what it deletes is not always true
pub record IsFitting (p : Pair) (e : PlainEvent) : Type 0 where
  pub added : (a : ℕ) → has e.adds a ≡ true → p.may a ≡ true
  pub deleted : (a : ℕ) → has e.dels a ≡ true → p.always a ≡ false

may_left : (p : Pair) (initial : ℕ → Bool) → Fits p initial → (es : List PlainEntry) → ((e : PlainEntry) → Contains es e → IsFitting p e.event) → (a : ℕ) → state_after initial es a ≡ true → p.may a ≡ true
may_left p initial w es h a k =
    elim (cases_Bool (list_any (λ e. writes e a) es)) [
      | inl some ↦
          let left : list_any (λ e. has e.event.adds a && is_latest_write es a e.time) es ≡ true = ap (λ b. cond b (list_any (λ e. has e.event.adds a && is_latest_write es a e.time) es) (initial a)) (sym some) ∙ k in
          let m = passing_member (λ e. has e.event.adds a && is_latest_write es a e.time) es left in
          (h m.0 m.1).added a (and_left (has m.0.event.adds a) (is_latest_write es a m.0.time) m.2)
      | inr none ↦ w.may a (sym (no_writer initial es a (λ e i m. clash (list_any (λ e. writes e a) es) (any_passes (λ e. writes e a) es e i m) none)) ∙ k)
    ]

-- an entry that writes what is always true adds it
adds_always : (p : Pair) (e : PlainEntry) (a : ℕ) → IsFitting p e.event → p.always a ≡ true → writes e a ≡ true → has e.event.adds a ≡ true
adds_always p e a h k m = elim (either (has e.event.adds a) (has e.event.dels a) m) [ inl n ↦ n | inr n ↦ absurd (clash (p.always a) k (h.deleted a n)) ]

always_left : (p : Pair) (initial : ℕ → Bool) → Fits p initial → (es : List PlainEntry) → ((e : PlainEntry) → Contains es e → IsFitting p e.event) → (a : ℕ) → p.always a ≡ true → state_after initial es a ≡ true
always_left p initial w es h a k =
    elim (cases_Bool (list_any (λ e. writes e a) es)) [
      | inl some ↦
          let m = passing_member (λ e. writes e a) es some in
          let adds = adds_always p m.0 a (h m.0 m.1) k m.2 in
          latest_way initial es a m.0 m.1 m.2 (λ e i n. inl (adds_always p e a (h e i) k n ∙ sym adds)) ∙ adds
      | inr none ↦ no_writer initial es a (λ e i m. clash (list_any (λ e. writes e a) es) (any_passes (λ e. writes e a) es e i m) none) ∙ w.always a k
    ]

pub left_fits : (p : Pair) (initial : ℕ → Bool) → Fits p initial → (es : List PlainEntry) → ((e : PlainEntry) → Contains es e → IsFitting p e.event) → Fits p (state_after initial es)
left_fits p initial w es h = record { may = may_left p initial w es h; always = always_left p initial w es h }
