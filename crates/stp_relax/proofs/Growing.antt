-- The more is possible, the more formulas are.
use Rattle.std.proofs.Common.{◌≡◌, Bool, true, false, not, ◌&&◌, ◌||◌, Option, Some, None, IfSome, refl, ap}
use Rattle.stp_cond.specs.Formulas.{Formula, Formulas, Always, Never, Atomic, Negation, Conjunction, Disjunction, NoMore, More}
use Rattle.stp_happen.proofs.Members.{and_left, and_right, and_both}
use Rattle.stp_task.specs.Actions.{PlainAction, PlainHappening}
use Rattle.stp_task.specs.Certificates.{Pair, IsAllowed, IsWithin, all_may_be, may_be, possible, possible_end, some_may_be}
use Rattle.stp_relax.specs.Taken.{Allows}
use Rattle.stp_relax.proofs.Tests.{clash, not_true, turned}

pub within_itself : (p : Pair) → IsWithin p p
within_itself p = record { may = λ a h. h; always = λ a h. h }

pub within_more : (p q r : Pair) → IsWithin p q → IsWithin q r → IsWithin p r
within_more p q r h k = record { may = λ a m. k.may a (h.may a m); always = λ a m. h.always a (k.always a m) }

pub or_more : (b c d e : Bool) → (b ≡ true → d ≡ true) → (c ≡ true → e ≡ true) → (b || c) ≡ true → (d || e) ≡ true
or_more true c d e f g h = ap (λ x. x || e) (f refl)
or_more false c true e f g h = refl
or_more false c false e f g h = g h

not_always : (b c : Bool) → (c ≡ true → b ≡ true) → not b ≡ true → not c ≡ true
not_always true c f h = absurd (clash false h refl)
not_always false c f h = turned c (not_true c (λ e. clash false (f e) refl))

mutual
  pub grows : (p q : Pair) → IsWithin p q → (value : Bool) (f : Formula) → may_be p value f ≡ true → may_be q value f ≡ true
  grows p q w true Always h = h
  grows p q w false Always h = h
  grows p q w true Never h = h
  grows p q w false Never h = h
  grows p q w true (Atomic atom) h = w.may atom h
  grows p q w false (Atomic atom) h = not_always (p.always atom) (q.always atom) (w.always atom) h
  grows p q w true (Negation part) h = grows p q w false part h
  grows p q w false (Negation part) h = grows p q w true part h
  grows p q w true (Conjunction parts) h = all_grow p q w true parts h
  grows p q w false (Conjunction parts) h = some_grows p q w false parts h
  grows p q w true (Disjunction parts) h = some_grows p q w true parts h
  grows p q w false (Disjunction parts) h = all_grow p q w false parts h

  all_grow : (p q : Pair) → IsWithin p q → (value : Bool) (fs : Formulas) → all_may_be p value fs ≡ true → all_may_be q value fs ≡ true
  all_grow p q w value NoMore h = h
  all_grow p q w value (More f fs) h =
      and_both (may_be q value f) (all_may_be q value fs) (grows p q w value f (and_left (may_be p value f) (all_may_be p value fs) h)) (all_grow p q w value fs (and_right (may_be p value f) (all_may_be p value fs) h))

  some_grows : (p q : Pair) → IsWithin p q → (value : Bool) (fs : Formulas) → some_may_be p value fs ≡ true → some_may_be q value fs ≡ true
  some_grows p q w value NoMore h = h
  some_grows p q w value (More f fs) h =
      or_more (may_be p value f) (some_may_be p value fs) (may_be q value f) (some_may_be q value fs) (grows p q w value f) (some_grows p q w value fs) h

pub possible_grows : (p q : Pair) → IsWithin p q → (f : Formula) → possible p f ≡ true → possible q f ≡ true
possible_grows p q w f h = grows p q w true f h

pub end_grows : (p q : Pair) → IsWithin p q → (action : PlainAction) (e : PlainHappening) → possible_end p action e ≡ true → possible_end q action e ≡ true
end_grows p q w action e h =
    let s = and_left (possible p action.start.cond) (possible p action.over && possible p e.cond) h in
    let r = and_right (possible p action.start.cond) (possible p action.over && possible p e.cond) h in
    and_both (possible q action.start.cond) (possible q action.over && possible q e.cond) (possible_grows p q w action.start.cond s)
    (and_both (possible q action.over) (possible q e.cond) (possible_grows p q w action.over (and_left (possible p action.over) (possible p e.cond) r)) (possible_grows p q w e.cond (and_right (possible p action.over) (possible p e.cond) r)))

pub allowed_grows : (p q : Pair) → IsWithin p q → (e : PlainHappening) → IsAllowed p e → IsAllowed q e
allowed_grows p q w e h = record {
  added = λ a k. w.may a (h.added a k);
  deleted = λ a k. not_true (q.always a) (λ m. clash (p.always a) (w.always a m) (h.deleted a k));
}

pub finish_grows : (seen less now more : Pair) → IsWithin less seen → IsWithin now more → (action : PlainAction) (finish : Option PlainHappening) →
    IfSome finish (λ e. possible_end seen action e ≡ true → IsAllowed now e) → IfSome finish (λ e. possible_end less action e ≡ true → IsAllowed more e)
finish_grows seen less now more v w action None h = tt
finish_grows seen less now more v w action (Some e) h = λ k. allowed_grows now more w e (h (end_grows less seen v action e k))

-- what was allowed stays so, and where less is seen less has to be allowed
pub allows_grow : (seen less now more : Pair) → IsWithin less seen → IsWithin now more → (action : PlainAction) → Allows seen now action → Allows less more action
allows_grow seen less now more v w action h = record {
  start = λ k. allowed_grows now more w action.start (h.start (possible_grows less seen v action.start.cond k));
  finish = finish_grows seen less now more v w action action.finish h.finish;
}
