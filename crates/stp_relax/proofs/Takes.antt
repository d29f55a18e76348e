-- Events and actions that have been looked at.
use Rattle.std.proofs.Common.{◌≡◌, ℕ, true, ◌&&◌, Some, None, IfSome, length, refl, sym, ◌∙◌, subst, arith}
use Rattle.stp_happen.proofs.Members.{and_left, and_right, and_both}
use Rattle.stp_task.specs.Actions.{PlainAction, PlainHappening}
use Rattle.stp_task.specs.Certificates.{IsAllowed, possible, possible_end}
use Rattle.stp_relax.specs.declared.progress.Progress.{Progress}
use Rattle.stp_relax.specs.Taken.{IsAsBefore, IsBegun, IsFinished, IsGrown, IsOfSize, IsTaken, pair_so_far}
use Rattle.stp_relax.proofs.Growing.{allowed_grows, possible_grows, within_more}

pub before_more : (q r s : Progress) (a : ℕ) → IsAsBefore q r a → IsAsBefore r s a → IsAsBefore q s a
before_more q r s a h k = record { unnoted = h.unnoted; may = k.may ∙ h.may; always = k.always ∙ h.always }

pub grown_more : (q r s : Progress) → IsGrown q r → IsGrown r s → IsGrown q s
grown_more q r s h k = record {
  size = λ n m. k.size n (h.size n m);
  within = within_more (pair_so_far q) (pair_so_far r) (pair_so_far s) h.within k.within;
  unnoted = λ a u. let b = k.unnoted a u in before_more q r s a (h.unnoted a b.unnoted) b;
  less = omega (arith, h.less, k.less);
}

-- an action without an end
pub taken_start : (action : PlainAction) (q r : Progress) → action.finish ≡ None → IsBegun action.start q r → IsTaken action q r
taken_start action q r none h = record {
  grown = h.grown;
  allows = record {
    start = h.allowed;
    finish = subst (λ f. IfSome f (λ e. possible_end (pair_so_far q) action e ≡ true → IsAllowed (pair_so_far r) e)) (sym none) tt;
  };
  least = λ other w k. h.least other w k.start;
}

-- an action whose start is possible
pub taken_end : (action : PlainAction) (e : PlainHappening) (q r s : Progress) → action.finish ≡ Some e → possible (pair_so_far q) action.start.cond ≡ true →
    IsBegun action.start q r → IsFinished action.over e r s → IsTaken action q s
taken_end action e q r s some begun h k =
    let p = pair_so_far q in
    record {
      grown = grown_more q r s h.grown k.grown;
      allows = record {
        start = λ m. allowed_grows (pair_so_far r) (pair_so_far s) k.grown.within action.start (h.allowed m);
        finish = subst (λ f. IfSome f (λ e. possible_end p action e ≡ true → IsAllowed (pair_so_far s) e)) (sym some)
            (λ m. let n = and_right (possible p action.start.cond) (possible p action.over && possible p e.cond) m in
            k.allowed (possible_grows p (pair_so_far r) h.grown.within action.over (and_left (possible p action.over) (possible p e.cond) n))
            (possible_grows p (pair_so_far r) h.grown.within e.cond (and_right (possible p action.over) (possible p e.cond) n)));
      };
      least = λ other w m.
          let start = possible_grows p other w action.start.cond begun in
          let finish : possible_end other action e ≡ true → IsAllowed other e = subst (λ f. IfSome f (λ e. possible_end other action e ≡ true → IsAllowed other e)) some m.finish in
          k.least other (h.least other w m.start)
          (λ o c. finish (and_both (possible other action.start.cond) (possible other action.over && possible other e.cond) start (and_both (possible other action.over) (possible other e.cond) o c)));
    }

-- rows of one length stay so
pub size_kept : (q r : Progress) → IsOfSize (length q.may) q → IsGrown q r → IsOfSize (length r.may) r
size_kept q r h g = let s = g.size (length q.may) h in record { may = refl; always = s.always ∙ sym s.may }

pub grown_itself : (q : Progress) → IsGrown q q
grown_itself q = record {
  size = λ n h. h;
  within = record { may = λ a h. h; always = λ a h. h };
  unnoted = λ a u. record { unnoted = u; may = refl; always = refl };
  less = omega arith;
}
