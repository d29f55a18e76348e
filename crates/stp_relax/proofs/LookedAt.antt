-- Conditions of which the first members are possible, and actions that have been looked at so far.
use Rattle.std.proofs.Common.{◌≡◌, ℕ, zero, suc, ◌<◌, true, false, List, [], ◌∷◌, length, map, take, get_or, slice_set, All, Option, Some, None, IfSome, refl, sym, ap, ◌∙◌, subst, inl, inr, arith}
use Rattle.std.proofs.lemmas.Bool.{cases_eq}
use Rattle.std.proofs.lemmas.List.{get_or_default, get_or-set_same, get_or-set_other, length-set}
use Rattle.std.proofs.lemmas.List.Elements.{All-weaker}
use Rattle.std.proofs.lemmas.Option.{IfSome_then}
use Rattle.stp_cond.specs.declared.cond.Cond.{Cond}
use Rattle.stp_cond.specs.declared.event.Event.{Event}
use Rattle.stp_cond.specs.Formulas.{formulas_of, view}
use Rattle.stp_happen.proofs.Members.{and_both, and_left, and_right}
use Rattle.stp_task.specs.declared.action.GroundAction.{GroundAction}
use Rattle.stp_task.specs.Actions.{happening_of}
use Rattle.stp_task.specs.Certificates.{Pair, IsAllowed, IsWithin, all_may_be, possible}
use Rattle.stp_relax.specs.declared.progress.Progress.{Progress}
use Rattle.stp_relax.specs.declared.progress.Seen.{Seen}
use Rattle.stp_relax.specs.Literals.{pair_in}
use Rattle.stp_relax.specs.Seen.{AreMet, AreSeen, IsMetUpTo, IsSeen, IsUnseen}
use Rattle.stp_relax.specs.Taken.{pair_so_far}
use Rattle.stp_relax.proofs.Growing.{allowed_grows, possible_grows}
use Rattle.stp_relax.proofs.Tests.{clash, not_true}

-- ---- all parts, and one that is not possible

abbrev IsPossible : Pair → Cond → Type 0
IsPossible p c = possible p (view c) ≡ true

pub all_met : (p : Pair) (parts : List Cond) → All (IsPossible p) parts → all_may_be p true (formulas_of (map view parts)) ≡ true
all_met p [] h = refl
all_met p (c ∷ cs) h = and_both (possible p (view c)) (all_may_be p true (formulas_of (map view cs))) (h 0 c (omega arith)) (all_met p cs (λ k d l. h (suc k) d (omega (arith, l))))

each_met : (p : Pair) (parts : List Cond) → all_may_be p true (formulas_of (map view parts)) ≡ true → All (IsPossible p) parts
each_met p [] h k d l = absurd (omega (arith, l))
each_met p (c ∷ cs) h zero d l = and_left (possible p (view c)) (all_may_be p true (formulas_of (map view cs))) h
each_met p (c ∷ cs) h (suc k) d l = each_met p cs (and_right (possible p (view c)) (all_may_be p true (formulas_of (map view cs))) h) k d (omega (arith, l))

pub one_unmet : (p : Pair) (parts : List Cond) (i : ℕ) (c : Cond) → i < length parts → c ≡ get_or parts i c → possible p (view c) ≡ false → all_may_be p true (formulas_of (map view parts)) ≡ false
one_unmet p parts i c l e h =
    not_true (all_may_be p true (formulas_of (map view parts))) (λ m. clash (possible p (view c)) (subst (IsPossible p) (sym e) (each_met p parts m i c l)) h)

-- ---- what was possible stays so

pub met_grows : (p q : Pair) → IsWithin p q → (n : ℕ) (cond : Cond) → IsMetUpTo p n cond → IsMetUpTo q n cond
met_grows p q w n cond h parts e = All-weaker (IsPossible p) (IsPossible q) (λ c m. possible_grows p q w (view c) m) (take n parts.now) (h parts e)

pub seen_grows : (p q : Pair) → IsWithin p q → (action : GroundAction) (s : Seen) → IsSeen p action s → IsSeen q action s
seen_grows p q w action s h = record {
  start = met_grows p q w s.start action.start.cond.now h.start;
  over = met_grows p q w s.over action.over.now h.over;
  finish = IfSome_then action.finish h.finish (λ e m. met_grows p q w s.finish e.cond.now m);
  begun = λ b. (possible_grows p q w (view action.start.cond.now) (h.begun b).0, allowed_grows p q w (happening_of action.start) (h.begun b).1);
  ended = λ b. IfSome_then action.finish (h.ended b) (λ e m. allowed_grows p q w (happening_of e) m);
}

-- ---- an event that is taken over

pub seen_started : (p q : Pair) (action : GroundAction) (s : Seen) (n : ℕ) → IsWithin p q → IsSeen p action s → IsMetUpTo p n action.start.cond.now → possible p (view action.start.cond.now) ≡ true →
    IsAllowed q (happening_of action.start) → IsSeen q action (record s { start = n; has_begun = true })
seen_started p q action s n w h m k a =
    let more = seen_grows p q w action s h in
    record {
      start = met_grows p q w n action.start.cond.now m;
      over = more.over;
      finish = more.finish;
      begun = λ b. (possible_grows p q w (view action.start.cond.now) k, a);
      ended = more.ended;
    }

pub seen_ended : (p q : Pair) (action : GroundAction) (e : Event) (s : Seen) (over finish : ℕ) → action.finish ≡ Some e → IsWithin p q → IsSeen p action s → IsMetUpTo p over action.over.now → IsMetUpTo p finish e.cond.now →
    IsAllowed q (happening_of e) → IsSeen q action (record s { over = over; finish = finish; has_ended = true })
seen_ended p q action e s over finish some w h m k a =
    let more = seen_grows p q w action s h in
    record {
      start = more.start;
      over = met_grows p q w over action.over.now m;
      finish = subst (λ f. IfSome f (λ e. IsMetUpTo q finish e.cond.now)) (sym some) (met_grows p q w finish e.cond.now k);
      begun = more.begun;
      ended = λ b. subst (λ f. IfSome f (λ e. IsAllowed q (happening_of e))) (sym some) a;
    }

-- ---- all actions

nothing_met : (p : Pair) (parts : List Cond) → AreMet p 0 parts
nothing_met p parts k d l = absurd (omega (arith, l))

some_anyhow : {X : Type 0} {P : X → Type 0} (o : Option X) → ((x : X) → P x) → IfSome o P
some_anyhow None h = tt
some_anyhow (Some x) h = h x

pub unseen_yet : (p : Pair) (actions : List GroundAction) (seen : List Seen) → length seen ≡ length actions → All IsUnseen seen → AreSeen p actions seen
unseen_yet p actions seen e h = record {
  size = e;
  each = λ j d s l.
      let u = h j s (subst (λ n. j < n) (sym e) l) in
      record {
        start = λ parts same. subst (λ n. AreMet p n parts.now) (sym u.start) (nothing_met p parts.now);
        over = λ parts same. subst (λ n. AreMet p n parts.now) (sym u.over) (nothing_met p parts.now);
        finish = some_anyhow (get_or actions j d).finish (λ e parts same. subst (λ n. AreMet p n parts.now) (sym u.finish) (nothing_met p parts.now));
        begun = λ b. absurd (clash (get_or seen j s).has_begun b u.begun);
        ended = λ b. absurd (clash (get_or seen j s).has_ended b u.ended);
      };
}

pub seen_at : (p q : Pair) (actions : List GroundAction) (seen : List Seen) (place : ℕ) (action : GroundAction) (s : Seen) → IsWithin p q → AreSeen p actions seen → place < length actions → action ≡ get_or actions place action →
    IsSeen q action s → AreSeen q actions (slice_set seen place s)
seen_at p q actions seen place action s w h l e k = record {
  size = length-set seen place s ∙ h.size;
  each = λ j d t m.
      elim (cases_eq j place) [
        | inl i ↦
            let this : get_or actions j d ≡ action = ap (λ n. get_or actions n d) i ∙ (get_or_default actions place d action l ∙ sym e) in
            let that : get_or (slice_set seen place s) j t ≡ s = ap (λ n. get_or (slice_set seen place s) n t) i ∙ get_or-set_same seen place s t (subst (λ n. place < n) (sym h.size) l) in
            subst (λ a. IsSeen q a (get_or (slice_set seen place s) j t)) (sym this) (subst (IsSeen q action) (sym that) k)
        | inr n ↦
            subst (IsSeen q (get_or actions j d)) (sym (get_or-set_other seen place j s t n))
            (seen_grows p q w (get_or actions j d) (get_or seen j t) (h.each j d t m))
      ];
}

-- rows that are the same
pub popped_seen : (actions : List GroundAction) (seen : List Seen) (q r : Progress) → r.may ≡ q.may → r.always ≡ q.always → AreSeen (pair_so_far q) actions seen → AreSeen (pair_so_far r) actions seen
popped_seen actions seen q r m a h = subst (λ p. AreSeen p actions seen) (sym (ap (λ x. pair_in x r.always) m ∙ ap (λ x. pair_in q.may x) a)) h
