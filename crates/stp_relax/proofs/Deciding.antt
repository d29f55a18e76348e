-- The tests of a pair decide what they are to decide.
use Rattle.std.proofs.Common.{◌≡◌, ℕ, Bool, true, false, not, ◌||◌, List, Option, Some, None, IfSome, refl}
use Rattle.std.specs.List.{list_any, list_all}
use Rattle.stp_cond.specs.Atoms.{has}
use Rattle.stp_cond.specs.Truth.{state_of_row}
use Rattle.stp_happen.proofs.Members.{all_of, each_of, all_pass, each_passes, and_left, and_right, and_both}
use Rattle.stp_task.specs.Actions.{PlainAction, PlainHappening}
use Rattle.stp_task.specs.Certificates.{Pair, IsAllowed, IsClosed, possible, possible_end}
use Rattle.stp_task.specs.Tasks.{PlainTask}
use Rattle.stp_relax.specs.Judged.{allows, is_allowed, is_end_allowed, is_timed_allowed}
use Rattle.stp_relax.proofs.Tests.{all_atoms, clash, each_atom, no_atom, no_atoms, not_false, turned}

pub allowed_from : (p : Pair) (e : PlainHappening) → is_allowed p e ≡ true → IsAllowed p e
allowed_from p e h = record {
  added = each_atom p.may e.adds (and_left (list_all p.may e.adds) (not (list_any p.always e.dels)) h);
  deleted = no_atom p.always e.dels (not_false (list_any p.always e.dels) (and_right (list_all p.may e.adds) (not (list_any p.always e.dels)) h));
}

pub is_allowed_from : (p : Pair) (e : PlainHappening) → IsAllowed p e → is_allowed p e ≡ true
is_allowed_from p e h = and_both (list_all p.may e.adds) (not (list_any p.always e.dels)) (all_atoms p.may e.adds h.added) (turned (list_any p.always e.dels) (no_atoms p.always e.dels h.deleted))

-- ---- what follows where a guard is met

if_met : (b c : Bool) → (not b || c) ≡ true → b ≡ true → c ≡ true
if_met true c h k = h
if_met false c h k = absurd (clash false k refl)

meets : (b c : Bool) → (b ≡ true → c ≡ true) → (not b || c) ≡ true
meets true c h = h refl
meets false c h = refl

-- ---- actions

start_of : (p : Pair) (action : PlainAction) → allows p action ≡ true → possible p action.start.cond ≡ true → IsAllowed p action.start
start_of p action h k =
    allowed_from p action.start (if_met (possible p action.start.cond) (is_allowed p action.start) (and_left (not (possible p action.start.cond) || is_allowed p action.start) (is_end_allowed p action action.finish) h) k)

end_by : (p : Pair) (action : PlainAction) (finish : Option PlainHappening) → is_end_allowed p action finish ≡ true → IfSome finish (λ e. possible_end p action e ≡ true → IsAllowed p e)
end_by p action None h = tt
end_by p action (Some e) h = λ k. allowed_from p e (if_met (possible_end p action e) (is_allowed p e) h k)

end_of : (p : Pair) (action : PlainAction) → allows p action ≡ true → IfSome action.finish (λ e. possible_end p action e ≡ true → IsAllowed p e)
end_of p action h = end_by p action action.finish (and_right (not (possible p action.start.cond) || is_allowed p action.start) (is_end_allowed p action action.finish) h)

end_is : (p : Pair) (action : PlainAction) (finish : Option PlainHappening) → IfSome finish (λ e. possible_end p action e ≡ true → IsAllowed p e) → is_end_allowed p action finish ≡ true
end_is p action None h = refl
end_is p action (Some e) h = meets (possible_end p action e) (is_allowed p e) (λ k. is_allowed_from p e (h k))

allows_from : (p : Pair) (action : PlainAction) → (possible p action.start.cond ≡ true → IsAllowed p action.start) → IfSome action.finish (λ e. possible_end p action e ≡ true → IsAllowed p e) → allows p action ≡ true
allows_from p action h k =
    and_both (not (possible p action.start.cond) || is_allowed p action.start) (is_end_allowed p action action.finish)
    (meets (possible p action.start.cond) (is_allowed p action.start) (λ m. is_allowed_from p action.start (h m)))
    (end_is p action action.finish k)

-- ---- closed pairs

abbrev pub pair_with : List ℕ → List ℕ → Pair
pair_with may always = record { may = has may; always = has always }

pub closed_from : (task : PlainTask) (may always : List ℕ) → ((a : ℕ) → state_of_row task.initial a ≡ true → has may a ≡ true) → list_all (state_of_row task.initial) always ≡ true →
    list_all (allows (pair_with may always)) task.actions ≡ true → list_all (is_timed_allowed (pair_with may always)) task.timed ≡ true → IsClosed task (pair_with may always)
closed_from task may always first begins actions timed =
    let p = pair_with may always in
    record {
      first = first;
      always = each_atom (state_of_row task.initial) always begins;
      starts = all_of (λ action. possible p action.start.cond ≡ true → IsAllowed p action.start) task.actions (λ action i. start_of p action (each_passes (allows p) task.actions actions action i));
      ends = all_of (λ action. IfSome action.finish (λ e. possible_end p action e ≡ true → IsAllowed p e)) task.actions (λ action i. end_of p action (each_passes (allows p) task.actions actions action i));
      timed = all_of (λ t. IsAllowed p t.event) task.timed (λ t i. allowed_from p t.event (each_passes (is_timed_allowed p) task.timed timed t i));
    }

pub closed_begins : (task : PlainTask) (may always : List ℕ) → IsClosed task (pair_with may always) → list_all (state_of_row task.initial) always ≡ true
closed_begins task may always c = all_atoms (state_of_row task.initial) always c.always

pub closed_allows : (task : PlainTask) (p : Pair) → IsClosed task p → list_all (allows p) task.actions ≡ true
closed_allows task p c =
    all_pass (allows p) task.actions (λ action i.
    allows_from p action (each_of (λ action. possible p action.start.cond ≡ true → IsAllowed p action.start) task.actions c.starts action i)
    (each_of (λ action. IfSome action.finish (λ e. possible_end p action e ≡ true → IsAllowed p e)) task.actions c.ends action i))

pub closed_timed : (task : PlainTask) (p : Pair) → IsClosed task p → list_all (is_timed_allowed p) task.timed ≡ true
closed_timed task p c = all_pass (is_timed_allowed p) task.timed (λ t i. is_allowed_from p t.event (each_of (λ t. IsAllowed p t.event) task.timed c.timed t i))
