-- From the first state to the least closed pair.
use Rattle.std.proofs.Common.{◌≡◌, ℕ, true, List, length, All, Contains, IfSome, sym, ap, ◌∙◌, subst}
use Rattle.stp_cond.specs.Truth.{state_of_row}
use Rattle.stp_happen.proofs.Members.{all_mapped, each_of, of_mapped, all_of}
use Rattle.std.proofs.lemmas.List.Elements.{All-weaker}
use Rattle.stp_task.specs.declared.task.Task.{Task}
use Rattle.stp_task.specs.declared.task.TimedEvent.{TimedEvent}
use Rattle.stp_task.specs.Actions.{action_of}
use Rattle.stp_task.specs.Certificates.{Pair, IsAllowed, IsClosed, IsLeastClosed, IsWithin, possible, possible_end}
use Rattle.stp_task.specs.Tasks.{PlainTask, plain_task, timed_event_of}
use Rattle.stp_relax.specs.declared.progress.Progress.{Progress}
use Rattle.stp_relax.specs.Literals.{pair_in}
use Rattle.stp_relax.specs.Reached.{AreAdmitted, HasBegun, IsReached}
use Rattle.stp_relax.specs.Taken.{Allows, IsGrown, pair_so_far}
use Rattle.stp_relax.proofs.Growing.{allowed_grows, finish_grows, possible_grows, within_more}

-- ---- at first

pub closed_holds_first : (task : PlainTask) (other : Pair) → IsClosed task other → IsWithin (pair_in task.initial task.initial) other
closed_holds_first task other c = record { may = c.first; always = c.always }

pub begun_from : (task : Task) (timed : List TimedEvent) (q r : Progress) → timed ≡ task.timed → q.may ≡ task.initial → q.always ≡ task.initial → AreAdmitted timed q r → HasBegun (plain_task task) r
begun_from task timed q r e m a h =
    let initial = task.initial in
    let same : pair_so_far q ≡ pair_in initial initial = ap (λ x. pair_in x q.always) m ∙ ap (λ x. pair_in initial x) a in
    record {
      size = h.grown.size (length initial) (record { may = ap length m; always = ap length a });
      first = subst (λ p. IsWithin p (pair_so_far r)) same h.grown.within;
      timed = all_mapped timed_event_of (λ t. IsAllowed (pair_so_far r) t.event) task.timed (λ t i. each_of (λ t. IsAllowed (pair_so_far r) (timed_event_of t).event) timed h.allowed t (subst (λ ts. Contains ts t) (sym e) i));
      least = λ other c.
          h.least other (subst (λ p. IsWithin p other) (sym same) (closed_holds_first (plain_task task) other c))
          (all_of (λ t. IsAllowed other (timed_event_of t).event) timed (λ t i. of_mapped timed_event_of (λ t. IsAllowed other t.event) task.timed c.timed t (subst (λ ts. Contains ts t) e i)));
    }

-- ---- on the way

-- a closed pair allows what each of its actions makes possible
pub closed_allows_each : (task : Task) (other : Pair) → IsClosed (plain_task task) other → All (λ a. Allows other other (action_of a)) task.actions
closed_allows_each task other c =
    all_of (λ a. Allows other other (action_of a)) task.actions (λ a i. record {
      start = of_mapped action_of (λ action. possible other action.start.cond ≡ true → IsAllowed other action.start) task.actions c.starts a i;
      finish = of_mapped action_of (λ action. IfSome action.finish (λ e. possible_end other action e ≡ true → IsAllowed other e)) task.actions c.ends a i;
    })

-- what has begun goes on
pub begun_more : (task : PlainTask) (q r : Progress) → HasBegun task q → IsGrown q r → ((other : Pair) → IsClosed task other → IsWithin (pair_so_far r) other) → HasBegun task r
begun_more task q r h g least = record {
  size = g.size (length task.initial) h.size;
  first = within_more (pair_in task.initial task.initial) (pair_so_far q) (pair_so_far r) h.first g.within;
  timed = All-weaker (λ t. IsAllowed (pair_so_far q) t.event) (λ t. IsAllowed (pair_so_far r) t.event) (λ t k. allowed_grows (pair_so_far q) (pair_so_far r) g.within t.event k) task.timed h.timed;
  least = least;
}

-- ---- in the end

closed_of : (task : PlainTask) (q : Progress) → IsReached task q → IsClosed task (pair_so_far q)
closed_of task q h =
    let p = pair_so_far q in
    record {
      first = h.begun.first.may;
      always = h.begun.first.always;
      starts = All-weaker (λ action. Allows p p action) (λ action. possible p action.start.cond ≡ true → IsAllowed p action.start) (λ action a. a.start) task.actions h.allows;
      ends = All-weaker (λ action. Allows p p action) (λ action. IfSome action.finish (λ e. possible_end p action e ≡ true → IsAllowed p e)) (λ action a. a.finish) task.actions h.allows;
      timed = h.begun.timed;
    }

-- two pairs within each other are closed alike
closed_alike : (task : PlainTask) (p q : Pair) → IsWithin p q → IsWithin q p → IsClosed task q → IsClosed task p
closed_alike task p q w v c = record {
  first = λ a h. v.may a (c.first a h);
  always = λ a h. c.always a (v.always a h);
  starts = All-weaker (λ action. possible q action.start.cond ≡ true → IsAllowed q action.start) (λ action. possible p action.start.cond ≡ true → IsAllowed p action.start) (λ action h k. allowed_grows q p v action.start (h (possible_grows p q w action.start.cond k))) task.actions c.starts;
  ends = All-weaker (λ action. IfSome action.finish (λ e. possible_end q action e ≡ true → IsAllowed q e)) (λ action. IfSome action.finish (λ e. possible_end p action e ≡ true → IsAllowed p e)) (λ action h. finish_grows q p q p w v action action.finish h) task.actions c.ends;
  timed = All-weaker (λ t. IsAllowed q t.event) (λ t. IsAllowed p t.event) (λ t h. allowed_grows q p v t.event h) task.timed c.timed;
}

pub least_from : (task : PlainTask) (q : Progress) (p : Pair) → IsReached task q → ((a : ℕ) → p.may a ≡ state_of_row q.may a) → ((a : ℕ) → p.always a ≡ state_of_row q.always a) → IsLeastClosed task p
least_from task q p h may always =
    let w : IsWithin p (pair_so_far q) = record { may = λ a k. sym (may a) ∙ k; always = λ a k. always a ∙ k } in
    let v : IsWithin (pair_so_far q) p = record { may = λ a k. may a ∙ k; always = λ a k. sym (always a) ∙ k } in
    record {
      closed = closed_alike task p (pair_so_far q) w v (closed_of task q h);
      least = λ other c. within_more p (pair_so_far q) other w (h.begun.least other c);
    }

-- ---- the same rows

pub begun_again : (task : PlainTask) (q r : Progress) → r.may ≡ q.may → r.always ≡ q.always → HasBegun task q → HasBegun task r
begun_again task q r m a h =
    let same : pair_so_far q ≡ pair_so_far r = sym (ap (λ x. pair_in x r.always) m ∙ ap (λ x. pair_in q.may x) a) in
    record {
      size = record { may = ap length m ∙ h.size.may; always = ap length a ∙ h.size.always };
      first = subst (λ p. IsWithin (pair_in task.initial task.initial) p) same h.first;
      timed = subst (λ p. All (λ t. IsAllowed p t.event) task.timed) same h.timed;
      least = λ other c. subst (λ p. IsWithin p other) same (h.least other c);
    }
