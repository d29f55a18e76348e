-- Whether a run executes depends on the members of its entries and spans alone.
use Rattle.std.proofs.Common.{◌≡◌, ℕ, nat_lt, nat_le, filter, Contains, ap, sym, ◌∙◌, subst}
use Rattle.stp_happen.specs.Plain.{PlainRun, Executes, AreCalm, IsFed, IsKept, AreApart, state_after, before, after, at_end}
use Rattle.stp_happen.specs.Orders.{AreAlike, IsInSomeOrder, OrderIsFree}
use Rattle.stp_happen.proofs.Members.{all_of, each_of, all_pairs, each_pair}
use Rattle.stp_happen.proofs.StateLists.{state_of_same, kept_of_same}

-- ---- alike runs

pub alike_turned : (run other : PlainRun) → AreAlike run other → AreAlike other run
alike_turned run other h = record {
  entries = λ e. ((h.entries e).1, (h.entries e).0);
  spans = λ s. ((h.spans s).1, (h.spans s).0);
  initial = sym h.initial;
  goal = sym h.goal;
}

pub alike_in_order : (run other : PlainRun) → IsInSomeOrder run other → AreAlike run other
alike_in_order run other h = record {
  entries = h.entries;
  spans = λ s. (λ i. subst (λ l. Contains l s) h.spans i, λ i. subst (λ l. Contains l s) (sym h.spans) i);
  initial = h.initial;
  goal = h.goal;
}

-- ---- their states

pub before_alike : (run other : PlainRun) → AreAlike run other → (t : ℕ) → before run t ≡ before other t
before_alike run other h t =
    ap (λ i. state_after i (filter (λ e. nat_lt e.time t) run.entries)) h.initial
    ∙ state_of_same other.initial (filter (λ e. nat_lt e.time t) run.entries) (filter (λ e. nat_lt e.time t) other.entries) (kept_of_same (λ e. nat_lt e.time t) run.entries other.entries h.entries)

pub after_alike : (run other : PlainRun) → AreAlike run other → (t : ℕ) → after run t ≡ after other t
after_alike run other h t =
    ap (λ i. state_after i (filter (λ e. nat_le e.time t) run.entries)) h.initial
    ∙ state_of_same other.initial (filter (λ e. nat_le e.time t) run.entries) (filter (λ e. nat_le e.time t) other.entries) (kept_of_same (λ e. nat_le e.time t) run.entries other.entries h.entries)

pub end_alike : (run other : PlainRun) → AreAlike run other → at_end run ≡ at_end other
end_alike run other h = ap (λ i. state_after i run.entries) h.initial ∙ state_of_same other.initial run.entries other.entries h.entries

pub goal_alike : (run other : PlainRun) → AreAlike run other → run.goal (at_end run) ≡ other.goal (at_end other)
goal_alike run other h = ap (λ g. g (at_end run)) h.goal ∙ ap other.goal (end_alike run other h)

-- ---- the law

executes_alike : (run other : PlainRun) → AreAlike run other → Executes run → Executes other
executes_alike run other h x = record {
  calm = all_pairs AreCalm other.entries other.entries (λ e o i j. each_pair AreCalm run.entries run.entries x.calm e o ((h.entries e).1 i) ((h.entries o).1 j));
  fed = all_of (IsFed other) other.entries (λ e i. ap e.event.cond (sym (before_alike run other h e.time)) ∙ each_of (IsFed run) run.entries x.fed e ((h.entries e).1 i));
  kept = all_pairs (IsKept other) other.entries other.spans
      (λ e s i j from to. ap s.over (sym (after_alike run other h e.time)) ∙ each_pair (IsKept run) run.entries run.spans x.kept e s ((h.entries e).1 i) ((h.spans s).1 j) from to);
  apart = all_pairs AreApart other.spans other.spans (λ s o i j. each_pair AreApart run.spans run.spans x.apart s o ((h.spans s).1 i) ((h.spans o).1 j));
  reached = sym (goal_alike run other h) ∙ x.reached;
}

pub order_is_free : OrderIsFree
order_is_free run other h = (executes_alike run other h, executes_alike other run (alike_turned run other h))
