-- Runs whose moments are moved in order, finer grids, and boxes without uncertain steps.
use Rattle.std.proofs.Common.{◌≡◌, ℕ, ◌*◌, ◌<◌, ◌≤◌, List, ◌++◌, map, Contains, inl, inr, ap, sym, ◌∙◌, arith}
use Rattle.std.proofs.lemmas.List.Elements.{Contains-append_left, Contains-append_right}
use Rattle.std.proofs.lemmas.Bool.Decides.{nat_tests}
use Rattle.stp_happen.specs.Plain.{PlainEntry, PlainSpan, PlainRun, Executes, AreCalm, IsFed, IsKept, AreApart}
use Rattle.stp_happen.specs.Moves.{moved_entry, moved_span, moved, moments, KeepsOrder, MovedRunsAgree, FinerRunsAgree}
use Rattle.stp_happen.proofs.Members.{all_of, each_of, all_pairs, each_pair, member_map, all_mapped, of_mapped, all_mapped_pairs, of_mapped_pairs}
use Rattle.stp_happen.proofs.StateLists.{moved_lt, moved_le, moved_before, moved_after, moved_state}

-- ---- moments of a run

time_of : (run : PlainRun) (e : PlainEntry) → Contains run.entries e → Contains (moments run) e.time
time_of run e i = Contains-append_left (map (λ e. e.time) run.entries) (map (λ s. s.from) run.spans ++ map (λ s. s.to) run.spans) e.time (member_map (λ e. e.time) run.entries e i)

from_of : (run : PlainRun) (s : PlainSpan) → Contains run.spans s → Contains (moments run) s.from
from_of run s i =
    Contains-append_right (map (λ e. e.time) run.entries) (map (λ s. s.from) run.spans ++ map (λ s. s.to) run.spans) s.from
    (Contains-append_left (map (λ s. s.from) run.spans) (map (λ s. s.to) run.spans) s.from (member_map (λ s. s.from) run.spans s i))

to_of : (run : PlainRun) (s : PlainSpan) → Contains run.spans s → Contains (moments run) s.to
to_of run s i =
    Contains-append_right (map (λ e. e.time) run.entries) (map (λ s. s.from) run.spans ++ map (λ s. s.to) run.spans) s.to
    (Contains-append_right (map (λ s. s.from) run.spans) (map (λ s. s.to) run.spans) s.to (member_map (λ s. s.to) run.spans s i))

-- ---- a map that keeps the order of moments keeps it both ways

up_to : (f : ℕ → ℕ) (ts : List ℕ) → KeepsOrder f ts → (x y : ℕ) → Contains ts x → Contains ts y → x ≤ y → f x ≤ f y
up_to f ts keeps x y i j l = let e = moved_le f ts keeps x y i j in grind (arith, nat_tests)

down_to : (f : ℕ → ℕ) (ts : List ℕ) → KeepsOrder f ts → (x y : ℕ) → Contains ts x → Contains ts y → f x ≤ f y → x ≤ y
down_to f ts keeps x y i j l = let e = moved_le f ts keeps x y i j in grind (arith, nat_tests)

below : (f : ℕ → ℕ) (ts : List ℕ) → KeepsOrder f ts → (x y : ℕ) → Contains ts x → Contains ts y → f x < f y → x < y
below f ts keeps x y i j l = let e = moved_lt f ts keeps x y i j in grind (arith, nat_tests)

one_to_one : (f : ℕ → ℕ) (ts : List ℕ) → KeepsOrder f ts → (x y : ℕ) → Contains ts x → Contains ts y → f x ≡ f y → x ≡ y
one_to_one f ts keeps x y i j e =
    let a : x ≤ y = down_to f ts keeps x y i j (omega arith) in
    let b : y ≤ x = down_to f ts keeps y x j i (omega arith) in
    omega arith

-- ---- the law

moves : (f : ℕ → ℕ) (run : PlainRun) → KeepsOrder f (moments run) → Executes run → Executes (moved f run)
moves f run keeps x = record {
  calm = all_mapped_pairs (moved_entry f) (moved_entry f) AreCalm run.entries run.entries
      (λ e o i j l t. each_pair AreCalm run.entries run.entries x.calm e o i j l (one_to_one f (moments run) keeps e.time o.time (time_of run e i) (time_of run o j) t));
  fed = all_mapped (moved_entry f) (IsFed (moved f run)) run.entries
      (λ e i. ap e.event.cond (moved_before f (moments run) keeps run (time_of run) e.time (time_of run e i)) ∙ each_of (IsFed run) run.entries x.fed e i);
  kept = all_mapped_pairs (moved_entry f) (moved_span f) (IsKept (moved f run)) run.entries run.spans
      (λ e s i j from to.
      ap s.over (moved_after f (moments run) keeps run (time_of run) e.time (time_of run e i))
      ∙ each_pair (IsKept run) run.entries run.spans x.kept e s i j
      (down_to f (moments run) keeps s.from e.time (from_of run s j) (time_of run e i) from) (below f (moments run) keeps e.time s.to (time_of run e i) (to_of run s j) to));
  apart = all_mapped_pairs (moved_span f) (moved_span f) AreApart run.spans run.spans
      (λ s o i j l k. elim (each_pair AreApart run.spans run.spans x.apart s o i j l k) [
        | inl h ↦ inl (keeps s.to o.from (to_of run s i) (from_of run o j) h)
        | inr h ↦ inr (keeps o.to s.from (to_of run o j) (from_of run s i) h)
      ]);
  reached = ap run.goal (moved_state f (moments run) keeps run.initial run.entries (time_of run)) ∙ x.reached;
}

moves_back : (f : ℕ → ℕ) (run : PlainRun) → KeepsOrder f (moments run) → Executes (moved f run) → Executes run
moves_back f run keeps x = record {
  calm = all_pairs AreCalm run.entries run.entries
      (λ e o i j l t. of_mapped_pairs (moved_entry f) (moved_entry f) AreCalm run.entries run.entries x.calm e o i j l (ap f t));
  fed = all_of (IsFed run) run.entries
      (λ e i. ap e.event.cond (sym (moved_before f (moments run) keeps run (time_of run) e.time (time_of run e i))) ∙ of_mapped (moved_entry f) (IsFed (moved f run)) run.entries x.fed e i);
  kept = all_pairs (IsKept run) run.entries run.spans
      (λ e s i j from to.
      ap s.over (sym (moved_after f (moments run) keeps run (time_of run) e.time (time_of run e i)))
      ∙ of_mapped_pairs (moved_entry f) (moved_span f) (IsKept (moved f run)) run.entries run.spans x.kept e s i j
      (up_to f (moments run) keeps s.from e.time (from_of run s j) (time_of run e i) from) (keeps e.time s.to (time_of run e i) (to_of run s j) to));
  apart = all_pairs AreApart run.spans run.spans
      (λ s o i j l k. elim (of_mapped_pairs (moved_span f) (moved_span f) AreApart run.spans run.spans x.apart s o i j l k) [
        | inl h ↦ inl (below f (moments run) keeps s.to o.from (to_of run s i) (from_of run o j) h)
        | inr h ↦ inr (below f (moments run) keeps o.to s.from (to_of run o j) (from_of run s i) h)
      ]);
  reached = ap run.goal (sym (moved_state f (moments run) keeps run.initial run.entries (time_of run))) ∙ x.reached;
}

pub moved_runs_agree : MovedRunsAgree
moved_runs_agree f run keeps = (moves f run keeps, moves_back f run keeps)

pub finer_runs_agree : FinerRunsAgree
finer_runs_agree k run h = moved_runs_agree (λ t. k * t) run (λ x y i j l. grind arith)
