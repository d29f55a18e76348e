-- The first of the faults of each kind is the first fault of the run.
use Rattle.std.proofs.Common.{◌≡◌, ℕ, ◌↔◌, Bool, true, List, [], ◌∷◌, ◌++◌, Option, Some, None, IsNone, IfSome, Contains, refl, sym, ap, subst, ◌∙◌, arith}
use Rattle.std.specs.List.{cons_option}
use Rattle.std.proofs.lemmas.Bool.{both_ways}
use Rattle.stp_happen.specs.declared.fault.Fault.{Fault}
use Rattle.stp_happen.specs.Faults.{FirstFaultsMeanFailure, IsFirstFault, conditions, faults_of, goal_in, goals, interferences, over_alls, overlaps}
use Rattle.stp_happen.specs.Firsts.{first_of, sooner_of}
use Rattle.stp_happen.specs.Plain.{PlainRun, Executes, at_end, state_after}
use Rattle.stp_happen.specs.Runs.{plain_run}
use Rattle.stp_happen.specs.Views.{entries_of, run_of, spans_of}
use Rattle.stp_happen.specs.declared.run.Entry.{Entry}
use Rattle.stp_happen.specs.declared.run.Run.{Run}
use Rattle.stp_happen.specs.declared.run.Span.{Span}
use Rattle.stp_cond.specs.Truth.{meaning_of, state_of_row}
use Rattle.stp_cond.specs.declared.cond.Cond.TheVariants.{True}
use Rattle.std.proofs.Math.Path.{fun_ext}
use Rattle.stp_happen.proofs.FaultOrder.{IsFirstOf, first_is, only, sooner_is}
use Rattle.stp_happen.proofs.NoFault.{executes, none_if_executes}

one_is : (r : Option Fault) → IsFirstOf r (cons_option r [])
one_is None = refl
one_is (Some f) = only f

pub first_of_run : (run : PlainRun) → IsFirstOf (sooner_of (sooner_of (sooner_of (sooner_of (first_of (overlaps run.spans)) (first_of (interferences run.entries))) (first_of (conditions run))) (first_of (over_alls run))) (goal_in (at_end run) run.goal)) (faults_of run)
first_of_run run =
    sooner_is _ _ (overlaps run.spans ++ interferences run.entries ++ conditions run ++ over_alls run) (goals run)
    (sooner_is _ _ (overlaps run.spans ++ interferences run.entries ++ conditions run) (over_alls run)
    (sooner_is _ _ (overlaps run.spans ++ interferences run.entries) (conditions run)
    (sooner_is _ _ (overlaps run.spans) (interferences run.entries) (first_is (overlaps run.spans)) (first_is (interferences run.entries)))
    (first_is (conditions run)))
    (first_is (over_alls run)))
    (one_is (goal_in (at_end run) run.goal))

empty_has_none : (xs : List Fault) (f : Fault) → xs ≡ [] → Contains xs f → ⊥
empty_has_none [] f e i = omega (arith, i.1)
empty_has_none (x ∷ xs) f e i = cc

pub first_faults_mean_failure : FirstFaultsMeanFailure
first_faults_mean_failure run f is h = empty_has_none (faults_of run) f (none_if_executes run h) is.there

pub none_exactly : (run : PlainRun) (r : Option Fault) → IsFirstOf r (faults_of run) → IsNone r ↔ Executes run
none_exactly run None is = (λ e. executes run is, λ h. refl)
none_exactly run (Some f) is = (λ e. absurd (both_ways true e refl), λ h. absurd (empty_has_none (faults_of run) f (none_if_executes run h) is.0))

pub some_is_first : (run : PlainRun) (r : Option Fault) → IsFirstOf r (faults_of run) → IfSome r (IsFirstFault run)
some_is_first run None is = tt
some_is_first run (Some f) is = record { there = is.0; first = is.1 }

-- the first of the five kinds, as the code puts them together
pub found : (run : Run) (entries : List Entry) (some spans : List Span) (row : List Bool) (last : ℕ → Bool) (overlap interference condition over_all goal of_pairs third of_entries result : Option Fault) →
    entries ≡ run.entries → some ≡ run.spans → spans ≡ run.spans → row ≡ run.initial →
    overlap ≡ first_of (overlaps (spans_of some)) → interference ≡ first_of (interferences (entries_of entries)) →
    condition ≡ first_of (conditions (run_of entries spans row True)) → over_all ≡ first_of (over_alls (run_of entries spans row True)) →
    ((a : ℕ) → last a ≡ state_after (state_of_row row) (entries_of entries) a) → goal ≡ goal_in last (meaning_of run.goal.now) →
    of_pairs ≡ sooner_of overlap interference → third ≡ sooner_of of_pairs condition → of_entries ≡ sooner_of third over_all → result ≡ sooner_of of_entries goal →
    IsFirstOf result (faults_of (plain_run run))
found run entries some spans row last overlap interference condition over_all goal of_pairs third of_entries result e s s' r o i c a l g one two three four =
    let plain = plain_run run in
    let o' : overlap ≡ first_of (overlaps plain.spans) = o ∙ ap (λ x. first_of (overlaps (spans_of x))) s in
    let i' : interference ≡ first_of (interferences plain.entries) = i ∙ ap (λ x. first_of (interferences (entries_of x))) e in
    let c' : condition ≡ first_of (conditions plain) = c ∙ (ap (λ x. first_of (conditions (run_of x spans row True))) e ∙ ap (λ x. first_of (conditions (run_of run.entries spans x True))) r) in
    let a' : over_all ≡ first_of (over_alls plain) = a ∙ (ap (λ x. first_of (over_alls (run_of x spans row True))) e ∙ (ap (λ x. first_of (over_alls (run_of run.entries x row True))) s' ∙ ap (λ x. first_of (over_alls (run_of run.entries run.spans x True))) r)) in
    let end : last ≡ at_end plain = fun_ext l ∙ (ap (λ x. state_after (state_of_row x) (entries_of entries)) r ∙ ap (λ x. state_after (state_of_row run.initial) (entries_of x)) e) in
    let g' : goal ≡ goal_in (at_end plain) plain.goal = g ∙ ap (λ x. goal_in x plain.goal) end in
    let first : of_pairs ≡ sooner_of (first_of (overlaps plain.spans)) (first_of (interferences plain.entries)) = one ∙ (ap (λ x. sooner_of x interference) o' ∙ ap (sooner_of (first_of (overlaps plain.spans))) i') in
    let second : third ≡ sooner_of (sooner_of (first_of (overlaps plain.spans)) (first_of (interferences plain.entries))) (first_of (conditions plain)) = two ∙ (ap (λ x. sooner_of x condition) first ∙ ap (sooner_of (sooner_of (first_of (overlaps plain.spans)) (first_of (interferences plain.entries)))) c') in
    let both : of_entries ≡ sooner_of (sooner_of (sooner_of (first_of (overlaps plain.spans)) (first_of (interferences plain.entries))) (first_of (conditions plain))) (first_of (over_alls plain)) =
    three ∙ (ap (λ x. sooner_of x over_all) second ∙ ap (sooner_of (sooner_of (sooner_of (first_of (overlaps plain.spans)) (first_of (interferences plain.entries))) (first_of (conditions plain)))) a') in
    let all = four ∙ (ap (λ x. sooner_of x goal) both ∙ ap (sooner_of (sooner_of (sooner_of (sooner_of (first_of (overlaps plain.spans)) (first_of (interferences plain.entries))) (first_of (conditions plain))) (first_of (over_alls plain)))) g') in
    subst (λ x. IsFirstOf x (faults_of plain)) (sym all) (first_of_run plain)
