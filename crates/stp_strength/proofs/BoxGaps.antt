-- Where a box fails that does not pass the tests of the static facts.
use Rattle.std.proofs.Common.{◌≡◌, Bool, true, false, max, inl, inr, sym, ◌∙◌, subst, true≢false}
use Rattle.std.proofs.lemmas.Bool.{cases_Bool}
use Rattle.stp_happen.specs.Plain.{Executes}
use Rattle.stp_window.specs.Windows.{WindowBox, run_when, IsChoice, IsProper}
use Rattle.stp_window.specs.States.{state_at, at_last}
use Rattle.stp_window.specs.OwnerWindows.{windows_of}
use Rattle.stp_window.proofs.Proper.{windows_proper}
use Rattle.stp_strength.specs.Failures.{stay_apart, stay_calm, is_fed, is_sound, Gap, NotApart, NotCalm, NotFed, NotKept, NotReached, failing}
use Rattle.stp_strength.specs.BoxFailures.{failing_durations, GapsFail}
use Rattle.stp_strength.specs.Checks.{CheckDecides, StrongOrFails, FailuresMeanWeakness}
use Rattle.stp_strength.proofs.Sound.{latest_is_choice, nearest_is_choice, corner_is_choice, apart_or_fails, calm_or_fails, fed_or_fails, kept_or_fails, reached_or_fails}
use Rattle.stp_strength.proofs.Gaps.{apart_test, calm_test, calm_facts, sound_facts, sound_test, shown}
use Rattle.stp_strength.proofs.Durations.{durations_of_choice}
use Rattle.stp_strength.proofs.Strong.{strong_exactly_where_sound, strong_on_grid}

-- ---- a gap's moments and durations fail

missing : (b : Bool) → b ≡ true → b ≡ false → ⊥
missing b t f = true≢false (sym t ∙ f)

failing_choice : (b : WindowBox) → IsProper b → (g : Gap b) → IsChoice b (failing b g)
failing_choice b proper (NotApart s o i j e) = latest_is_choice b proper
failing_choice b proper (NotCalm p q i j e) = nearest_is_choice b proper (max p.low q.low)
failing_choice b proper (NotFed p i calm e) = latest_is_choice b proper
failing_choice b proper (NotKept s t chosen i calm from to late e) = corner_is_choice b proper chosen
failing_choice b proper (NotReached calm e) = latest_is_choice b proper

failing_run : (b : WindowBox) → IsProper b → (g : Gap b) → Executes (run_when b (failing b g)) → ⊥
failing_run b proper (NotApart s o i j e) x = missing (stay_apart s o) (apart_test s o (apart_or_fails b x s o i j)) e
failing_run b proper (NotCalm p q i j e) x = missing (stay_calm p q) (calm_test p q (calm_or_fails b proper p q i j x)) e
failing_run b proper (NotFed p i calm e) x = missing (is_fed b p) (fed_or_fails b proper (calm_facts b calm) x p i) e
failing_run b proper (NotKept s t chosen i calm from to late e) x = missing (s.over (state_at b t chosen)) (kept_or_fails b proper (calm_facts b calm) s i t chosen x from to late) e
failing_run b proper (NotReached calm e) x = missing (b.goal (at_last b)) (reached_or_fails b proper (calm_facts b calm) x) e

pub gaps_fail : GapsFail
gaps_fail box w gap =
    let proper = windows_proper box w in
    let d = durations_of_choice box w (failing (windows_of box) gap) (failing_choice (windows_of box) proper gap) in
    record { vector = d.vector; fails = λ x. failing_run (windows_of box) proper gap (subst Executes d.same x) }

-- ---- the plain check

pub check_decides : CheckDecides
check_decides box w =
    let proper = windows_proper box w in
    (λ h. (strong_exactly_where_sound box w).1 (sound_facts (windows_of box) proper h), λ strong. sound_test (windows_of box) ((strong_exactly_where_sound box w).0 strong))

pub strong_or_fails : StrongOrFails
strong_or_fails box w = elim (cases_Bool (is_sound (windows_of box))) [
  | inl h ↦ inl ((check_decides box w).0 h)
  | inr h ↦ let gap = shown (windows_of box) h in inr (failing_durations box gap, gaps_fail box w gap)
]

pub failures_mean_weakness : FailuresMeanWeakness
failures_mean_weakness box ds f strong = f.fails (strong_on_grid box strong ds f.vector)
