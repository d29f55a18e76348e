-- What windows that end at their ends leave at an atom, and in a formula.
use Rattle.std.proofs.Common.{◌≡◌, ℕ, ◌<◌, nat_lt, nat_le, Bool, true, false, not, ◌&&◌, ◌||◌, cond, List, refl, ap, ◌∙◌, ltb-true}
use Rattle.std.specs.List.{list_any, list_all}
use Rattle.stp_cond.specs.declared.cond.Cond.{Cond}
use Rattle.stp_cond.specs.Atoms.{has}
use Rattle.stp_cond.specs.Truth.{truth, is_below, meaning_of}
use Rattle.stp_cond.proofs.Reading.{truth_reads_its_atoms}
use Rattle.stp_happen.specs.Plain.{PlainEntry, writes, is_latest_write, state_after}
use Rattle.stp_happen.proofs.Members.{any_alike, all_alike}
use Rattle.stp_window.specs.declared.windows.Window.{Window}
use Rattle.stp_window.specs.Windows.{entry_at}
use Rattle.stp_window.specs.Certain.{sets}
use Rattle.stp_window.specs.Views.{point_of}
use Rattle.stp_strength.specs.Views.{late_entries}

abbrev late : Window → PlainEntry
late w = entry_at (λ p. p.high) (point_of w)

latest_told : (windows : List Window) (a t : ℕ) → is_latest_write (late_entries windows) a t ≡ list_all (λ v. not (sets (point_of v) a) || nat_le v.high t) windows
latest_told windows a t = all_alike late (λ e. not (writes e a) || nat_le e.time t) (λ v. not (sets (point_of v) a) || nat_le v.high t) windows (λ v i. refl)

pub written_told : (windows : List Window) (a : ℕ) → list_any (λ e. writes e a) (late_entries windows) ≡ list_any (λ w. sets (point_of w) a) windows
written_told windows a = any_alike late (λ e. writes e a) (λ w. sets (point_of w) a) windows (λ w i. refl)

pub added_told : (windows : List Window) (a : ℕ) → list_any (λ e. has e.event.adds a && is_latest_write (late_entries windows) a e.time) (late_entries windows)
    ≡ list_any (λ w. has (point_of w).event.adds a && list_all (λ v. not (sets (point_of v) a) || nat_le v.high w.high) windows) windows
added_told windows a =
    any_alike late (λ e. has e.event.adds a && is_latest_write (late_entries windows) a e.time) (λ w. has (point_of w).event.adds a && list_all (λ v. not (sets (point_of v) a) || nat_le v.high w.high) windows) windows
    (λ w i. ap (λ b. has (point_of w).event.adds a && b) (latest_told windows a w.high))

pub value_written : (initial : ℕ → Bool) (windows : List Window) (a : ℕ) → list_any (λ w. sets (point_of w) a) windows ≡ true →
    state_after initial (late_entries windows) a ≡ list_any (λ w. has (point_of w).event.adds a && list_all (λ v. not (sets (point_of v) a) || nat_le v.high w.high) windows) windows
value_written initial windows a h =
    ap (λ b. cond b (list_any (λ e. has e.event.adds a && is_latest_write (late_entries windows) a e.time) (late_entries windows)) (initial a)) (written_told windows a ∙ h) ∙ added_told windows a

pub value_initial : (initial : ℕ → Bool) (windows : List Window) (a : ℕ) → list_any (λ w. sets (point_of w) a) windows ≡ false → state_after initial (late_entries windows) a ≡ initial a
value_initial initial windows a h =
    ap (λ b. cond b (list_any (λ e. has e.event.adds a && is_latest_write (late_entries windows) a e.time) (late_entries windows)) (initial a)) (written_told windows a ∙ h)

-- a formula whose atoms are below a number has one truth in two states that agree below it
pub truth_below : (n : ℕ) (s t : ℕ → Bool) (c : Cond) → is_below n c ≡ true → ((a : ℕ) → a < n → s a ≡ t a) → truth s c ≡ meaning_of c t
truth_below n s t c below same = truth_reads_its_atoms (λ a. nat_lt a n) s t c below (λ a h. same a (ltb-true a n h))
