-- Boxes fail at chosen durations where a static fact is missing, and are strong where none is.
use Rattle.std.proofs.Common.{◌≡◌, ℕ, ◌+◌, ◌<◌, ◌≤◌, ◌==◌, nat_lt, nat_le, Bool, true, false, not, ◌&&◌, ◌||◌, cond, max, min, List, [], ◌∷◌, All, Contains, ◌⊎◌, inl, inr, refl, ap, sym, ◌∙◌, subst, arith, true≢false}
use Rattle.std.proofs.lemmas.Bool.Decides.{nat_tests}
use Rattle.stp_cond.specs.Atoms.{has}
use Rattle.stp_happen.specs.Boxes.{PlainBox, IsStrong}
use Rattle.stp_happen.specs.LeastFailure.{IsFailure}
use Rattle.stp_happen.specs.Plain.{Executes, AreCalm, AreApart, IsFed}
use Rattle.stp_happen.proofs.Members.{each_of, all_of, all_pairs, of_mapped, of_mapped_pairs}
use Rattle.stp_window.specs.OwnerWindows.{AreWellMade, windows_of}
use Rattle.stp_window.specs.States.{at_last, came_by, state_at}
use Rattle.stp_window.specs.Windows.{Point, OpenSpan, WindowBox, Meet, run_when, entry_at, span_at, IsInWindow, IsChoice, IsProper}
use Rattle.stp_window.proofs.LastWay.{ordered, started}
use Rattle.stp_window.proofs.Proper.{windows_proper}
use Rattle.stp_strength.specs.Choices.{nearest}
use Rattle.stp_strength.specs.Facts.{StayApart, StayCalm, IsFedAlways}
use Rattle.stp_strength.specs.Failures.{all_calm, all_pairs_pass, of_steps, stay_apart, stay_calm}
use Rattle.stp_strength.specs.Vectors.{vector_of}
use Rattle.stp_strength.proofs.Apart.{AreCalm as AreCalmPoints}
use Rattle.stp_strength.proofs.Certainty.{before_is_certain, end_is_last}
use Rattle.stp_strength.proofs.Durations.{durations_of_choice}
use Rattle.stp_strength.proofs.Gaps.{apart_told, calm_test, calm_facts, each_pair_passes}
use Rattle.stp_strength.proofs.Sound.{kept_in_run}
use Rattle.stp_strength.proofs.Strong.{strong_exactly_where_sound}
use Rattle.stp_check.specs.Choices.{near_to}
use Rattle.stp_check.specs.Late.{IsKept, IsBroken, is_on_time}
use Rattle.stp_check.specs.Pairs.{AreNotApart, AreNotCalm}
use Rattle.stp_check.specs.Verdicts.{ExecutesEarliest}
use Rattle.stp_check.proofs.Timing.{near_to_is_choice}

missing : (b : Bool) → b ≡ true → b ≡ false → ⊥
missing b t f = true≢false (sym t ∙ f)

-- ---- a choice at which the run does not execute gives durations at which the box fails

fails_when : (box : PlainBox) → AreWellMade box.owners → (v : Point → ℕ) → IsChoice (windows_of box) v → (Executes (run_when (windows_of box) v) → ⊥) → IsFailure box (vector_of box v)
fails_when box w v choice fails =
    let d = durations_of_choice box w v choice in
    record { vector = d.vector; fails = λ x. fails (subst Executes d.same x) }

-- ---- steps that end near to a moment

only_of_one : (m k : ℕ) → k ≡ m → has (m ∷ []) k ≡ true
only_of_one m k e = grind (arith, nat_tests)

first_of_two : (m n k : ℕ) → k ≡ m → has (m ∷ n ∷ []) k ≡ true
first_of_two m n k e = grind (arith, nat_tests)

second_of_two : (m n k : ℕ) → k ≡ n → has (m ∷ n ∷ []) k ≡ true
second_of_two m n k e = grind (arith, nat_tests)

near_then : (steps : List ℕ) (t : ℕ) (p : Point) → of_steps steps p ≡ true → near_to steps t p ≡ nearest t p
near_then steps t p h = ap (λ b. cond b (nearest t p) p.low) h

-- ---- spans of one action

-- spans of one action that may run at one moment
record MayOverlap (s o : OpenSpan) : Type 0 where
  below : s.end.step < o.end.step
  same : s.key ≡ o.key
  ends_after : o.from ≤ s.end.high
  starts_before : s.from ≤ o.end.high

may_overlap : (s o : OpenSpan) → stay_apart s o ≡ false → MayOverlap s o
may_overlap s o h =
    let r = by_numbers s.end.step o.end.step s.key o.key s.end.high o.from o.end.high s.from h in
    record { below = r.0; same = r.1; ends_after = r.2; starts_before = r.3 }
  where
    by_numbers : (m n k l a b c d : ℕ) → (not (nat_lt m n && k == l) || (nat_lt a b || nat_lt c d)) ≡ false → (m < n) × (k ≡ l) × (b ≤ a) × (d ≤ c)
    by_numbers m n k l a b c d h = (grind (arith, nat_tests), grind (arith, nat_tests), grind (arith, nat_tests), grind (arith, nat_tests))

-- a span that may last until a moment does if it ends as near to that as it can
lasts_until : (t : ℕ) (p : Point) → t ≤ p.high → t ≤ nearest t p
lasts_until t p l = omega arith

by_start : (a b c d : ℕ) → (x : Bool) → nat_le a b ≡ x → ((a ≤ b) × (cond x c d ≡ c)) ⊎ ((b ≤ a) × (cond x c d ≡ d))
by_start a b c d true e = inl (grind (arith, nat_tests), refl)
by_start a b c d false e = inr (grind (arith, nat_tests), refl)

-- the run of a choice at which the step that starts first lasts until the other starts
not_apart : (b : WindowBox) → IsProper b → (v : Point → ℕ) → IsChoice b v → (s o : OpenSpan) → Contains b.spans s → Contains b.spans o → MayOverlap s o →
    ((s.from ≤ o.from) × (o.from ≤ v s.end)) ⊎ ((o.from ≤ s.from) × (s.from ≤ v o.end)) → Executes (run_when b v) → ⊥
not_apart b proper v choice s o i j m lasts x =
    by_order (v s.end) (v o.end) s.end.low o.end.low s.from o.from lasts
    (started b proper s i).0 (started b proper o j).0 (each_of (λ r. IsInWindow v r.end) b.spans choice.1 s i).0 (each_of (λ r. IsInWindow v r.end) b.spans choice.1 o j).0
    (of_mapped_pairs (span_at v) (span_at v) AreApart b.spans b.spans x.apart s o i j (λ (e : s.end.step ≡ o.end.step). let l : s.end.step < o.end.step = m.below in omega arith) m.same)
  where
    by_order : (se oe sl ol sf ot : ℕ) → ((sf ≤ ot) × (ot ≤ se)) ⊎ ((ot ≤ sf) × (sf ≤ oe)) → sf ≤ sl → ot ≤ ol → sl ≤ se → ol ≤ oe → (se < ot) ⊎ (oe < sf) → ⊥
    by_order se oe sl ol sf ot (inl (a, b)) c d e f (inl l) = omega arith
    by_order se oe sl ol sf ot (inl (a, b)) c d e f (inr l) = omega arith
    by_order se oe sl ol sf ot (inr (a, b)) c d e f (inl l) = omega arith
    by_order se oe sl ol sf ot (inr (a, b)) c d e f (inr l) = omega arith

pub overlap_fails : (box : PlainBox) → AreWellMade box.owners → (step time : ℕ) → AreNotApart (windows_of box).spans step time → IsFailure box (vector_of box (near_to (step ∷ []) time))
overlap_fails box w step time (s, o, i, first, later, (j, e)) =
    let b = windows_of box in
    let proper = windows_proper box w in
    let choice = near_to_is_choice b proper (step ∷ []) time in
    fails_when box w (near_to (step ∷ []) time) choice
    (not_apart b proper (near_to (step ∷ []) time) choice s o i j (may_overlap s o e)
    (lasting s o step time (may_overlap s o e) later (by_start s.from o.from s.end.step o.end.step (nat_le s.from o.from) refl) first))
  where
    lasting : (s o : OpenSpan) (step time : ℕ) → MayOverlap s o → time ≡ max s.from o.from →
        ((s.from ≤ o.from) × (cond (nat_le s.from o.from) s.end.step o.end.step ≡ s.end.step)) ⊎ ((o.from ≤ s.from) × (cond (nat_le s.from o.from) s.end.step o.end.step ≡ o.end.step)) →
        step ≡ cond (nat_le s.from o.from) s.end.step o.end.step →
        ((s.from ≤ o.from) × (o.from ≤ near_to (step ∷ []) time s.end)) ⊎ ((o.from ≤ s.from) × (s.from ≤ near_to (step ∷ []) time o.end))
    lasting s o step time m later (inl (a, e)) first =
        let until : time ≤ s.end.high = let k : o.from ≤ s.end.high = m.ends_after in omega arith in
        let l : time ≤ nearest time s.end = lasts_until time s.end until in
        let f : near_to (step ∷ []) time s.end ≡ nearest time s.end = near_then (step ∷ []) time s.end (only_of_one step s.end.step (sym (first ∙ e))) in
        inl (a, omega (arith, l, f))
    lasting s o step time m later (inr (a, e)) first =
        let until : time ≤ o.end.high = let k : s.from ≤ o.end.high = m.starts_before in omega arith in
        let l : time ≤ nearest time o.end = lasts_until time o.end until in
        let f : near_to (step ∷ []) time o.end ≡ nearest time o.end = near_then (step ∷ []) time o.end (only_of_one step o.end.step (sym (first ∙ e))) in
        inr (a, omega (arith, l, f))

-- ---- events that meet

calm_or_fails : (b : WindowBox) (v : Point → ℕ) → Executes (run_when b v) → (p q : Point) → Contains b.points p → Contains b.points q → (Meet p q → v p ≡ v q) → StayCalm p q
calm_or_fails b v x p q i j together l meet = of_mapped_pairs (entry_at v) (entry_at v) AreCalm b.points b.points x.calm p q i j (λ (e : p.step ≡ q.step). omega arith) (together meet)

at_one_moment : (t : ℕ) (p q : Point) → p.low ≤ p.high → q.low ≤ q.high → t ≡ max p.low q.low → Meet p q → nearest t p ≡ nearest t q
at_one_moment t p q l k e meet = omega arith

pub meeting_fails : (box : PlainBox) → AreWellMade box.owners → (one other time : ℕ) → AreNotCalm (windows_of box).points one other time → IsFailure box (vector_of box (near_to (one ∷ other ∷ []) time))
meeting_fails box w one other time found =
    let b = windows_of box in
    let proper = windows_proper box w in
    let both : List ℕ = one ∷ other ∷ [] in
    let p = found.0 in
    let q = found.1 in
    let v = near_to both time in
    fails_when box w v (near_to_is_choice b proper both time) (λ x.
    missing (stay_calm p q)
    (calm_test p q (calm_or_fails b v x p q found.2 found.6.0 (λ meet.
    near_then both time p (first_of_two one other p.step found.3)
    ∙ (at_one_moment time p q (ordered b proper p found.2) (ordered b proper q found.6.0) found.5 meet ∙ sym (near_then both time q (second_of_two one other q.step found.4))))))
    found.6.1)

-- ---- what has to hold inside

-- where these steps end after a moment, there have come by then all that are on time or have no later moment
came_after : (steps : List ℕ) (t : ℕ) (p : Point) → p.low ≤ p.high → nat_le (near_to steps (t + 1) p) t ≡ came_by t (is_on_time steps) p
came_after steps t p l = by_test (of_steps steps p) p.low p.high t l
  where
    by_test : (b : Bool) (m n t : ℕ) → m ≤ n → nat_le (cond b (max m (min n (t + 1))) m) t ≡ (nat_le n t || (not b && nat_le m t))
    by_test true m n t l = past m n t (max m (min n (t + 1))) l (omega arith) (omega arith) (omega arith)
      where
        past : (m n t x : ℕ) → m ≤ n → (t < n → t < x) → x ≤ n → (n ≤ t → x ≤ t) → nat_le x t ≡ (nat_le n t || false)
        past m n t x l a b c = grind (arith, nat_tests)
    by_test false m n t l = grind (arith, nat_tests)

-- an end that is not on time comes after the moment
ends_after : (steps : List ℕ) (t : ℕ) (p : Point) → is_on_time steps p ≡ false → t < p.high → t < near_to steps (t + 1) p
ends_after steps t p h l = by_test (of_steps steps p) p.low p.high t h l
  where
    by_test : (b : Bool) (m n t : ℕ) → not b ≡ false → t < n → t < cond b (max m (min n (t + 1))) m
    by_test true m n t h l = omega arith
    by_test false m n t h l = absurd (true≢false h)

pub broken_fails : (box : PlainBox) → AreWellMade box.owners → all_calm (windows_of box) ≡ true → (time : ℕ) (steps : List ℕ) → IsBroken (windows_of box) time steps → IsFailure box (vector_of box (near_to steps (time + 1)))
broken_fails box w calm time steps (s, broken) =
    let b = windows_of box in
    let proper = windows_proper box w in
    let v = near_to steps (time + 1) in
    let choice = near_to_is_choice b proper steps (time + 1) in
    fails_when box w v choice (λ x.
    missing (s.over (state_at b time (is_on_time steps)))
    (kept_in_run b proper (calm_facts b calm) v choice s broken.there time (is_on_time steps) broken.from (ends_after steps time s.end broken.own broken.to)
    (λ p i. came_after steps time p (ordered b proper p i)) x)
    broken.fails)

-- ---- where nothing is missing

fed_if_runs : (b : WindowBox) → IsProper b → AreCalmPoints b → (v : Point → ℕ) → IsChoice b v → Executes (run_when b v) → All (IsFedAlways b) b.points
fed_if_runs b proper calm v choice x = all_of (IsFedAlways b) b.points (λ p i. sym (before_is_certain b proper calm v choice p i) ∙ of_mapped (entry_at v) (IsFed (run_when b v)) b.points x.fed p i)

reached_if_runs : (b : WindowBox) → IsProper b → AreCalmPoints b → (v : Point → ℕ) → IsChoice b v → Executes (run_when b v) → b.goal (at_last b) ≡ true
reached_if_runs b proper calm v choice x = ap b.goal (sym (end_is_last b proper calm v choice)) ∙ x.reached

pub strong_if_kept : (box : PlainBox) → AreWellMade box.owners → ExecutesEarliest box → all_pairs_pass stay_apart (windows_of box).spans ≡ true → all_calm (windows_of box) ≡ true → IsKept (windows_of box) → IsStrong box
strong_if_kept box w runs apart calm kept =
    let b = windows_of box in
    let proper = windows_proper box w in
    let facts = calm_facts b calm in
    let choice = near_to_is_choice b proper [] 0 in
    let x : Executes (run_when b (near_to [] 0)) = subst Executes (durations_of_choice box w (near_to [] 0) choice).same runs in
    (strong_exactly_where_sound box w).1 (record {
      apart = all_pairs StayApart b.spans b.spans (λ s o i j. apart_told s o (each_pair_passes stay_apart b.spans apart s o i j));
      calm = facts;
      fed = fed_if_runs b proper facts (near_to [] 0) choice x;
      kept = kept;
      reached = reached_if_runs b proper facts (near_to [] 0) choice x;
    })
