-- A vector is the durations of the uncertain steps, and then the chosen moments of events.
use Rattle.std.proofs.Common.{◌≡◌, ℕ, ◌+◌, ◌≤◌, Bool, true, false, cond, List, [], ◌∷◌, ◌++◌, drop, filter, length, refl, ap, sym, ◌∙◌, subst, arith, true≢false}
use Rattle.stp_happen.specs.Boxes.{PlainOwner, IsInInterval, IsVector}
use Rattle.stp_happen.specs.Owners.{PlainBoxStep, PlainBoxTimed, step_owner, step_owners, timed_owner, number_after, timed_owners, owners_of, AreDurations, AreMoments, VectorsAreDurationsAndMoments}

abbrev uncertain_steps : List PlainBoxStep → List PlainBoxStep
uncertain_steps steps = filter (λ s. s.uncertain) steps

abbrev chosen_events : List PlainBoxTimed → List PlainBoxTimed
chosen_events timed = filter (λ e. e.uncertain) timed

-- ---- steps

-- the durations of steps, and what is left for the rest
abbrev Splits : List PlainBoxStep → List PlainOwner → List ℕ → Type 0
Splits steps rest v = (ds : List ℕ) × (more : List ℕ) × (v ≡ ds ++ more) × AreDurations (uncertain_steps steps) ds × IsVector rest more

splits : (number : ℕ) (steps : List PlainBoxStep) (rest : List PlainOwner) (v : List ℕ) → IsVector (step_owners number steps ++ rest) v → Splits steps rest v
splits number [] rest v h = ([], v, refl, refl, h)
splits number (s ∷ ss) rest v h = by_kind number s ss rest v s.uncertain refl h.0 h.1 (splits (number + 1) ss rest)
  where
    by_kind : (number : ℕ) (s : PlainBoxStep) (ss : List PlainBoxStep) (rest : List PlainOwner) (v : List ℕ) (b : Bool) → s.uncertain ≡ b → IsInInterval (step_owner number s) v →
        IsVector (step_owners (number + 1) ss ++ rest) (cond s.uncertain (drop 1 v) v) → ((w : List ℕ) → IsVector (step_owners (number + 1) ss ++ rest) w → Splits ss rest w) → Splits (s ∷ ss) rest v
    by_kind number s ss rest [] true e w h more = absurd (omega (arith, (w e).0))
    by_kind number s ss rest (d ∷ ds) true e w h more =
        let r = more ds (subst (λ b. IsVector (step_owners (number + 1) ss ++ rest) (cond b ds (d ∷ ds))) e h) in
        (d ∷ r.0, r.1, ap (λ l. d ∷ l) r.2, subst (λ b. AreDurations (cond b (s ∷ uncertain_steps ss) (uncertain_steps ss)) (d ∷ r.0)) (sym e) ((w e).1, (w e).2, r.3), r.4)
    by_kind number s ss rest v false e w h more =
        let r = more v (subst (λ b. IsVector (step_owners (number + 1) ss ++ rest) (cond b (drop 1 v) v)) e h) in
        (r.0, r.1, r.2, subst (λ b. AreDurations (cond b (s ∷ uncertain_steps ss) (uncertain_steps ss)) r.0) (sym e) r.3, r.4)

joins : (number : ℕ) (steps : List PlainBoxStep) (rest : List PlainOwner) (ds more : List ℕ) → AreDurations (uncertain_steps steps) ds → IsVector rest more → IsVector (step_owners number steps ++ rest) (ds ++ more)
joins number [] rest ds more h k = subst (λ l. IsVector rest (l ++ more)) (sym h) k
joins number (s ∷ ss) rest ds more h k = by_kind number s ss rest ds more s.uncertain refl h (λ es g. joins (number + 1) ss rest es more g k)
  where
    by_kind : (number : ℕ) (s : PlainBoxStep) (ss : List PlainBoxStep) (rest : List PlainOwner) (ds more : List ℕ) (b : Bool) → s.uncertain ≡ b → AreDurations (cond s.uncertain (s ∷ uncertain_steps ss) (uncertain_steps ss)) ds →
        ((es : List ℕ) → AreDurations (uncertain_steps ss) es → IsVector (step_owners (number + 1) ss ++ rest) (es ++ more)) → IsVector (step_owner number s ∷ (step_owners (number + 1) ss ++ rest)) (ds ++ more)
    by_kind number s ss rest [] more true e h rec = absurd (subst (λ b. AreDurations (cond b (s ∷ uncertain_steps ss) (uncertain_steps ss)) []) e h)
    by_kind number s ss rest (d ∷ ds) more true e h rec =
        let g = subst (λ b. AreDurations (cond b (s ∷ uncertain_steps ss) (uncertain_steps ss)) (d ∷ ds)) e h in
        (λ u. (omega arith, g.0, g.1), subst (λ b. IsVector (step_owners (number + 1) ss ++ rest) (cond b (ds ++ more) (d ∷ (ds ++ more)))) (sym e) (rec ds g.2))
    by_kind number s ss rest ds more false e h rec =
        let g = subst (λ b. AreDurations (cond b (s ∷ uncertain_steps ss) (uncertain_steps ss)) ds) e h in
        (λ u. absurd (true≢false (sym u ∙ e)), subst (λ b. IsVector (step_owners (number + 1) ss ++ rest) (cond b (drop 1 (ds ++ more)) (ds ++ more))) (sym e) (rec ds g))

-- ---- events

moments : (number : ℕ) (timed : List PlainBoxTimed) (v : List ℕ) → IsVector (timed_owners number timed) v → AreMoments (chosen_events timed) v
moments number [] v h = h
moments number (e ∷ es) v h = by_kind number e es v e.uncertain refl h.0 h.1 (moments (number_after number e) es)
  where
    by_kind : (number : ℕ) (e : PlainBoxTimed) (es : List PlainBoxTimed) (v : List ℕ) (b : Bool) → e.uncertain ≡ b → IsInInterval (timed_owner number e) v →
        IsVector (timed_owners (number_after number e) es) (cond e.uncertain (drop 1 v) v) → ((w : List ℕ) → IsVector (timed_owners (number_after number e) es) w → AreMoments (chosen_events es) w) → AreMoments (chosen_events (e ∷ es)) v
    by_kind number e es [] true is w h more = absurd (omega (arith, (w is).0))
    by_kind number e es (t ∷ ts) true is w h more =
        let low : e.low ≤ 0 + t = (w is).1 in
        let high : 0 + t ≤ e.high = (w is).2 in
        subst (λ b. AreMoments (cond b (e ∷ chosen_events es) (chosen_events es)) (t ∷ ts)) (sym is) (omega arith, omega arith, more ts (subst (λ b. IsVector (timed_owners (number_after number e) es) (cond b ts (t ∷ ts))) is h))
    by_kind number e es v false is w h more =
        subst (λ b. AreMoments (cond b (e ∷ chosen_events es) (chosen_events es)) v) (sym is) (more v (subst (λ b. IsVector (timed_owners (number_after number e) es) (cond b (drop 1 v) v)) is h))

chosen : (number : ℕ) (timed : List PlainBoxTimed) (v : List ℕ) → AreMoments (chosen_events timed) v → IsVector (timed_owners number timed) v
chosen number [] v h = h
chosen number (e ∷ es) v h = by_kind number e es v e.uncertain refl h (chosen (number_after number e) es)
  where
    by_kind : (number : ℕ) (e : PlainBoxTimed) (es : List PlainBoxTimed) (v : List ℕ) (b : Bool) → e.uncertain ≡ b → AreMoments (cond e.uncertain (e ∷ chosen_events es) (chosen_events es)) v →
        ((w : List ℕ) → AreMoments (chosen_events es) w → IsVector (timed_owners (number_after number e) es) w) → IsVector (timed_owner number e ∷ timed_owners (number_after number e) es) v
    by_kind number e es [] true is h rec = absurd (subst (λ b. AreMoments (cond b (e ∷ chosen_events es) (chosen_events es)) []) is h)
    by_kind number e es (t ∷ ts) true is h rec =
        let g = subst (λ b. AreMoments (cond b (e ∷ chosen_events es) (chosen_events es)) (t ∷ ts)) is h in
        let low : e.low ≤ t = g.0 in
        let high : t ≤ e.high = g.1 in
        (λ u. (omega arith, omega arith, omega arith), subst (λ b. IsVector (timed_owners (number_after number e) es) (cond b ts (t ∷ ts))) (sym is) (rec ts g.2))
    by_kind number e es v false is h rec =
        let g = subst (λ b. AreMoments (cond b (e ∷ chosen_events es) (chosen_events es)) v) is h in
        (λ u. absurd (true≢false (sym u ∙ is)), subst (λ b. IsVector (timed_owners (number_after number e) es) (cond b (drop 1 v) v)) (sym is) (rec v g))

-- ---- the law

pub vectors_are_durations_and_moments : VectorsAreDurationsAndMoments
vectors_are_durations_and_moments steps timed v = (
  λ h. let r = splits 1 steps (timed_owners (length steps + 1) timed) v h in (r.0, r.1, r.2, r.3, moments (length steps + 1) timed r.1 r.4),
  λ r. subst (IsVector (owners_of steps timed)) (sym r.2) (joins 1 steps (timed_owners (length steps + 1) timed) r.0 r.1 r.3 (chosen (length steps + 1) timed r.1 r.4)),
)
