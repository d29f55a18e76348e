-- The last write of an atom by a moment, point by point.
use Rattle.std.proofs.Common.{◌≡◌, ℕ, ◌+◌, ◌<◌, ◌≤◌, drop, length, get_or, nat_lt, nat_le, Bool, true, false, not, ◌&&◌, List, [], ◌∷◌, ◌++◌, Option, Some, None, Contains, inl, inr, refl, ap, ap₂, sym, ◌∙◌, subst, arith, append_assoc}
use Rattle.std.proofs.lemmas.Bool.{leb-true}
use Rattle.std.proofs.lemmas.Bool.Decides.{nat_tests}
use Rattle.std.proofs.lemmas.List.Elements.{Contains-append_left, Contains-push, Contains-push_cases}
use Rattle.stp_cond.specs.Atoms.{PlainEvent, has}
use Rattle.stp_cond.specs.Truth.{state_of_row}
use Rattle.stp_happen.specs.declared.boxes.BoxRun.{BoxRun}
use Rattle.stp_happen.specs.declared.boxes.BoxStep.{BoxStep}
use Rattle.stp_happen.specs.declared.boxes.BoxTimed.{BoxTimed}
use Rattle.stp_happen.specs.Boxes.{PlainOwner}
use Rattle.stp_happen.specs.BoxViews.{plain_box}
use Rattle.stp_happen.specs.Owners.{PlainBoxStep, step_owner, step_owners, timed_owner, timed_owners, number_after, owners_of}
use Rattle.stp_happen.specs.StepViews.{step_of, steps_of, plain_timed, timed_of}
use Rattle.stp_happen.proofs.Refining.{item_here}
use Rattle.stp_happen.proofs.Members.{and_left, and_right}
use Rattle.stp_window.specs.Windows.{Point}
use Rattle.stp_window.specs.States.{certain}
use Rattle.stp_window.specs.Certain.{sets, NoneClash, IsLastWriter}
use Rattle.stp_window.specs.Boxed.{windows_in_run}
use Rattle.stp_window.specs.OwnerWindows.{event_points, first_point, end_point, points_of_owner, points_of_owners}
use Rattle.stp_window.proofs.LastWay.{certain_is_the_last_way, certain_is_initial}
use Rattle.stp_window.proofs.Proper.{windows_proper}
use Rattle.stp_window.proofs.WellMade.{runs_are_well_made}
use Rattle.stp_window.specs.declared.certain.Write.{Write}
use Rattle.stp_window.specs.LastWrites.{writes, has_later, IsLastOf, IsLastWrite}

not_later : (end e high : ℕ) → nat_lt end e ≡ false → e ≡ high → high ≤ end
not_later end e high h k = grind (arith, nat_tests)

later : (end e high : ℕ) → nat_lt end e ≡ true → e ≡ high → end ≤ high
later end e high h k = grind (arith, nat_tests)

pub taken : (seen : List Point) (a t : ℕ) (last : Option Write) (p : Point) → IsLastWrite seen a t last → sets p a ≡ true → p.high ≤ t → has_later p.high last ≡ false → IsLastOf (seen ++ p ∷ []) a t p
taken seen a t last p so_far s l latest = record {
  there = Contains-push seen p;
  writes = s;
  ended = l;
  last = λ q i r k. elim (Contains-push_cases seen p q i) [ inl j ↦ among seen a t last p so_far latest q j r k | inr e ↦ ends e ];
}
  where
    among : (seen : List Point) (a t : ℕ) (last : Option Write) (p : Point) → IsLastWrite seen a t last → has_later p.high last ≡ false → (q : Point) → Contains seen q → sets q a ≡ true → q.high ≤ t → q.high ≤ p.high
    among seen a t None p none latest q j r k = absurd (none q j r k)
    among seen a t (Some w) p so_far latest q j r k =
        let m : so_far.0.high ≤ p.high = not_later p.high w.end so_far.0.high latest so_far.2 in
        let n : q.high ≤ so_far.0.high = so_far.1.last q j r k in
        omega arith

    ends : {p q : Point} → p ≡ q → q.high ≤ p.high
    ends {p} {q} e = subst (λ x. x.high ≤ p.high) e (omega arith)

pub kept : (seen : List Point) (a t : ℕ) (last : Option Write) (p : Point) → IsLastWrite seen a t last → (sets p a && (nat_le p.high t && not (has_later p.high last))) ≡ false → IsLastWrite (seen ++ p ∷ []) a t last
kept seen a t None p none fails = λ q i r k. elim (Contains-push_cases seen p q i) [ inl j ↦ none q j r k | inr e ↦ refuted (sets p a) p.high t (ap (λ x. sets x a) e ∙ r) (subst (λ x. x.high ≤ t) (sym e) k) fails ]
  where
    refuted : (b : Bool) (m t : ℕ) → b ≡ true → m ≤ t → (b && (nat_le m t && true)) ≡ false → ⊥
    refuted true m t e l h = grind (arith, nat_tests)
    refuted false m t e l h = grind arith
kept seen a t (Some w) p so_far fails = (
  so_far.0,
  record {
    there = Contains-append_left seen (p ∷ []) so_far.0 so_far.1.there;
    writes = so_far.1.writes;
    ended = so_far.1.ended;
    last = λ q i r k. elim (Contains-push_cases seen p q i) [
      | inl j ↦ so_far.1.last q j r k
      | inr e ↦ subst (λ x. x.high ≤ so_far.0.high) e (later p.high w.end so_far.0.high (passes (sets p a) p.high t (nat_lt p.high w.end) (ap (λ x. sets x a) e ∙ r) (subst (λ x. x.high ≤ t) (sym e) k) fails) so_far.2)
    ];
  },
  so_far.2,
  so_far.3,
)
  where
    passes : (b : Bool) (m t : ℕ) (c : Bool) → b ≡ true → m ≤ t → (b && (nat_le m t && not c)) ≡ false → c ≡ true
    passes b m t true e l h = refl
    passes true m t false e l h = absurd (grind (arith, nat_tests))
    passes false m t false e l h = absurd (grind arith)

-- one more event
pub with_taken : (seen : List Point) (a t end : ℕ) (event : PlainEvent) (last : Option Write) (p : Point) → p.high ≡ end → p.event ≡ event → IsLastWrite seen a t last →
    (writes event a && (nat_le end t && not (has_later end last))) ≡ true → (adds : Bool) → adds ≡ has event.adds a →
    (x : Point) × IsLastOf (seen ++ p ∷ []) a t x × (end ≡ x.high) × (adds ≡ has x.event.adds a)
with_taken seen a t end event last p h e so_far test adds same =
    let passes : (sets p a && (nat_le p.high t && not (has_later p.high last))) ≡ true = ap₂ (λ (d : PlainEvent) (m : ℕ). writes d a && (nat_le m t && not (has_later m last))) e h ∙ test in
    let late = and_right (sets p a) (nat_le p.high t && not (has_later p.high last)) passes in (
      p,
      taken seen a t last p so_far (and_left (sets p a) (nat_le p.high t && not (has_later p.high last)) passes) (leb-true p.high t (and_left (nat_le p.high t) (not (has_later p.high last)) late))
          (turned (has_later p.high last) (and_right (nat_le p.high t) (not (has_later p.high last)) late)),
      sym h,
      same ∙ ap (λ (d : PlainEvent). has d.adds a) (sym e),
    )
  where
    turned : (b : Bool) → not b ≡ true → b ≡ false
    turned b h = grind arith

pub with_kept : (seen : List Point) (a t end : ℕ) (event : PlainEvent) (last : Option Write) (p : Point) → p.high ≡ end → p.event ≡ event → IsLastWrite seen a t last →
    (writes event a && (nat_le end t && not (has_later end last))) ≡ false → IsLastWrite (seen ++ p ∷ []) a t last
with_kept seen a t end event last p h e so_far test = kept seen a t last p so_far (ap₂ (λ (d : PlainEvent) (m : ℕ). writes d a && (nat_le m t && not (has_later m last))) e h ∙ test)

-- one more step
abbrev pub first_of : ℕ → PlainBoxStep → Point
first_of number s = first_point (step_owner number s)

abbrev pub last_of : ℕ → PlainBoxStep → PlainEvent → Point
last_of number s event = record { low = s.low; high = s.high; step = number; event = event }

abbrev points_with : ℕ → PlainBoxStep → Option PlainEvent → List Point
points_with number s last = first_of number s ∷ event_points number s.low s.high last

pub two_events : (seen : List Point) (a t number : ℕ) (s : PlainBoxStep) (event : PlainEvent) (last : Option Write) → s.last ≡ Some event →
    IsLastWrite ((seen ++ first_of number s ∷ []) ++ last_of number s event ∷ []) a t last → IsLastWrite (seen ++ points_of_owner (step_owner number s)) a t last
two_events seen a t number s event last e so_far =
    subst (λ ps. IsLastWrite ps a t last)
    (append_assoc seen (first_of number s ∷ []) (last_of number s event ∷ []) ∙ ap (λ (o : Option PlainEvent). seen ++ points_with number s o) (sym e)) so_far

pub one_event : (seen : List Point) (a t number : ℕ) (s : PlainBoxStep) (last : Option Write) → s.last ≡ None →
    IsLastWrite (seen ++ first_of number s ∷ []) a t last → IsLastWrite (seen ++ points_of_owner (step_owner number s)) a t last
one_event seen a t number s last e so_far = subst (λ ps. IsLastWrite ps a t last) (ap (λ (o : Option PlainEvent). seen ++ points_with number s o) (sym e)) so_far

-- the points of the steps so far with those of one more
pub step_seen : (steps : List BoxStep) (i : ℕ) (s : BoxStep) → i < length steps → s ≡ get_or steps i s → (number : ℕ) (seen whole : List Point) →
    seen ++ points_of_owners (step_owners number (steps_of (drop i steps))) ≡ whole → (seen ++ points_of_owner (step_owner number (step_of s))) ++ points_of_owners (step_owners (number + 1) (steps_of (drop (i + 1) steps))) ≡ whole
step_seen steps i s l e number seen whole all =
    append_assoc seen (points_of_owner (step_owner number (step_of s))) (points_of_owners (step_owners (number + 1) (steps_of (drop (i + 1) steps))))
    ∙ (ap (λ ss. seen ++ points_of_owners (step_owners number ss)) (sym (item_here step_of steps i s l e)) ∙ all)

pub event_seen : (timed : List BoxTimed) (i : ℕ) (e : BoxTimed) → i < length timed → e ≡ get_or timed i e → (number : ℕ) (seen whole : List Point) →
    seen ++ points_of_owners (timed_owners number (timed_of (drop i timed))) ≡ whole →
    (seen ++ end_point (timed_owner number (plain_timed e)) ∷ []) ++ points_of_owners (timed_owners (number_after number (plain_timed e)) (timed_of (drop (i + 1) timed))) ≡ whole
event_seen timed i e l is number seen whole all =
    append_assoc seen (end_point (timed_owner number (plain_timed e)) ∷ []) (points_of_owners (timed_owners (number_after number (plain_timed e)) (timed_of (drop (i + 1) timed))))
    ∙ (ap (λ es. seen ++ points_of_owners (timed_owners number es)) (sym (item_here plain_timed timed i e l is)) ∙ all)

-- the points of steps and then of events are those of the box
pub points_append : (xs ys : List PlainOwner) → points_of_owners (xs ++ ys) ≡ points_of_owners xs ++ points_of_owners ys
points_append [] ys = refl
points_append (x ∷ xs) ys = ap (λ ps. points_of_owner x ++ ps) (points_append xs ys) ∙ sym (append_assoc (points_of_owner x) (points_of_owners xs) (points_of_owners ys))

pub all_seen : (boxed : BoxRun) (read : List BoxStep) (seen : List BoxTimed) (a t : ℕ) (last : Option Write) → read ≡ boxed.steps → seen ≡ boxed.timed →
    IsLastWrite (points_of_owners (step_owners 1 (steps_of read)) ++ points_of_owners (timed_owners (length (steps_of read) + 1) (timed_of seen))) a t last → IsLastWrite (windows_in_run boxed).points a t last
all_seen boxed read seen a t last e f so_far =
    subst (λ ps. IsLastWrite ps a t last)
    (sym (points_append (step_owners 1 (steps_of read)) (timed_owners (length (steps_of read) + 1) (timed_of seen)))
    ∙ ap₂ (λ ss es. points_of_owners (owners_of (steps_of ss) (timed_of es))) e f) so_far

-- of all points of a box: what is certain
pub told : (boxed : BoxRun) (a t : ℕ) → NoneClash (windows_in_run boxed) a → (w : Write) → IsLastWrite (windows_in_run boxed).points a t (Some w) → w.adds ≡ certain (windows_in_run boxed) t a
told boxed a t none w last =
    last.3 ∙ sym (certain_is_the_last_way (windows_in_run boxed) (windows_proper (plain_box boxed) (runs_are_well_made boxed)) a t none last.0 (record { there = last.1.there; writes = last.1.writes; ended = last.1.ended; last = last.1.last }))

pub last_way : (boxed : BoxRun) (a t : ℕ) → NoneClash (windows_in_run boxed) a → (v : Bool) → v ≡ certain (windows_in_run boxed) t a → (p : Point) → IsLastWriter (windows_in_run boxed) a t p → v ≡ has p.event.adds a
last_way boxed a t none v e p last = e ∙ certain_is_the_last_way (windows_in_run boxed) (windows_proper (plain_box boxed) (runs_are_well_made boxed)) a t none p last

pub first_value : (boxed : BoxRun) (a t : ℕ) (v : Bool) → v ≡ certain (windows_in_run boxed) t a → ((p : Point) → Contains (windows_in_run boxed).points p → sets p a ≡ true → p.high ≤ t → ⊥) → v ≡ state_of_row boxed.initial a
first_value boxed a t v e none = e ∙ certain_is_initial (windows_in_run boxed) a t none
