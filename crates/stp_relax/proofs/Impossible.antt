-- No run of a box of a task executes where there is a certificate.
use Rattle.std.proofs.Common.{◌≡◌, ℕ, zero, suc, ◌<◌, ◌≤◌, nat_lt, nat_le, Bool, true, false, ◌&&◌, List, filter, Contains, Option, Some, None, IfSome, option_map, inl, inr, refl, sym, ap, ◌∙◌, subst, arith}
use Rattle.std.proofs.lemmas.Bool.{ltb-true, leb-true}
use Rattle.stp_cond.specs.Atoms.{PlainEvent}
use Rattle.stp_cond.specs.Folded.{is_never}
use Rattle.stp_cond.specs.Formulas.{Formula, Always, Never, Atomic, Negation, Conjunction, Disjunction, holds_in}
use Rattle.stp_happen.specs.Boxes.{PlainBox, PlainInside, PlainOwner, IsVector, run_under}
use Rattle.stp_happen.specs.Plain.{Executes, IsFed, IsKept, PlainEntry, after, at_end, before}
use Rattle.stp_happen.proofs.Members.{each_of, each_pair, member_of_kept, and_both}
use Rattle.stp_task.specs.Actions.{PlainAction, PlainHappening, event_in, meaning}
use Rattle.stp_task.specs.Certificates.{IsAllowed, IsClosed, Pair, possible, possible_end}
use Rattle.stp_task.specs.Tasks.{PlainTask}
use Rattle.stp_relax.specs.Unreachable.{CertificatesHold, IsActionOf, IsBoxOf, IsKeptAction, IsOwnerIn, IsStepOf}
use Rattle.stp_relax.proofs.Fitting.{Fits, IsFitting, holds_possible, left_fits}
use Rattle.stp_relax.proofs.Origins.{IsFrom, IsIn, entry_at, origin, span_at}
use Rattle.stp_relax.proofs.Tests.{clash}

-- a run that executes, and a closed pair
record IsCase (task : PlainTask) (p : Pair) (box : PlainBox) (ds : List ℕ) : Type 0 where
  closed : IsClosed task p
  of : IsBoxOf task box
  vector : IsVector box.owners ds
  executes : Executes (run_under box ds)

abbrev IsInRun : PlainBox → List ℕ → PlainOwner → ℕ → Type 0
IsInRun box ds o end = IsIn (run_under box ds).entries (run_under box ds).spans o end

-- ---- states of the run

first_fits : (task : PlainTask) (p : Pair) (box : PlainBox) (ds : List ℕ) → IsCase task p box ds → Fits p box.initial
first_fits task p box ds c = record { may = λ a h. c.closed.first a (sym (c.of.initial a) ∙ h); always = λ a h. c.of.initial a ∙ c.closed.always a h }

-- the entries before a moment fit
abbrev FitUntil : Pair → PlainBox → List ℕ → ℕ → Type 0
FitUntil p box ds n = (e : PlainEntry) → Contains (run_under box ds).entries e → e.time < n → IsFitting p e.event

before_fits : (task : PlainTask) (p : Pair) (box : PlainBox) (ds : List ℕ) → IsCase task p box ds → (n t : ℕ) → t ≤ n → FitUntil p box ds n → Fits p (before (run_under box ds) t)
before_fits task p box ds c n t l h =
    left_fits p box.initial (first_fits task p box ds c) (filter (λ e. nat_lt e.time t) (run_under box ds).entries) (λ e i.
    let m = member_of_kept (λ e. nat_lt e.time t) (run_under box ds).entries e i in
    let k : e.time < t = ltb-true e.time t m.1 in
    h e m.0 (omega (arith, k, l)))

after_fits : (task : PlainTask) (p : Pair) (box : PlainBox) (ds : List ℕ) → IsCase task p box ds → (n t : ℕ) → t < n → FitUntil p box ds n → Fits p (after (run_under box ds) t)
after_fits task p box ds c n t l h =
    left_fits p box.initial (first_fits task p box ds c) (filter (λ e. nat_le e.time t) (run_under box ds).entries) (λ e i.
    let m = member_of_kept (λ e. nat_le e.time t) (run_under box ds).entries e i in
    let k : e.time ≤ t = leb-true e.time t m.1 in
    h e m.0 (omega (arith, k, l)))

-- ---- what holds in a run that executes

start_holds : (box : PlainBox) (ds : List ℕ) (action : PlainAction) (o : PlainOwner) (end : ℕ) → Executes (run_under box ds) → IsStepOf action o → IsInRun box ds o end → holds_in (before (run_under box ds) o.start) action.start.cond ≡ true
start_holds box ds action o end x s i = each_of (IsFed (run_under box ds)) (run_under box ds).entries x.fed (entry_at o.number o.start (event_in action.start)) (i.first (event_in action.start) s.first)

last_event : (action : PlainAction) (f : PlainHappening) (o : PlainOwner) → IsStepOf action o → action.finish ≡ Some f → o.last ≡ Some (event_in f)
last_event action f o s e = s.last ∙ ap (option_map event_in) e

end_holds : (box : PlainBox) (ds : List ℕ) (action : PlainAction) (f : PlainHappening) (o : PlainOwner) (end : ℕ) → Executes (run_under box ds) → IsStepOf action o → action.finish ≡ Some f → IsInRun box ds o end →
    holds_in (before (run_under box ds) end) f.cond ≡ true
end_holds box ds action f o end x s e i = each_of (IsFed (run_under box ds)) (run_under box ds).entries x.fed (entry_at o.number end (event_in f)) (i.last (event_in f) (last_event action f o s e))

ends_after : (box : PlainBox) (ds : List ℕ) (action : PlainAction) (f : PlainHappening) (o : PlainOwner) (end : ℕ) → IsStepOf action o → action.finish ≡ Some f → IsInRun box ds o end → o.start < end
ends_after box ds action f o end s e i =
    let l : (o.start < o.low) × (o.low ≤ o.high) = subst (λ x. IfSome x (λ e. (o.start < o.low) × (o.low ≤ o.high))) e s.lasting in
    let m : o.low ≤ end = i.late l.1 in
    let k : o.start < o.low = l.0 in
    omega (arith, m, k)

over_holds : (box : PlainBox) (ds : List ℕ) (action : PlainAction) (f : PlainHappening) (o : PlainOwner) (end : ℕ) → Executes (run_under box ds) → IsStepOf action o → action.finish ≡ Some f → IsInRun box ds o end →
    holds_in (after (run_under box ds) o.start) action.over ≡ true
over_holds box ds action f o end x s e i =
    let inside : PlainInside = record { key = s.inside.0; over = meaning action.over } in
    each_pair (IsKept (run_under box ds)) (run_under box ds).entries (run_under box ds).spans x.kept (entry_at o.number o.start (event_in action.start)) (span_at o end inside) (i.first (event_in action.start) s.first) (i.span inside s.inside.1)
    (omega arith) (ends_after box ds action f o end s e i)

-- ---- its actions are kept

not_never : (s : ℕ → Bool) (f : Formula) → holds_in s f ≡ true → is_never f ≡ false
not_never s Always h = refl
not_never s Never h = absurd (clash false h refl)
not_never s (Atomic atom) h = refl
not_never s (Negation part) h = refl
not_never s (Conjunction parts) h = refl
not_never s (Disjunction parts) h = refl

over_kept : (box : PlainBox) (ds : List ℕ) (action : PlainAction) (o : PlainOwner) (end : ℕ) → Executes (run_under box ds) → IsStepOf action o → IsInRun box ds o end → (finish : Option PlainHappening) → action.finish ≡ finish → is_never action.over ≡ false
over_kept box ds action o end x s i None e = ap is_never (s.instant e)
over_kept box ds action o end x s i (Some f) e = not_never (after (run_under box ds) o.start) action.over (over_holds box ds action f o end x s e i)

finish_kept : (box : PlainBox) (ds : List ℕ) (action : PlainAction) (o : PlainOwner) (end : ℕ) → Executes (run_under box ds) → IsStepOf action o → IsInRun box ds o end → (finish : Option PlainHappening) → action.finish ≡ finish → IfSome finish (λ e. is_never e.cond ≡ false)
finish_kept box ds action o end x s i None e = tt
finish_kept box ds action o end x s i (Some f) e = not_never (before (run_under box ds) end) f.cond (end_holds box ds action f o end x s e i)

is_kept : (box : PlainBox) (ds : List ℕ) (action : PlainAction) (o : PlainOwner) (end : ℕ) → Executes (run_under box ds) → IsStepOf action o → IsInRun box ds o end → IsKeptAction action
is_kept box ds action o end x s i = record {
  start = not_never (before (run_under box ds) o.start) action.start.cond (start_holds box ds action o end x s i);
  over = over_kept box ds action o end x s i action.finish refl;
  finish = finish_kept box ds action o end x s i action.finish refl;
}

-- ---- its events are allowed

fitting : (p : Pair) (h : PlainHappening) (e : PlainEvent) → event_in h ≡ e → IsAllowed p h → IsFitting p e
fitting p h e s a = subst (IsFitting p) s (record { added = a.added; deleted = a.deleted })

start_allowed : (task : PlainTask) (p : Pair) (box : PlainBox) (ds : List ℕ) → IsCase task p box ds → (n : ℕ) → FitUntil p box ds n → (action : PlainAction) (o : PlainOwner) (end : ℕ) → IsActionOf task action → IsStepOf action o → IsInRun box ds o end → o.start ≤ n → IsAllowed p action.start
start_allowed task p box ds c n h action o end a s i l =
    let there = a (is_kept box ds action o end c.executes s i) in
    each_of (λ action. possible p action.start.cond ≡ true → IsAllowed p action.start) task.actions c.closed.starts action there
    (holds_possible p (before (run_under box ds) o.start) (before_fits task p box ds c n o.start l h) action.start.cond (start_holds box ds action o end c.executes s i))

end_allowed : (task : PlainTask) (p : Pair) (box : PlainBox) (ds : List ℕ) → IsCase task p box ds → (n : ℕ) → FitUntil p box ds n → (action : PlainAction) (f : PlainHappening) (o : PlainOwner) (end : ℕ) → IsActionOf task action → IsStepOf action o → action.finish ≡ Some f → IsInRun box ds o end → end ≤ n → IsAllowed p f
end_allowed task p box ds c n h action f o end a s e i l =
    let there = a (is_kept box ds action o end c.executes s i) in
    let later : o.start < end = ends_after box ds action f o end s e i in
    let start = holds_possible p (before (run_under box ds) o.start) (before_fits task p box ds c n o.start (omega (arith, later, l)) h) action.start.cond (start_holds box ds action o end c.executes s i) in
    let over = holds_possible p (after (run_under box ds) o.start) (after_fits task p box ds c n o.start (omega (arith, later, l)) h) action.over (over_holds box ds action f o end c.executes s e i) in
    let last = holds_possible p (before (run_under box ds) end) (before_fits task p box ds c n end l h) f.cond (end_holds box ds action f o end c.executes s e i) in
    let rule : possible_end p action f ≡ true → IsAllowed p f = subst (λ x. IfSome x (λ e. possible_end p action e ≡ true → IsAllowed p e)) e (each_of (λ action. IfSome action.finish (λ e. possible_end p action e ≡ true → IsAllowed p e)) task.actions c.closed.ends action there) in
    rule (and_both (possible p action.start.cond) (possible p action.over && possible p f.cond) start (and_both (possible p action.over) (possible p f.cond) over last))

same_event : (e f : PlainEvent) (x : Option PlainEvent) → x ≡ Some e → x ≡ Some f → e ≡ f
same_event e f x h k = cc

no_event : (e : PlainEvent) (x : Option PlainEvent) → x ≡ None → x ≡ Some e → ⊥
no_event e x h k = cc

last_fits : (task : PlainTask) (p : Pair) (box : PlainBox) (ds : List ℕ) → IsCase task p box ds → (n : ℕ) → FitUntil p box ds n → (action : PlainAction) (o : PlainOwner) (end : ℕ) → IsActionOf task action → IsStepOf action o → IsInRun box ds o end → end ≤ n →
    (e : PlainEvent) → o.last ≡ Some e → (finish : Option PlainHappening) → action.finish ≡ finish → IsFitting p e
last_fits task p box ds c n h action o end a s i l e k None m = absurd (no_event e o.last (s.last ∙ ap (option_map event_in) m) k)
last_fits task p box ds c n h action o end a s i l e k (Some f) m = fitting p f e (same_event (event_in f) e o.last (last_event action f o s m) k) (end_allowed task p box ds c n h action f o end a s m i l)

entry_fits : (task : PlainTask) (p : Pair) (box : PlainBox) (ds : List ℕ) → IsCase task p box ds → (n : ℕ) → FitUntil p box ds n → (e : PlainEntry) → e.time ≤ n → (r : IsFrom box.owners (run_under box ds).entries (run_under box ds).spans e) → IsOwnerIn task r.owner → IsFitting p e.event
entry_fits task p box ds c n h e l r (inl step) =
    elim r.is [
      | inl first ↦
          let early : r.owner.start ≤ n = subst (λ t. t ≤ n) first.1 l in
          fitting p step.0.start e.event (same_event (event_in step.0.start) e.event r.owner.first step.2.first first.0) (start_allowed task p box ds c n h step.0 r.owner r.end step.1 step.2 r.within early)
      | inr last ↦
          let early : r.end ≤ n = subst (λ t. t ≤ n) last.1 l in
          last_fits task p box ds c n h step.0 r.owner r.end step.1 step.2 r.within early e.event last.0 step.0.finish refl
    ]
entry_fits task p box ds c n h e l r (inr event) =
    elim r.is [
      | inl first ↦ absurd (no_event e.event r.owner.first event.2.first first.0)
      | inr last ↦ fitting p event.0.event e.event (same_event (event_in event.0.event) e.event r.owner.last event.2.last last.0) (each_of (λ t. IsAllowed p t.event) task.timed c.closed.timed event.0 event.1)
    ]

fit_until : (task : PlainTask) (p : Pair) (box : PlainBox) (ds : List ℕ) → IsCase task p box ds → (n : ℕ) → FitUntil p box ds n
fit_until task p box ds c zero e i l = absurd (omega (arith, l))
fit_until task p box ds c (suc n) e i l =
    let r = origin box.owners ds c.vector e i in
    entry_fits task p box ds c n (fit_until task p box ds c n) e (omega (arith, l)) r (each_of (IsOwnerIn task) box.owners c.of.owners r.owner r.there)

-- ---- the goal

goal_possible : (task : PlainTask) (p : Pair) (box : PlainBox) (ds : List ℕ) → IsCase task p box ds → possible p task.goal ≡ true
goal_possible task p box ds c =
    let run = run_under box ds in
    let fits : Fits p (at_end run) = left_fits p box.initial (first_fits task p box ds c) run.entries (λ e i. fit_until task p box ds c (suc e.time) e i (omega arith)) in
    holds_possible p (at_end run) fits task.goal (subst (λ g. g (at_end run) ≡ true) c.of.goal c.executes.reached)

pub certificates_hold : CertificatesHold
certificates_hold task p h box of ds v x = clash (possible p task.goal) (goal_possible task p box ds (record { closed = h.closed; of = of; vector = v; executes = x })) h.impossible
