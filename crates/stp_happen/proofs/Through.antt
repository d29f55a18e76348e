-- One more moment of a run, in the names of the loop: E are all entries, T those up to the moment's end.
use Rattle.std.proofs.Common.{◌≡◌, ℕ, Bool, true, false, cond, List, ◌++◌, Option, sym, ap, subst, ◌∙◌}
use Rattle.std.specs.List.{filter_map, flat_map, list_any}
use Rattle.stp_cond.specs.Atoms.{has}
use Rattle.stp_happen.specs.declared.fault.Fault.{Fault}
use Rattle.stp_happen.specs.Faults.{interference_of, condition_in, over_all_in, interferences}
use Rattle.stp_happen.specs.Firsts.{first_from, first_of, changed}
use Rattle.stp_happen.specs.Plain.{PlainEntry, PlainRun, state_after, before, after}
use Rattle.stp_happen.proofs.MomentStates.{moment_state}
use Rattle.stp_happen.proofs.MomentSteps.{IsMoment, interference_step, condition_step, over_all_step}

pub state_next : (initial : ℕ → Bool) (T D M L : List PlainEntry) (t : ℕ) → IsMoment D M L t → T ≡ D ++ M → (old new : ℕ → Bool) → ((a : ℕ) → old a ≡ state_after initial D a) → ((a : ℕ) → new a ≡ changed M old a) → (a : ℕ) → new a ≡ state_after initial T a
state_next initial T D M L t is taken old new so_far changes a =
    changes a
    ∙ (ap (λ b. cond (list_any (λ e. has e.event.adds a) M) true (cond (list_any (λ e. has e.event.dels a) M) false b)) (so_far a)
    ∙ (moment_state initial D M t is.early is.same a ∙ ap (λ l. state_after initial l a) (sym taken)))

pub interference_next : (E T D M L : List PlainEntry) (t : ℕ) → IsMoment D M L t → E ≡ D ++ (M ++ L) → T ≡ D ++ M → (best next : Option Fault) →
    best ≡ first_of (flat_map (λ e. filter_map (interference_of e) E) D) → next ≡ first_from best (interferences M) → next ≡ first_of (flat_map (λ e. filter_map (interference_of e) E) T)
interference_next E T D M L t is parts taken best next so_far now =
    now ∙ (ap (λ b. first_from b (interferences M)) so_far
    ∙ (subst (λ X. first_from (first_of (flat_map (λ e. filter_map (interference_of e) X) D)) (interferences M) ≡ first_of (flat_map (λ e. filter_map (interference_of e) X) (D ++ M))) (sym parts) (interference_step D M L t is)
    ∙ ap (λ l. first_of (flat_map (λ e. filter_map (interference_of e) E) l)) (sym taken)))

pub condition_next : (run : PlainRun) (T D M L : List PlainEntry) (t : ℕ) → IsMoment D M L t → run.entries ≡ D ++ (M ++ L) → T ≡ D ++ M → (old : ℕ → Bool) → ((a : ℕ) → old a ≡ state_after run.initial D a) → (best next : Option Fault) →
    best ≡ first_of (filter_map (λ e. condition_in (before run e.time) e) D) → next ≡ first_from best (filter_map (condition_in old) M) → next ≡ first_of (filter_map (λ e. condition_in (before run e.time) e) T)
condition_next run T D M L t is parts taken old row best next so_far now =
    now ∙ (ap (λ b. first_from b (filter_map (condition_in old) M)) so_far
    ∙ (condition_step run D M L t is parts old row ∙ ap (λ l. first_of (filter_map (λ e. condition_in (before run e.time) e) l)) (sym taken)))

pub over_all_next : (run : PlainRun) (T D M L : List PlainEntry) (t : ℕ) → IsMoment D M L t → run.entries ≡ D ++ (M ++ L) → T ≡ D ++ M → (new : ℕ → Bool) → ((a : ℕ) → new a ≡ state_after run.initial T a) → (best next : Option Fault) →
    best ≡ first_of (flat_map (λ e. filter_map (over_all_in (after run e.time) e.time) run.spans) D) → next ≡ first_from best (filter_map (over_all_in new t) run.spans) →
    next ≡ first_of (flat_map (λ e. filter_map (over_all_in (after run e.time) e.time) run.spans) T)
over_all_next run T D M L t is parts taken new row best next so_far now =
    now ∙ (ap (λ b. first_from b (filter_map (over_all_in new t) run.spans)) so_far
    ∙ (over_all_step run D M L t is parts new (λ a. row a ∙ ap (λ l. state_after run.initial l a) taken) ∙ ap (λ l. first_of (flat_map (λ e. filter_map (over_all_in (after run e.time) e.time) run.spans) l)) (sym taken)))
