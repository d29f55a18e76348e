-- The ends of the actions of a task.
use Rattle.std.proofs.Common.{◌≡◌, ℕ, ◌+◌, ◌<◌, Bool, false, List, [], ◌∷◌, ◌++◌, length, map, drop, get_or, Option, Some, None, option_map, refl, sym, ap, ◌∙◌, append_assoc, arith}
use Rattle.std.proofs.lemmas.List.{drop_more, map-append, get_or-map, length-map}
use Rattle.std.proofs.lemmas.List.FromFn.{length-enumerate_from, get_or-enumerate_from}
use Rattle.std.proofs.Math.Path.{fun_ext}
use Rattle.stp_base.specs.declared.ids.AtomId.{AtomId}
use Rattle.stp_cond.specs.declared.event.Event.{Event}
use Rattle.stp_cond.specs.Events.{event_of}
use Rattle.stp_cond.proofs.EventLists.{same_event}
use Rattle.stp_cond.proofs.Shapes.{truth_is_of_shape}
use Rattle.stp_task.specs.Actions.{PlainAction, PlainHappening, event_in, happening_of}
use Rattle.stp_task.specs.Tasks.{PlainTask}
use Rattle.stp_rewriting.specs.Rewritten.{Rewriting, Ending}
use Rattle.stp_rewriting.specs.Numbering.{ending_of, endings_from}
use Rattle.stp_rewrite.specs.Ends.{PlainEnd, end_by, ends_by, ends_with}
use Rattle.stp_rewrite.specs.RewrittenTasks.{end_of, kept_of, numbered_actions, opened_at, rewriting_in}
use Rattle.stp_rewrite.specs.Views.{numbers_of}

-- what an event means is what its shape means
pub event_of_shape : (e : Event) → event_in (happening_of e) ≡ event_of e
event_of_shape e = same_event _ _ _ _ _ _ _ _ (fun_ext (λ s. sym (truth_is_of_shape s e.cond.now))) refl refl refl

module _ (r : Rewriting) where
  end_is : (key : ℕ) (e : Option PlainHappening) → ends_with key e (option_map (λ f. r.opened key) e) ≡ map (end_by r) (ending_of key (option_map event_in e))
  end_is key None = refl
  end_is key (Some e) = refl

  -- one action more
  pub end_step : (acts : List PlainAction) (i : ℕ) (d : PlainAction) (views new whole : List PlainEnd) (opened : Option ℕ) → i < length acts → opened ≡ opened_at r (i + 1) (get_or acts i d) →
      new ≡ views ++ ends_with (i + 1) (end_of (get_or acts i d)) opened → views ++ map (end_by r) (endings_from (i + 1) (map kept_of (drop i acts))) ≡ whole →
      new ++ map (end_by r) (endings_from (i + 1 + 1) (map kept_of (drop (i + 1) acts))) ≡ whole
  end_step acts i d views new whole opened l o e h =
      let a = get_or acts i d in
      let rest = endings_from (i + 1 + 1) (map kept_of (drop (i + 1) acts)) in
      ap (λ k. k ++ map (end_by r) rest) e
      ∙ (append_assoc views (ends_with (i + 1) (end_of a) opened) (map (end_by r) rest)
      ∙ (ap (λ k. views ++ (k ++ map (end_by r) rest)) (ap (ends_with (i + 1) (end_of a)) o ∙ end_is (i + 1) (end_of a))
      ∙ (ap (λ k. views ++ k) (sym (map-append (end_by r) (ending_of (i + 1) (option_map event_in (end_of a))) rest))
      ∙ (ap (λ k. views ++ map (end_by r) (endings_from (i + 1) (map kept_of k))) (sym (drop_more acts i d l)) ∙ h))))

  pub closed_ends : map (λ e. false) (ends_by r) ≡ map (λ o. false) r.endings
  closed_ends = again r.endings
    where
      again : (os : List Ending) → map {B = Bool} (λ e. false) (map (end_by r) os) ≡ map (λ o. false) os
      again [] = refl
      again (o ∷ os) = ap (λ l. false ∷ l) (again os)

-- the opened atom of an action by its place
pub opened_there : (t : PlainTask) (row : List (Option AtomId)) (i : ℕ) (d : Option AtomId) (a : PlainAction) → i < length t.actions → numbers_of row ≡ map (λ p. opened_at (rewriting_in t) p.0 p.1) (numbered_actions t) →
    option_map (λ o. o.0) (get_or row i d) ≡ opened_at (rewriting_in t) (i + 1) (get_or t.actions i a)
opened_there t row i d a l e =
    let there : i < length row = omega (arith, length-map row (option_map (λ (o : AtomId). o.0)), ap length e, length-map (numbered_actions t) (λ p. opened_at (rewriting_in t) p.0 p.1), length-enumerate_from 1 t.actions, l) in
    let within : i < length (numbered_actions t) = omega (arith, length-enumerate_from 1 t.actions, l) in
    let one : 1 + i ≡ i + 1 = omega arith in
    sym (get_or-map (option_map (λ (o : AtomId). o.0)) row i d None there)
    ∙ (ap (λ k. get_or k i None) e
    ∙ (get_or-map (λ p. opened_at (rewriting_in t) p.0 p.1) (numbered_actions t) i (0, a) None within
    ∙ (ap (λ p. opened_at (rewriting_in t) p.0 p.1) (get_or-enumerate_from 1 t.actions i (0, a) l)
    ∙ ap (λ k. opened_at (rewriting_in t) k (get_or t.actions i a)) one)))

pub as_many : (t : PlainTask) (row : List (Option AtomId)) → numbers_of row ≡ map (λ p. opened_at (rewriting_in t) p.0 p.1) (numbered_actions t) → length row ≡ length t.actions
as_many t row e = sym (length-map row (option_map (λ (o : AtomId). o.0))) ∙ (ap length e ∙ (length-map (numbered_actions t) (λ p. opened_at (rewriting_in t) p.0 p.1) ∙ length-enumerate_from 1 t.actions))
