-- Expansions by the rows of a task with its numbers.
use Rattle.std.proofs.Common.{◌≡◌, ℕ, ◌<◌, ◌==◌, not, ◌||◌, Bool, true, false, cond, List, [], ◌∷◌, map, filter, slice_get, Option, Some, None, option_map, IfSome, inl, inr, refl, ap, ◌∙◌, subst}
use Rattle.std.specs.List.{list_any}
use Rattle.std.proofs.lemmas.List.Elements.{All-contains}
use Rattle.stp_base.specs.declared.ids.AtomId.{AtomId}
use Rattle.stp_cond.specs.declared.event.Event.{Event}
use Rattle.stp_cond.specs.Atoms.{has}
use Rattle.stp_cond.specs.Events.{IsEventInRange}
use Rattle.stp_cond.specs.Formulas.{Formula}
use Rattle.stp_cond.specs.Views.{atoms_of}
use Rattle.stp_cond.proofs.Interferes.{either}
use Rattle.stp_expand.specs.Expanded.{expanded}
use Rattle.stp_expand.specs.Views.{shadow_in, shadow_or}
use Rattle.stp_expand.proofs.Members.{member_cases, member_nil, or_left, or_right, passing_member}
use Rattle.stp_task.specs.Actions.{action_of, happening_of}
use Rattle.stp_task.specs.Durations.{PlainDuration, Instant, Controlled, Uncertain, lasts}
use Rattle.stp_task.specs.SoundTask.{IsActionInRange}
use Rattle.stp_rewriting.specs.Rewritten.{Rewriting, Ending, footprint_of_end, is_shadowed, other_ends}
use Rattle.stp_rewrite.specs.declared.rewriter.Rewriter.{Rewriter}
use Rattle.stp_rewrite.specs.Counts.{if_lasting}
use Rattle.stp_rewrite.specs.Ends.{number_or_none}
use Rattle.stp_rewrite.specs.RewrittenTasks.{uncertain_end}
use Rattle.stp_rewrite.specs.Rewriters.{plain_in, rewriting_by}
use Rattle.stp_rewrite.specs.Rows.{writes_if, writes_at_end}
use Rattle.stp_rewrite.proofs.Numbers.{any_ending}
use Rattle.stp_rewrite.proofs.SameShadows.{AllAgree, same_expanded}
use Rattle.stp_rewrite.proofs.Settling.{below_has, shadow_is}
use Rattle.stp_rewrite.proofs.Tasks.{actions_in_range}

pub if_it_lasts : (d : PlainDuration) (n : ℕ) → lasts d ≡ true → if_lasting d n ≡ n
if_it_lasts Instant n h = cc
if_it_lasts (Controlled low high) n h = refl
if_it_lasts (Uncertain low high) n h = refl

pub if_at_once : (d : PlainDuration) (n : ℕ) → lasts d ≡ false → if_lasting d n ≡ 0
if_at_once Instant n h = refl
if_at_once (Controlled low high) n h = cc
if_at_once (Uncertain low high) n h = cc

written_below : (n : ℕ) (d : PlainDuration) (f : Option Event) (a : ℕ) → IfSome f (IsEventInRange n) → writes_if (uncertain_end d (option_map happening_of f)) a ≡ true → a < n
written_below n Instant f a r h = cc
written_below n (Controlled low high) f a r h = cc
written_below n (Uncertain low high) None a r h = cc
written_below n (Uncertain low high) (Some e) a r h = elim (either (has (atoms_of e.adds.now) a) (has (atoms_of e.dels.now) a) h) [
  | inl m ↦ below_has n e.adds.now r.adds a m
  | inr m ↦ below_has n e.dels.now r.dels a m
]

known : (o : Option (Option AtomId)) (a m : ℕ) → number_or_none o ≡ Some m → shadow_or o a ≡ m
known None a m h = cc
known (Some None) a m h = cc
known (Some (Some n)) a m h = cc

others_agree : (r : Rewriting) (s t : ℕ → ℕ) (key : ℕ) (os : List Ending) → ((a : ℕ) → list_any (λ o. has o.event.adds a || has o.event.dels a) os ≡ true → s a ≡ t a) → AllAgree s t (map (footprint_of_end r) (filter (λ o. not (o.key == key)) os))
others_agree r s t key [] h = λ p i. absurd (member_nil p i)
others_agree r s t key (o ∷ os) h =
    by_test (not (o.key == key)) (others_agree r s t key os (λ a m. h a (or_right (has o.event.adds a || has o.event.dels a) (list_any (λ o. has o.event.adds a || has o.event.dels a) os) m)))
  where
    by_test : (b : Bool) → AllAgree s t (map (footprint_of_end r) (filter (λ o. not (o.key == key)) os)) →
        AllAgree s t (map (footprint_of_end r) (cond b (o ∷ filter (λ o. not (o.key == key)) os) (filter (λ o. not (o.key == key)) os)))
    by_test true rest = λ p i. elim (member_cases (footprint_of_end r o) (map (footprint_of_end r) (filter (λ o. not (o.key == key)) os)) p i) [
      | inl e ↦ subst (λ q. (a : ℕ) → (has q.adds a || has q.dels a) ≡ true → s a ≡ t a) e (λ a m. h a (or_left (has o.event.adds a || has o.event.dels a) (list_any (λ o. has o.event.adds a || has o.event.dels a) os) m))
      | inr m ↦ rest p m
    ]
    by_test false rest = rest

module _ (w : Rewriter) where
  shadowed_below : (a : ℕ) → is_shadowed (rewriting_by w) a ≡ true → a < plain_in w
  shadowed_below a h =
      let actions = w.task.now.actions in
      let m = passing_member (λ x. writes_at_end (action_of x) a) actions (any_ending 1 actions a ∙ h) in
      let range = All-contains (IsActionInRange (plain_in w)) actions m.0 (actions_in_range w.task.now) m.1 in
      written_below (plain_in w) (action_of m.0).duration m.0.finish a range.finish m.2

  same_shadow : (a : ℕ) → is_shadowed (rewriting_by w) a ≡ true → shadow_in w.shadow_of a ≡ (rewriting_by w).shadow a
  same_shadow a h =
      known (slice_get w.shadow_of a) a ((rewriting_by w).shadow a)
      (shadow_is w a (shadowed_below a h) ∙ ap (λ b. cond b (Some ((rewriting_by w).shadow a)) None) h)

  -- the expansion with the shadows of the row is that of the definition
  pub expanded_by_row : (key : ℕ) (f : Formula) → expanded (shadow_in w.shadow_of) (other_ends (rewriting_by w) key) f ≡ expanded (rewriting_by w).shadow (other_ends (rewriting_by w) key) f
  expanded_by_row key f =
      same_expanded (shadow_in w.shadow_of) (rewriting_by w).shadow (other_ends (rewriting_by w) key)
      (others_agree (rewriting_by w) (shadow_in w.shadow_of) (rewriting_by w).shadow key (rewriting_by w).endings same_shadow) f
