-- Which actions stand at an atom.
use Rattle.std.proofs.Common.{◌≡◌, ℕ, ◌+◌, ◌<◌, nat_lt, true, false, List, length, All, Some, None, get_or, inl, inr, ◌⊎◌, refl, sym, ap, ◌∙◌, subst, arith}
use Rattle.std.specs.List.{list_all}
use Rattle.std.proofs.lemmas.Bool.{cases_lt}
use Rattle.std.proofs.lemmas.List.{get_or_default}
use Rattle.stp_base.specs.declared.ids.AtomId.{AtomId}
use Rattle.stp_cond.specs.declared.cond.Cond.{Cond}
use Rattle.stp_cond.specs.Atoms.{has, set_of}
use Rattle.stp_cond.specs.Formulas.{atoms_in, view}
use Rattle.stp_cond.specs.Truth.{is_below}
use Rattle.stp_cond.specs.Views.{atoms_of}
use Rattle.stp_cond.proofs.EventLists.{All_from_below}
use Rattle.stp_cond.proofs.Interferes.{either}
use Rattle.stp_cond.proofs.Rising.{all_set, has_set}
use Rattle.stp_cond.proofs.Shapes.{reads_are_of_shape}
use Rattle.stp_task.specs.declared.action.GroundAction.{GroundAction}
use Rattle.stp_task.specs.Actions.{PlainAction, PlainHappening, action_of}
use Rattle.stp_relax.proofs.Tests.{clash}
use Rattle.stp_relax.specs.Watched.{IsPut, IsWatched, is_read, is_read_in_the_end, stands_at}

-- the atoms of a formula are below a number
pub inside_in_range : (n : ℕ) (cond : Cond) (xs : List AtomId) → atoms_of xs ≡ set_of (atoms_in (view cond)) → is_below n cond ≡ true → All (λ a. a.0 < n) xs
inside_in_range n cond xs e h =
    All_from_below n xs
    (ap (list_all (λ a. nat_lt a n)) e ∙ (all_set (λ a. nat_lt a n) (atoms_in (view cond)) ∙ (sym (reads_are_of_shape (λ a. nat_lt a n) cond) ∙ h)))

end_not_read : (action : PlainAction) (a : ℕ) → action.finish ≡ None → is_read_in_the_end action.over action.finish a ≡ true → ⊥
end_not_read action a none h = clash false (subst (λ f. is_read_in_the_end action.over f a ≡ true) none h) refl

pub watched_start : (action : PlainAction) (number : ℕ) (old new : List (List ℕ)) → action.finish ≡ None → IsPut action.start.reads number old new → IsWatched action number old new
watched_start action number old new none h = record {
  size = h.size;
  kept = h.kept;
  put = λ a k. elim (either (has action.start.reads a) (is_read_in_the_end action.over action.finish a) k) [ inl m ↦ h.put a m | inr m ↦ absurd (end_not_read action a none m) ];
}

read_in_the_end : (action : PlainAction) (e : PlainHappening) (a : ℕ) → action.finish ≡ Some e → is_read_in_the_end action.over action.finish a ≡ true → (has e.reads a ≡ true) ⊎ (has (atoms_in action.over) a ≡ true)
read_in_the_end action e a some h = either (has e.reads a) (has (atoms_in action.over) a) (subst (λ f. is_read_in_the_end action.over f a ≡ true) some h)

pub watched_end : (action : PlainAction) (e : PlainHappening) (inside : List ℕ) (number : ℕ) (old one two new : List (List ℕ)) → action.finish ≡ Some e → inside ≡ set_of (atoms_in action.over) →
    IsPut action.start.reads number old one → IsPut e.reads number one two → IsPut inside number two new → IsWatched action number old new
watched_end action e inside number old one two new some same h k l = record {
  size = l.size ∙ (k.size ∙ h.size);
  kept = λ a j m. l.kept a j (k.kept a j (h.kept a j m));
  put = λ a m.
      elim (either (has action.start.reads a) (is_read_in_the_end action.over action.finish a) m) [
        | inl n ↦ l.kept a number (k.kept a number (h.put a n))
        | inr n ↦
            elim (read_in_the_end action e a some n) [
              | inl o ↦ l.kept a number (k.put a o)
              | inr o ↦ l.put a (ap (λ xs. has xs a) same ∙ (has_set (atoms_in action.over) a ∙ o))
            ]
      ];
}

-- one more action
pub watched_more : (actions : List GroundAction) (i : ℕ) (action : GroundAction) (old new : List (List ℕ)) → action ≡ get_or actions i action → i < length actions → IsWatched (action_of action) i old new →
    ((j : ℕ) (d : GroundAction) (a : ℕ) → j < i → is_read (action_of (get_or actions j d)) a ≡ true → stands_at old a j ≡ true) →
    (j : ℕ) (d : GroundAction) (a : ℕ) → j < i + 1 → is_read (action_of (get_or actions j d)) a ≡ true → stands_at new a j ≡ true
watched_more actions i action old new e l w h j d a m r =
    elim (cases_lt j i) [
      | inl n ↦ w.kept a j (h j d a n r)
      | inr n ↦
          let same : j ≡ i = omega (arith, m, n) in
          let this : get_or actions j d ≡ action = ap (λ k. get_or actions k d) same ∙ (get_or_default actions i d action l ∙ sym e) in
          subst (λ k. stands_at new a k ≡ true) (sym same) (w.put a (subst (λ x. is_read (action_of x) a ≡ true) this r))
    ]
