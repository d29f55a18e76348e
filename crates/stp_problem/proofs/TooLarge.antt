-- Goals and actions that are too large.
use Rattle.std.proofs.Common.{◌≡◌, ℕ, List, [], ◌∷◌, Option, Some, None, Ok, Err, map, sym, ap, ◌∙◌, subst}
use Rattle.std.proofs.Math.Path.{fun_ext}
use Rattle.std.specs.Prelude.{slice_index}
use Rattle.stp_types.specs.Rows.{parents_of as parents_in}
use Rattle.stp_refusal.specs.declared.code.Code.{Code}
use Rattle.stp_refusal.specs.declared.offence.Offence.{Offence}
use Rattle.stp_refusal.specs.declared.phase.ReadFault.TheVariants.{Refused}
use Rattle.stp_refusal.specs.Read.{Finds}
use Rattle.stp_refusal.specs.Phases.{chosen, ended, or_else}
use Rattle.stp_schema.specs.declared.rows.ObjectRow.{ObjectRow}
use Rattle.stp_schema.specs.declared.domain.Domain.{Domain}
use Rattle.stp_schema.specs.Rows.{thing_of, parents_of}
use Rattle.stp_schema.specs.Formula.{Formula}
use Rattle.stp_schema.specs.Schemas.{PlainSchema}
use Rattle.stp_problem.specs.Sizes.{AreSizes, size_of}
use Rattle.stp_problem.specs.Reading.{goal_wrong, actions_wrong, sizes_wrong}
use Rattle.stp_problem.proofs.Phases.{ended_well}

-- a list of the sizes of a domain's types says how many objects each has
pub sizes_are : (d : Domain) (rows : List ObjectRow) (items slice : List ℕ) → AreSizes (parents_in d.declared.ancestries.now) (map thing_of rows) items → slice ≡ items → slice_index slice ≡ size_of (parents_of d.types.now) (map thing_of rows)
sizes_are d rows items slice h e =
    ap slice_index e
    ∙ fun_ext h.each
    ∙ ap (λ parents. size_of parents (map thing_of rows)) (d.declared.same_parents ∙ sym d.same_parents)

-- ---- what is refused is what was found

abbrev offence : ℕ → Code → Offence
offence at code = record { at = at; code = code }

same_code : (o : Offence) (code : Code) (place : ℕ) → ended (Some o) ≡ Err (Refused code place) → o.code ≡ code
same_code o code place e = cc

same_place : (o : Offence) (code : Code) (place : ℕ) → ended (Some o) ≡ Err (Refused code place) → o.at ≡ place
same_place o code place e = cc

found_so : (f g : Option Offence) (code : Code) (place : ℕ) → ended f ≡ Err (Refused code place) → or_else f g ≡ Some (offence place code)
found_so None g code place e = cc
found_so (Some o) g code place e = ap (λ c. Some (offence o.at c)) (same_code o code place e) ∙ ap (λ p. Some (offence p code)) (same_place o code place e)

module _ (whole : ℕ → ℕ) (at : ℕ) (goal : Formula) (schemas : List PlainSchema) (size : ℕ → ℕ) (s : size ≡ whole) (f : Option Offence) (h : Finds None f (goal_wrong size at goal)) where
  goal_found : Finds None f (goal_wrong whole at goal)
  goal_found = subst (λ z. Finds None f (goal_wrong z at goal)) s h

  pub goal_refused : (code : Code) (place : ℕ) → ended f ≡ Err (Refused code place) → chosen (sizes_wrong whole at goal schemas) ≡ Some (offence place code)
  goal_refused code place e = ap (λ x. or_else x (chosen (actions_wrong whole schemas ∷ []))) (sym goal_found) ∙ found_so f (chosen (actions_wrong whole schemas ∷ [])) code place e

  module _ (e : ended f ≡ Ok tt) (again : ℕ → ℕ) (t : again ≡ whole) (g : Option Offence) (k : Finds None g (actions_wrong again schemas)) where
    action_found : Finds None g (actions_wrong whole schemas)
    action_found = subst (λ z. Finds None g (actions_wrong z schemas)) t k

    goal_past : chosen (sizes_wrong whole at goal schemas) ≡ or_else g None
    goal_past = ap (λ x. or_else x (chosen (actions_wrong whole schemas ∷ []))) (sym goal_found ∙ ended_well f e) ∙ ap (λ x. or_else x None) (sym action_found)

    pub action_refused : (code : Code) (place : ℕ) → ended g ≡ Err (Refused code place) → chosen (sizes_wrong whole at goal schemas) ≡ Some (offence place code)
    action_refused code place i = goal_past ∙ found_so g None code place i

    pub none_refused : ended g ≡ Ok tt → chosen (sizes_wrong whole at goal schemas) ≡ None
    none_refused i = goal_past ∙ ap (λ x. or_else x None) (ended_well g i)
