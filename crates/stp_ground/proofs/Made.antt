-- The ground action that is made of what is chosen.
use Rattle.std.proofs.Common.{◌≡◌, ℕ, List, Result, Ok, Err, ap, sym, ◌∙◌}
use Rattle.stp_schema.specs.Views.{PlainProblem}
use Rattle.stp_tables.specs.Atoms.{Atom}
use Rattle.stp_task.specs.Actions.{PlainAction}
use Rattle.stp_instance.specs.Numbered.{with_atoms}
use Rattle.stp_ground.specs.declared.fault.InstanceFault.{InstanceFault}
use Rattle.stp_base.specs.Results.{◌>>=◌}
use Rattle.stp_ground.specs.Chosen.{PlainChosen, chosen_by}
use Rattle.stp_ground.specs.Ground.{action_by, atoms_of_chosen, instance_by}

module _ (p q : PlainProblem) (same : q ≡ p) (name : List ℕ) (names : List (List ℕ)) (old : List Atom) where
  abbrev then_made : PlainChosen → Result (List Atom × PlainAction) InstanceFault
  then_made c = Ok (with_atoms old (atoms_of_chosen p c), action_by p (with_atoms old (atoms_of_chosen p c)) c)

  pub none_made : (fault : InstanceFault) → chosen_by q name names ≡ Err fault → instance_by p name names old ≡ Err fault
  none_made fault e = ap (λ r. r >>= then_made) (ap (λ r. chosen_by r name names) (sym same) ∙ e)

  pub one_made : (c : PlainChosen) (new : List Atom) (action : PlainAction) → chosen_by q name names ≡ Ok c → new ≡ with_atoms old (atoms_of_chosen q c) → action ≡ action_by q new c → instance_by p name names old ≡ Ok (new, action)
  one_made c new action e f g =
      ap (λ r. r >>= then_made) (ap (λ r. chosen_by r name names) (sym same) ∙ e)
      ∙ ap (λ t. Ok (t, action_by p t c)) (sym (f ∙ ap (λ r. with_atoms old (atoms_of_chosen r c)) same))
      ∙ ap (λ a. Ok (new, a)) (sym (g ∙ ap (λ r. action_by r new c) same))
