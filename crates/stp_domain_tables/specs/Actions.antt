-- Actions and their parameters.
use Rattle.std.specs.Prelude.{ℕ, false, List, [], ◌∷◌}
use Rattle.stp_refusal.specs.Read.{Read, fine, map_read}
use Rattle.stp_tables.specs.Names.{with_name}
use Rattle.stp_domain_parts.specs.Entries.{Plain}
use Rattle.stp_domain_parts.specs.Actions.{Action}
use Rattle.stp_domain_parts.specs.Then.{then_read}
use Rattle.stp_domain_tables.specs.Heads.{Head}
use Rattle.stp_domain_tables.specs.Parameters.{parameters_read}
use Rattle.stp_domain_tables.specs.Symbols.{with_row}

-- an action as it is written, and the entries of its list of parameters
pub record ActionSignature : Type 0 where
  pub action : Action
  pub parameters : List Plain

-- what was declared so far, each name once
pub record Actions : Type 0 where
  pub names : List (List ℕ)
  pub rows : List ActionSignature

abbrev pub no_actions : Actions
no_actions = record { names = []; rows = [] }

abbrev pub head_of_action : Action → Head
head_of_action a = record { at = a.at; name_at = a.name_at; name = a.name; parameters = a.parameters }

abbrev pub with_action : Actions → Action → List Plain → Actions
with_action found action parameters = record {
  names = with_name found.names action.name;
  rows = with_row found.names action.name found.rows (record { action = action; parameters = parameters });
}

-- what is declared once this action is read
abbrev pub action_read : Actions → Action → Read Actions
action_read found action = map_read (with_action found action) (parameters_read false found.names (head_of_action action))

-- what is declared once these actions are read
abbrev pub actions_read : Actions → List Action → Read Actions
actions_read found [] = fine found
actions_read found (a ∷ as_) = then_read (action_read found a) (λ next. actions_read next as_)
