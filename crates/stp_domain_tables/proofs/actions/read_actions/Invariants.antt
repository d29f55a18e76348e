use Rattle.std.proofs.Common.{◌≡◌, drop, map}
use Rattle.stp_domain_parts.specs.Then.{Goes}
use Rattle.stp_domain_parts.specs.Views.{action_of}
use Rattle.stp_domain_tables.specs.Actions.{no_actions, actions_read}
use Rattle.stp_domain_tables.specs.ActionViews.{actions_of}
use Rattle.stp_domain_tables.specs.Named.{action_names_of}
use Rattle.stp_domain_tables.proofs.actions.read_actions.Given as goal

abbrev pub invariant-loop-action : goal.invariant-loop-action
invariant-loop-action l = record {
  read : Goes l.fn.first l.first (actions_read (actions_of l.names l.rows) (map action_of (drop l.action-index l.actions))) (actions_read no_actions (map action_of l.actions));
  named : l.names ≡ action_names_of l.rows;
}
