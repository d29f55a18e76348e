use Rattle.std.proofs.Common.{map, drop, get_or, ◌+◌, arith}
use Rattle.stp_domain_parts.specs.Views.{action_of}
use Rattle.stp_domain_tables.specs.Actions.{no_actions, action_read, actions_read}
use Rattle.stp_domain_tables.specs.ActionViews.{actions_of}
use Rattle.stp_domain_tables.proofs.Going.{goes_next}
use Rattle.stp_domain_tables.proofs.Slices.{no_parts, map_drop}
use Rattle.stp_domain_tables.proofs.actions.read_actions.Goals as goal

pub loop-action-preserved : goal.loop-action-preserved
loop-action-preserved c = record {
  read =
      goes_next (action_read (actions_of c.loop-action.names c.loop-action.rows) (action_of (get_or c.args.actions.now c.loop-action.action-index no_parts))) (λ next. actions_read next (map action_of (drop (c.loop-action.action-index + 1) c.args.actions.now))) (actions_read no_actions (map action_of c.args.actions.now))
      (rw (map_drop action_of c.args.actions.now c.loop-action.action-index no_parts (omega arith)) at c.loop-action.invariant.read)
      c.in_ok-read_action.ensures.read;
  named = c.in_ok-read_action.ensures.named c.loop-action.invariant.named;
}
