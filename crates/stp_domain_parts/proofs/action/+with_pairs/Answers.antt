use Rattle.std.proofs.Common.{take, drop, length, ◌-◌}
use Rattle.stp_text.proofs.Items.{views_head}
use Rattle.stp_domain_parts.proofs.action.+with_pairs.Goals as goal

pub returns : goal.returns
returns t c =
    rw (views_head c.args.items.now c.key-item.result c.in-len1-up.len_at_least c.key-item.is, views_head (take (length c.args.items.now - 1) (drop 1 c.args.items.now)) c.value-item.result c.in-len1-up-rest.len_at_least c.value-item.is, c.in_ok-found.ensures) c.with_pairs.ensures
