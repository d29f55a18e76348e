use Rattle.std.proofs.Common.{◌≡◌, length, sym, ap, ◌∙◌, arith}
use Rattle.stp_task.specs.Actions.{happening_of}
use Rattle.stp_rewrite.specs.Counts.{locks_of}
use Rattle.stp_rewrite.specs.Rewriters.{rewriting_by}
use Rattle.std.proofs.Common.{filter}
use Rattle.stp_cond.specs.Events.{event_of}
use Rattle.stp_rewriting.specs.Rewritten.{locks}
use Rattle.stp_rewrite.specs.Ends.{end_views, is_lock}
use Rattle.stp_rewrite.proofs.Ends.{event_of_shape}
use Rattle.stp_rewrite.proofs.Numbered.{locks_counted}
use Rattle.stp_rewrite.proofs.rewriter.Rewriter.locks_of.Goals as goal

pub returns : goal.returns
returns c =
    let r = rewriting_by c.args.self.now in
    let key = c.args.number.0 in
    let e = event_of c.args.event.now in
    let count : c.count_among.result ≡ locks_of r key (happening_of c.args.event.now)
    = c.count_among.ensures ∙ (ap (λ l. length (filter (is_lock key e) l)) (ap end_views c.as_slice.ensures ∙ c.args.self.now.ended)
    ∙ (locks_counted r key e ∙ ap (λ e. length (locks r key e)) (sym (event_of_shape c.args.event.now)))) in
    omega (arith, c.min.ensures, count)
