use Rattle.std.proofs.Common.{◌≡◌, ◌++◌, ◌∷◌, [], OnOk, option_map, sym, ap, ap₂, ◌∙◌, subst}
use Rattle.stp_task.specs.Actions.{action_of, happening_of}
use Rattle.stp_cond.specs.Events.{event_of}
use Rattle.stp_rewrite.specs.Ends.{end_views, end_with, ends_with}
use Rattle.stp_rewrite.specs.RewrittenTasks.{end_of}
use Rattle.stp_rewrite.proofs.Ends.{event_of_shape}
use Rattle.stp_rewrite.proofs.ending.add_uncertain.Goals as goal

pub returns : goal.returns
returns c =
    let key = c.args.number.0 in
    let end = sym c.uncertain_end.ensures.end ∙ ap (option_map happening_of) c.in-Some.is in
    let is : ends_with key (end_of (action_of c.args.action.now)) (option_map (λ a. a.0) c.args.opened) ≡ end_with key (event_of c.in-Some.event) c.in-Some-opened.atom.0 ∷ []
    = ap₂ (ends_with key) end (ap (option_map (λ a. a.0)) c.in-Some-opened.is) ∙ ap (λ e. end_with key e c.in-Some-opened.atom.0 ∷ []) (event_of_shape c.in-Some.event) in
    subst (λ l. OnOk c.add_end.result (end_views c.add_end.new.ends ≡ end_views c.args.ends.now ++ l)) (sym is) c.add_end.ensures
