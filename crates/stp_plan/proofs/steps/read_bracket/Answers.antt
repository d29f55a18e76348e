use Rattle.std.proofs.Common.{true, false, Some, None, option_map, ap, ◌∙◌, sym}
use Rattle.stp_plan.specs.Parts.{parts, after}
use Rattle.stp_base.specs.Options.{◌>>=◌}
use Rattle.stp_plan.specs.Steps.{NoBracket, inside}
use Rattle.stp_plan.specs.Views.{plain_bracket}
use Rattle.stp_plan.proofs.Following.{goes_on, stops}
use Rattle.stp_plan.proofs.Forms.{bracket_start, in_bracket, after_word, at_end, at_nil}
use Rattle.stp_plan.proofs.steps.read_bracket.Goals as goal

pub returns-then-is_blank : goal.returns-then-is_blank
returns-then-is_blank c =
    sym (bracket_start (parts c.args.text.now)
    ∙ at_nil (Some NoBracket) (after 91 (parts c.args.text.now) >>= in_bracket) c.args.text.now true (sym c.if-is_blank.true ∙ c.is_blank.ensures))

pub returns-in_err-rest : goal.returns-in_err-rest
returns-in_err-rest c =
    ap (option_map plain_bracket) c.from_residual.ensures
    ∙ sym (bracket_start (parts c.args.text.now)
    ∙ at_nil (Some NoBracket) (after 91 (parts c.args.text.now) >>= in_bracket) c.args.text.now false (sym c.if-is_blank.false ∙ c.is_blank.ensures)
    ∙ stops in_bracket _ c.in_err-rest.ensures)

pub returns-then-not-is_blank : goal.returns-then-not-is_blank
returns-then-not-is_blank c =
    sym (bracket_start (parts c.args.text.now)
    ∙ at_nil (Some NoBracket) (after 91 (parts c.args.text.now) >>= in_bracket) c.args.text.now false (sym c.if-is_blank.false ∙ c.is_blank.ensures)
    ∙ goes_on in_bracket _ _ c.in_ok-rest.ensures
    ∙ goes_on (λ run. after_word run.0 run.1) _ _ c.in_ok-word.ensures.value
    ∙ goes_on (at_end c.in_ok-word.word.now) _ _ c.in_ok-rest-2.ensures
    ∙ at_nil (inside c.in_ok-word.word.now) None c.in_ok-rest-2.rest.now false (sym c.if-not-is_blank.true ∙ c.is_blank-2.ensures))

pub returns : goal.returns
returns c =
    c.read_inside.ensures
    ∙ sym (bracket_start (parts c.args.text.now)
    ∙ at_nil (Some NoBracket) (after 91 (parts c.args.text.now) >>= in_bracket) c.args.text.now false (sym c.if-is_blank.false ∙ c.is_blank.ensures)
    ∙ goes_on in_bracket _ _ c.in_ok-rest.ensures
    ∙ goes_on (λ run. after_word run.0 run.1) _ _ c.in_ok-word.ensures.value
    ∙ goes_on (at_end c.in_ok-word.word.now) _ _ c.in_ok-rest-2.ensures
    ∙ at_nil (inside c.in_ok-word.word.now) None c.in_ok-rest-2.rest.now true (sym c.if-not-is_blank.false ∙ c.is_blank-2.ensures))
