use Rattle.std.proofs.Common.{Some, None, cond, ◌∙◌, ap, sym, option_map}
use Rattle.std.proofs.lemmas.Bool.{eq-eqb, ne_eqb}
use Rattle.stp_plan.specs.Parts.{parts}
use Rattle.stp_plan.proofs.Cuts.{after_nil, after_first}
use Rattle.stp_plan.proofs.parts.mark.Goals as goal

pub returns-in_err-first : goal.returns-in_err-first
returns-in_err-first c =
    ap (option_map (λ rest. parts rest.now)) c.from_residual.ensures
    ∙ sym (after_nil c.args.byte c.args.text.now c.trimmed.result.now c.trimmed.ensures.parts c.in_err-first.ensures.cases)

pub returns-then-first-byte : goal.returns-then-first-byte
returns-then-first-byte c =
    sym (after_first c.args.byte c.in_ok-first.first.now c.args.text.now c.trimmed.result.now c.in_ok-first.rest.now c.requires c.trimmed.ensures.parts c.trimmed.ensures.black c.in_ok-first.ensures.cases
    ∙ ap (λ t. cond t (Some (parts c.in_ok-first.rest.now)) None) (ne_eqb c.in_ok-first.first.now c.args.byte c.if-first-byte.true))

pub returns : goal.returns
returns c =
    sym (after_first c.args.byte c.in_ok-first.first.now c.args.text.now c.trimmed.result.now c.in_ok-first.rest.now c.requires c.trimmed.ensures.parts c.trimmed.ensures.black c.in_ok-first.ensures.cases
    ∙ ap (λ t. cond t (Some (parts c.in_ok-first.rest.now)) None) (eq-eqb c.in_ok-first.first.now c.args.byte c.if-first-byte.false))
