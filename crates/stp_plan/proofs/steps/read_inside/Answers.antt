use Rattle.std.proofs.Common.{◌+◌, ℕ, take, drop, option_map, ap, ◌∙◌, sym, arith}
use Rattle.std.proofs.lemmas.List.{take_rest}
use Rattle.stp_frac.specs.Fractions.{Fraction}
use Rattle.stp_plan.specs.Numbers.{plain_number}
use Rattle.stp_plan.specs.Steps.{Exactly}
use Rattle.stp_plan.specs.Views.{plain_bracket}
use Rattle.stp_plan.proofs.Forms.{inside_number, inside_pair, no_low, no_high, both}
use Rattle.stp_plan.proofs.steps.read_inside.Goals as goal

pub returns-then-comma-word : goal.returns-then-comma-word
returns-then-comma-word c =
    ap (option_map (λ (n : Fraction). Exactly n)) c.in_ok-plain_number.ensures
    ∙ sym (inside_number c.args.word.now (sym c.if-is_star.false ∙ c.is_star.ensures) (sym c.place_of_byte-comma.ensures.value ∙ c.if-comma-word.true))

pub returns-in_err-low : goal.returns-in_err-low
returns-in_err-low c =
    let n : ℕ = c.place_of_byte-comma.result in
    ap (option_map plain_bracket) c.from_residual-in_err-low.ensures
    ∙ sym (inside_pair c.args.word.now n (sym c.if-is_star.false ∙ c.is_star.ensures) c.place_of_byte-comma.ensures.value (omega arith)
    ∙ no_low _ (plain_number (drop (n + 1) c.args.word.now)) c.in_err-low.ensures)

pub returns-in_err-high : goal.returns-in_err-high
returns-in_err-high c =
    let n : ℕ = c.place_of_byte-comma.result in
    ap (option_map plain_bracket) c.from_residual-in_err-high.ensures
    ∙ sym (inside_pair c.args.word.now n (sym c.if-is_star.false ∙ c.is_star.ensures) c.place_of_byte-comma.ensures.value (omega arith)
    ∙ no_high (plain_number (take n c.args.word.now)) _ (c.in_err-high.ensures ∙ ap plain_number (take_rest c.args.word.now (n + 1))))

pub returns : goal.returns
returns c =
    let n : ℕ = c.place_of_byte-comma.result in
    sym (inside_pair c.args.word.now n (sym c.if-is_star.false ∙ c.is_star.ensures) c.place_of_byte-comma.ensures.value (omega arith)
    ∙ both _ _ _ _ c.in_ok-low.ensures (c.in_ok-high.ensures ∙ ap plain_number (take_rest c.args.word.now (n + 1))))
