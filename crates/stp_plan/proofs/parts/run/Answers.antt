use Rattle.std.proofs.Common.{◌<◌, Some, take, drop, ◌∙◌, ap, sym, arith}
use Rattle.std.specs.List.{prefix_len}
use Rattle.stp_plan.specs.Parts.{is_run_byte, parts, first_run}
use Rattle.stp_plan.proofs.Cuts.{run_some, run_none}
use Rattle.stp_plan.proofs.parts.run.Goals as goal

pub returns-then-end-eq0-clause-value : goal.returns-then-end-eq0-clause-value
returns-then-end-eq0-clause-value c =
    sym (ap first_run (sym c.trimmed-text.ensures.parts)
    ∙ run_none c.trimmed-text.result.now c.trimmed-text.ensures.black (sym c.run_length-end.ensures.value ∙ c.if-end-eq0.true))

pub returns-clause-value : goal.returns-clause-value
returns-clause-value c =
    let h : 0 < prefix_len is_run_byte c.trimmed-text.result.now = omega arith in
    sym (ap first_run (sym c.trimmed-text.ensures.parts)
    ∙ run_some c.trimmed-text.result.now h
    ∙ ap (λ n. Some (take n c.trimmed-text.result.now, parts (drop n c.trimmed-text.result.now))) (sym c.run_length-end.ensures.value)
    ∙ ap (λ run. Some (run, parts (drop c.run_length-end.result c.trimmed-text.result.now))) (sym c.split_at.ensures.front)
    ∙ ap (λ rest. Some (c.split_at.result.0.now, parts rest)) (sym c.split_at.ensures.back))
