use Rattle.std.proofs.Common.{◌∙◌}
use Rattle.std.proofs.lemmas.Result.{err_from_is_err_and}
use Rattle.stp_text.specs.Reading.{tokens_of}
use Rattle.stp_text.specs.Pieces.{sign_of}
use Rattle.stp_text.proofs.Continuing.{token_right, tokens_end, tokens_refused, taken, none_taken}
use Rattle.stp_text.proofs.token.tokens.Goals as goal

pub returns-in_err-piece : goal.returns-in_err-piece
unfolding tokens_of
returns-in_err-piece c =
    let p = err_from_is_err_and c.from_residual.result c.from_residual.ensures.1 in
    rw (p.1, p.2) (λ ne. c.loop-found.invariant ∙ tokens_refused _ c.loop-found.reader _ c.in_err-piece.ensures)

pub loop-found-preserved : goal.loop-found-preserved
loop-found-preserved c =
    let took = taken c.loop-found.reader _ c.in_ok-piece.field-0 c.in-Some.piece c.in-Some.is c.in_ok-piece.ensures in
    c.loop-found.invariant ∙ rw (took.same, c.in_ok-push.ensures.ok) (token_right _ _ (sign_of c.in-Some.piece) _ took.right c.token_at.ensures)

pub returns : goal.returns
unfolding tokens_of
returns c = c.loop-found.invariant ∙ rw (none_taken c.loop-found.reader c.piece.new.self c.in_ok-piece.field-0 c.in_default.is c.in_ok-piece.ensures) (tokens_end c.loop-found.found)
