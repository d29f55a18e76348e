use Rattle.std.proofs.Common.{◌≤◌, length, ◌∙◌, arith, length-drop}
use Rattle.stp_text.proofs.Taking.{past_white, past_semicolon, takes_open, takes_close, takes_word, refuses_word, refuses_byte, takes_from, refuses_from, nothing_left}
use Rattle.stp_text.proofs.reader.Reader.piece.Goals as goal

pub loop-byte-preserved-in-White : goal.loop-byte-preserved-in-White
loop-byte-preserved-in-White c = rw c.skip.ensures (past_white c.loop-byte.self c.in-Some.byte c.in-Some.ensures c.in-White.ensures ∙ c.loop-byte.invariant.0, rw length-drop (omega arith))

pub loop-byte-preserved : goal.loop-byte-preserved
loop-byte-preserved c = (c.skip_comment.ensures.same ∙ rw c.skip-in-Semicolon.ensures (past_semicolon c.loop-byte.self c.in-Some.byte c.in-Some.ensures c.in-Semicolon.ensures ∙ c.loop-byte.invariant.0), (let h = c.skip_comment.ensures.shorter in let k : length c.skip-in-Semicolon.new.self.1 ≤ length c.loop-byte.self.1 = rw (c.skip-in-Semicolon.ensures, length-drop) (omega arith) in let i = c.loop-byte.invariant.1 in omega arith))

pub returns-in-Open : goal.returns-in-Open
returns-in-Open c = takes_from _ _ c.loop-byte.self _ c.loop-byte.invariant (rw (c.place-at.ensures, c.skip-in-Open.ensures) (takes_open c.loop-byte.self c.in-Some.byte c.in-Some.ensures c.in-Open.ensures))

pub returns-in-Close : goal.returns-in-Close
returns-in-Close c = takes_from _ _ c.loop-byte.self _ c.loop-byte.invariant (rw (c.place-at.ensures, c.skip-in-Close.ensures) (takes_close c.loop-byte.self c.in-Some.byte c.in-Some.ensures c.in-Close.ensures))

pub returns-then-text-gt-MAX_WORD_BYTES : goal.returns-then-text-gt-MAX_WORD_BYTES
returns-then-text-gt-MAX_WORD_BYTES c = refuses_from _ _ c.loop-byte.self c.loop-byte.invariant (rw c.place-at.ensures (refuses_word c.loop-byte.self c.in-Some.byte _ c.in-Some.ensures c.in-Word.ensures c.run-text.ensures.text c.if-text-gt-MAX_WORD_BYTES.true))

pub returns-in-Word : goal.returns-in-Word
returns-in-Word c = takes_from _ _ c.loop-byte.self _ c.loop-byte.invariant (rw (c.place-at.ensures, c.run-text.ensures.moved) (takes_word c.loop-byte.self c.in-Some.byte _ c.in-Some.ensures c.in-Word.ensures c.run-text.ensures.text c.if-text-gt-MAX_WORD_BYTES.false))

pub returns-in-Other : goal.returns-in-Other
returns-in-Other c = refuses_from _ _ c.loop-byte.self c.loop-byte.invariant (rw c.place-at.ensures (refuses_byte c.loop-byte.self c.in-Some.byte c.in-Some.ensures c.in-Other.ensures))

pub returns : goal.returns
returns c = nothing_left _ c.loop-byte.self c.loop-byte.invariant c.in_default.ensures
