use Rattle.std.proofs.Common.{◌≡◌, ◌≤◌, ◌<◌, ◌+◌, ℕ, ◌++◌, ◌∷◌, [], List, length, take, drop, ap, ◌∙◌, arith}
use Rattle.std.proofs.lemmas.List.{take_rest, length-drop, length_push}
use Rattle.std.proofs.lemmas.List.Elements.{All-push}
use Rattle.stp_plan.specs.declared.line.Line.{Line}
use Rattle.stp_plan.specs.Lines.{place_of}
use Rattle.stp_plan.proofs.Cutting.{line_length, end_within, places_more, texts_more, places_done, texts_done, place_within}
use Rattle.stp_plan.proofs.line.lines.Goals as goal

pub loop-at-preserved : goal.loop-at-preserved
loop-at-preserved c =
    let bytes : List ℕ = c.args.bytes.now in
    let at : ℕ = c.loop-at.at in
    let end : ℕ = c.place_of_byte-end.result in
    let rest = take_rest bytes at in
    let e : end ≡ line_length (drop at bytes) = c.place_of_byte-end.ensures.value ∙ ap line_length rest in
    let line : c.line_at.result ≡ place_of at (take end (drop at bytes)) = c.line_at.ensures ∙ ap (λ r. place_of at (take end r)) rest in
    let pushed : c.push.new.self ≡ c.loop-at.found ++ place_of at (take end (drop at bytes)) ∷ [] = c.in_ok-push.ensures.ok ∙ ap (λ l. c.loop-at.found ++ l ∷ []) line in
    let inside = place_within at (take end (drop at bytes)) in
    let long : length (take end (drop at bytes)) ≡ end = end_within bytes at end e in
    let room : at + end < length bytes + 1 = omega (arith, length-drop at bytes, ap length rest, c.place_of_byte-end.ensures.within) in
    let longer : length c.push.new.self ≡ length c.loop-at.found + 1 = ap length pushed ∙ length_push c.loop-at.found (place_of at (take end (drop at bytes))) in
    record {
      value = rw pushed (places_more bytes c.loop-at.found at end c.loop-at-test.true e c.loop-at.invariant.value);
      texts = rw pushed (texts_more bytes c.loop-at.found at end c.loop-at-test.true e c.loop-at.invariant.texts);
      within = rw pushed (All-push (λ (l : Line). (l.from ≤ l.to) × (l.to ≤ length bytes)) c.loop-at.found (place_of at (take end (drop at bytes))) c.loop-at.invariant.within (omega arith, omega arith));
      few = omega arith;
      reached = omega arith;
    }

pub returns-clause-value : goal.returns-clause-value
returns-clause-value c = places_done c.args.bytes.now c.loop-at.found c.loop-at.at (omega arith) c.loop-at.invariant.value

pub returns-clause-texts : goal.returns-clause-texts
returns-clause-texts c = texts_done c.args.bytes.now c.loop-at.found c.loop-at.at (omega arith) c.loop-at.invariant.texts
