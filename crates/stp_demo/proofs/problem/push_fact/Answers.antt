use Rattle.std.proofs.Common.{ap, sym, ◌∙◌}
use Rattle.std.specs.Prelude.{◌++◌, codes}
use Rattle.std.proofs.lemmas.Result.{on_ok_weaker}
use Rattle.stp_demo.specs.Pieces.{line, fast}
use Rattle.stp_demo.specs.Problem.{road_text, time_text}
use Rattle.stp_demo.proofs.JoinedTexts.{five}
use Rattle.stp_demo.proofs.problem.push_fact.Goals as goal

pub returns : goal.returns
returns c =
    let n = c.args.number in
    let blank = codes " " in
    let road = c.in_ok-road.road.bytes.items in
    let least = c.in_ok-fast.fast.bytes.items in
    let most = c.in_ok-slow.slow.bytes.items in
    on_ok_weaker c.push_line.result
    (λ e. e
    ∙ ap (λ t. c.args.out.now ++ line t)
    (c.as_str.ensures.value
    ∙ c.in_ok-words.ensures.ok
    ∙ sym (five road blank least blank most)
    ∙ ap (λ t. t ++ blank ++ least ++ blank ++ most) c.in_ok-road.ensures
    ∙ ap (λ t. road_text n ++ blank ++ t ++ blank ++ most) c.in_ok-fast.ensures
    ∙ ap (λ t. road_text n ++ blank ++ time_text (codes "fast") n t ++ blank ++ most) c.fast_time.ensures
    ∙ ap (λ t. road_text n ++ blank ++ time_text (codes "fast") n (fast n) ++ blank ++ t) c.in_ok-slow.ensures
    ∙ ap (λ t. road_text n ++ blank ++ time_text (codes "fast") n (fast n) ++ blank ++ time_text (codes "slow") n t) c.slow_time.ensures))
    c.push_line.ensures
