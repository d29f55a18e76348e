use Rattle.std.proofs.Common.{◌≡◌, arith, length, ap}
use Rattle.std.proofs.lemmas.Bool.Decides.{nat_tests}
use Rattle.stp_text.proofs.Items.{no_two}
use Rattle.stp_condition.specs.Scope.{with_value}
use Rattle.stp_body.specs.Forms.{at_pair}
use Rattle.stp_body.proofs.form.at_moment.Goals as goal
use Rattle.stp_body.proofs.form.at_moment.Goals.{in_default-via-then-items-lt2, in_default-via-else-items-lt2+else-items-lt3}

pub returns-in_default : goal.returns-in_default
returns-in_default c = ap (with_value (at_pair c.args.word.now)) (no_two c.args.items.now (λ (e : length c.args.items.now ≡ 2). elim c.in_default.branch [ in_default-via-then-items-lt2 w ↦ let h = w.if-items-lt2-1 in grind (arith, nat_tests) | in_default-via-else-items-lt2+else-items-lt3 w ↦ let h = w.if-items-lt3-1 in grind (arith, nat_tests) ]))
