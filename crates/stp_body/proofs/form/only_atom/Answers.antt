use Rattle.std.proofs.Common.{◌≡◌, arith, length, ap}
use Rattle.std.proofs.lemmas.Bool.Decides.{nat_tests}
use Rattle.stp_text.proofs.Items.{no_one, views_one}
use Rattle.stp_condition.specs.Scope.{with_value}
use Rattle.stp_body.specs.Forms.{atom_in}
use Rattle.stp_body.proofs.form.only_atom.Goals as goal
use Rattle.stp_body.proofs.form.only_atom.Goals.{in_default-via-then-items-lt1, in_default-via-else-items-lt1+else-items-lt2}

pub returns-in_default : goal.returns-in_default
returns-in_default c = ap (with_value atom_in) (no_one c.args.items.now (λ (e : length c.args.items.now ≡ 1). elim c.in_default.branch [ in_default-via-then-items-lt1 w ↦ let h = w.if-items-lt1-1 in grind (arith, nat_tests) | in_default-via-else-items-lt1+else-items-lt2 w ↦ let h = w.if-items-lt2-1 in grind (arith, nat_tests) ]))

pub returns : goal.returns
returns c = rw (views_one c.args.items.now c.item-item.result (omega arith) c.item-item.is) c.atom_in.ensures
