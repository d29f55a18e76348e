use Rattle.std.proofs.Common.{arith, sym, refl}
use Rattle.stp_schema.specs.Known.{known}
use Rattle.stp_condition.specs.Atoms.{atom_with}
use Rattle.stp_condition.specs.Views.{found_shape}
use Rattle.stp_condition.proofs.Found.{wrong_count, right_count}
use Rattle.stp_refusal.proofs.Reading.{mapped}
use Rattle.stp_condition.proofs.atom.read_atom.Goals as goal

pub returns-then-items-shape : goal.returns-then-items-shape
returns-then-items-shape c =
    rw (sym c.in-Some.ensures, wrong_count (known c.args.declared.now c.args.objects.now.rows.now) c.args.scope.now c.args.at c.args.items.now (found_shape (c.in-Some.symbol, c.in-Some.shape)) c.if-items-shape.true) c.refused-then-items-shape.ensures

pub returns : goal.returns
returns c =
    rw (sym c.in-Some.ensures, right_count (known c.args.declared.now c.args.objects.now.rows.now) c.args.scope.now c.args.at c.args.items.now (found_shape (c.in-Some.symbol, c.in-Some.shape)) (omega arith))
    (mapped (atom_with c.in-Some.symbol) _ _ _ _ _ refl c.in_ok-terms.ensures)
