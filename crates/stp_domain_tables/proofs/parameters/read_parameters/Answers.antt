use Rattle.std.proofs.Common.{length, ap, arith}
use Rattle.std.proofs.lemmas.List.{length-map}
use Rattle.stp_domain_parts.specs.Entries.{plain, plains}
use Rattle.stp_domain_tables.proofs.Judging.{parameters_few}
use Rattle.stp_domain_tables.proofs.parameters.read_parameters.Goals as goal

pub returns : goal.returns
returns c = λ seen e.
    let size = length-map c.in_ok-entries.entries plain in
    let same = ap length c.as_slice.ensures in
    let few = c.if-as_slice-gt-MAX_PARAMETERS.false in
    parameters_few _ c.args.head.at _ c.args.first.now _ _ _ _ (plains c.in_ok-entries.entries) (omega (arith, size, same, few)) c.in_ok-entries.ensures
    (rw (c.as_slice-2.ensures, c.new-names.ensures) at c.in_ok-judge_names.ensures.found)
    (rw c.as_slice-3.ensures at c.judge_shapes.ensures)
    (c.judge_name.ensures seen e)
