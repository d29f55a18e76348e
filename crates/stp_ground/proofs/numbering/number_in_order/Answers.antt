use Rattle.std.proofs.Common.{◌++◌}
use Rattle.stp_instance.specs.Numbered.{fluent_atoms, is_fluent}
use Rattle.stp_instance.specs.Effects.{written_atoms}
use Rattle.stp_instance.specs.Views.{claim}
use Rattle.stp_ground.proofs.Grown.{gained_more}
use Rattle.stp_ground.proofs.numbering.number_in_order.Goals as goal

pub returns-clause-atoms : goal.returns-clause-atoms
returns-clause-atoms c =
    let chosen = c.args.chosen.now in
    let t = c.args.table.now in
    let one = fluent_atoms (is_fluent c.args.fluent.now) (claim chosen.start_cond) in
    let two = fluent_atoms (is_fluent c.args.fluent.now) (claim chosen.over_all) in
    let three = fluent_atoms (is_fluent c.args.fluent.now) (claim chosen.end_cond) in
    let four = written_atoms chosen.start_adds.now in
    let five = written_atoms chosen.start_dels.now in
    let six = written_atoms chosen.end_adds.now in
    let seven = written_atoms chosen.end_dels.now in
    let to_two = gained_more t c.number_atoms.new.table c.number_atoms-2.new.table one two c.in_ok-number_atoms.ensures.atoms c.in_ok-number_atoms-2.ensures.atoms in
    let to_three = gained_more t c.number_atoms-2.new.table c.number_atoms-3.new.table (one ++ two) three to_two c.in_ok-number_atoms-3.ensures.atoms in
    let to_four = gained_more t c.number_atoms-3.new.table c.number_written.new.table (one ++ two ++ three) four to_three c.in_ok-number_written.ensures.atoms in
    let to_five = gained_more t c.number_written.new.table c.number_written-2.new.table (one ++ two ++ three ++ four) five to_four c.in_ok-number_written-2.ensures.atoms in
    let to_six = gained_more t c.number_written-2.new.table c.number_written-3.new.table (one ++ two ++ three ++ four ++ five) six to_five c.in_ok-number_written-3.ensures.atoms in
    gained_more t c.number_written-3.new.table c.number_written-4.new.table (one ++ two ++ three ++ four ++ five ++ six) seven to_six c.in_ok-number_written-4.ensures.atoms
