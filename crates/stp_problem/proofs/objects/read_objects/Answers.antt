use Rattle.std.proofs.Common.{ap, map}
use Rattle.stp_text.specs.Tree.{views}
use Rattle.stp_domain_parts.specs.Entries.{plains}
use Rattle.stp_schema.specs.Rows.{thing_of}
use Rattle.stp_problem.proofs.Named.{objects_are}
use Rattle.stp_problem.proofs.objects.read_objects.Goals as goal

pub returns : goal.returns
returns c =
    objects_are c.args.types.now (map thing_of c.args.constants.now) (views c.args.items.now) c.args.first.now c.read_entries.new.first c.judge_names.new.first c.judge_types.new.first (plains c.in_ok-entries.entries) (plains c.as_slice.result.now) (plains c.as_slice-2.result.now) (plains c.as_slice-3.result.now) c.in_ok-seen.seen (map thing_of c.in_ok-objects.objects.rows.now)
    c.in_ok-entries.ensures c.in_ok-seen.ensures (ap plains c.as_slice.ensures) c.in_ok-judge_names.ensures.found (ap plains c.as_slice-2.ensures) c.judge_types.ensures (ap plains c.as_slice-3.ensures) c.in_ok-objects.ensures
