use Rattle.stp_instance.proofs.Ranges.{members_range, each_ranges, some_ranges_over}
use Rattle.stp_instance.proofs.laws.quantifiers_range.Goals as goal

pub returns : goal.returns
returns c = record { members = members_range; each = each_ranges; some = some_ranges_over }
