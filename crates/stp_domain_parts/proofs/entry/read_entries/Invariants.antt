use Rattle.std.proofs.Common.{[], None, drop}
use Rattle.stp_text.specs.Tree.{views}
use Rattle.stp_refusal.specs.Read.{Continues}
use Rattle.stp_domain_parts.specs.Entries.{plains, entries_of}
use Rattle.stp_domain_parts.proofs.entry.read_entries.Given as goal

abbrev pub invariant-loop-item : goal.invariant-loop-item
invariant-loop-item l = Continues l.fn.first l.first (plains l.out) (entries_of l.code (plains l.group.items) l.dash (views (drop l.item-index l.items))) (entries_of l.code [] None (views l.items))
