use Rattle.std.proofs.Common.{◌≡◌, drop, map}
use Rattle.stp_text.specs.Tree.{views}
use Rattle.stp_domain_parts.specs.Then.{Goes}
use Rattle.stp_schema.specs.Known.{known}
use Rattle.stp_schema.specs.Views.{given_of}
use Rattle.stp_problem.specs.Facts.{nothing, items_read, place_of}
use Rattle.stp_problem.specs.Views.{state_of}
use Rattle.stp_problem.proofs.facts.read_facts.Given as goal

abbrev pub invariant-loop-item : goal.invariant-loop-item
invariant-loop-item l = record {
  read : Goes l.fn.first l.first (items_read (known l.declared l.objects.rows.now) (state_of l.found.initial l.found.values) (views (drop l.item-index l.items))) (items_read (known l.declared l.objects.rows.now) nothing (views l.items));
  places : l.found.places ≡ map place_of (map given_of l.found.values);
}
