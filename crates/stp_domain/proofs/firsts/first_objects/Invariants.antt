use Rattle.std.proofs.Common.{◌≡◌, map, drop}
use Rattle.stp_schema.specs.Rows.{thing_of, object_names_of}
use Rattle.stp_domain.specs.Firsts.{with_firsts, firsts_in}
use Rattle.stp_domain.specs.FirstViews.{firsts_of}
use Rattle.stp_domain.proofs.firsts.first_objects.Given as goal

abbrev pub invariant-loop-object : goal.invariant-loop-object
invariant-loop-object l = record {
  firsts : with_firsts (firsts_of l.names l.found l.places) l.place (map thing_of (drop l.object-index l.objects)) ≡ firsts_in (map thing_of l.objects);
  named : l.names ≡ object_names_of l.found;
}
