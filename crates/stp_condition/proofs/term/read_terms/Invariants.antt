use Rattle.std.proofs.Common.{drop}
use Rattle.stp_text.specs.Tree.{views}
use Rattle.stp_refusal.specs.Read.{Continues}
use Rattle.stp_schema.specs.Known.{known}
use Rattle.stp_condition.specs.Terms.{terms_read}
use Rattle.stp_condition.proofs.term.read_terms.Given as goal

abbrev pub invariant-loop-place : goal.invariant-loop-place
invariant-loop-place l = Continues l.fn.first l.first l.out.items (terms_read (known l.declared l.objects.rows.now) l.scope (drop l.place-index l.places) (views l.rest)) (terms_read (known l.declared l.objects.rows.now) l.scope l.places (views l.items))
