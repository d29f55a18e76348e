use Rattle.std.proofs.Common.{◌≡◌, true, false, refl, sym, ◌∙◌}
use Rattle.std.specs.List.{list_all}
use Rattle.stp_cond.specs.Truth.{state_of_row}
use Rattle.stp_relax.specs.Judged.{allows, is_timed_allowed}
use Rattle.stp_cond.specs.Views.{atoms_of}
use Rattle.stp_task.specs.CertificateViews.{pair_of}
use Rattle.stp_task.specs.Tasks.{plain_task}
use Rattle.stp_relax.proofs.Deciding.{closed_allows, closed_begins, closed_from, closed_timed}
use Rattle.stp_relax.proofs.Tests.{clash}
use Rattle.stp_relax.proofs.certifying.is_closed.Goals as goal

pub returns-then-not-are_set : goal.returns-then-not-are_set
returns-then-not-are_set c =
    let task = plain_task c.args.task.now in
    let cert = c.args.cert.now in (
      (λ e. absurd (clash false e refl)),
      λ k. let h = closed_begins task (atoms_of cert.may) (atoms_of cert.always) k in absurd (cc),
    )

pub returns-then-not-allow_all : goal.returns-then-not-allow_all
returns-then-not-allow_all c =
    let task = plain_task c.args.task.now in
    let cert = c.args.cert.now in (
      (λ e. absurd (clash false e refl)),
      λ k. let h = closed_allows task (pair_of cert) k in absurd (cc),
    )

pub returns : goal.returns
returns c =
    let task = plain_task c.args.task.now in
    let cert = c.args.cert.now in
    let begins : list_all (state_of_row task.initial) (atoms_of cert.always) ≡ true = cc in
    let actions : list_all (allows (pair_of cert)) task.actions ≡ true = cc in
    let timed : c.are_allowed.result ≡ list_all (is_timed_allowed (pair_of cert)) task.timed = cc in (
      (λ e. closed_from task (atoms_of cert.may) (atoms_of cert.always) (c.if-not-may_all.ensures.0 refl) begins actions (sym timed ∙ e)),
      λ k. timed ∙ closed_timed task (pair_of cert) k,
    )
