use Rattle.std.proofs.Common.{ap, ◌∙◌, Some}
use Rattle.std.proofs.lemmas.Result.{on_ok_weaker}
use Rattle.stp_io.proofs.Places.{content_put}
use Rattle.stp_io.specs.Named.{file_of, put_at}
use Rattle.stp_io.specs.Steady.{SteadyState}
use Rattle.stp_io.proofs.steady.SteadyStore.put.Goals as goal

pub returns-clause-ok : goal.returns-clause-ok
returns-clause-ok c =
    let new : SteadyState = record { files = c.put.new.self } in
    on_ok_weaker c.put.result (λ h. content_put c.args.self.now new c.args.name.now c.args.bytes.now (h ∙ ap (λ (s : SteadyState). put_at c.args.name.now (Some c.args.bytes.now) (file_of s.files)) c.self.view_is)) c.put.ensures.ok
