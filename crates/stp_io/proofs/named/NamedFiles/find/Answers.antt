use Rattle.std.proofs.Common.{◌∙◌, sym, ap, Some, option_copied}
use Rattle.stp_io.proofs.Places.{found, not_found}
use Rattle.stp_io.proofs.named.NamedFiles.find.Goals as goal

pub returns-in_err-place : goal.returns-in_err-place
returns-in_err-place c = ap option_copied c.from_residual.ensures ∙ sym (not_found c.args.self.now c.args.name.now c.place.result c.place.ensures c.in_err-place.was)

pub returns : goal.returns
returns c = ap Some (c.as_slice.ensures ∙ ap (λ f. f.bytes) c.index.ensures)
    ∙ sym (found c.self.inside.list.items c.args.self.now c.args.name.now c.place.result c.in_ok-place.place c.index.result.now c.self.view_is c.place.ensures c.in_ok-place.was)
