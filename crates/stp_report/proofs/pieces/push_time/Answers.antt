use Rattle.std.proofs.Common.{◌≡◌, ◌++◌, OnOk, subst}
use Rattle.stp_frac.specs.Fractions.{value_of}
use Rattle.stp_report.proofs.Times.{fits_some, same_text}
use Rattle.stp_report.proofs.pieces.push_time.Goals as goal

pub unreachable-requires : goal.unreachable-requires
unreachable-requires c = fits_some c.args.grid c.args.time c.requires.grid c.requires.time c.in_default.ensures

pub returns : goal.returns
returns c =
    subst (λ text. OnOk c.print.result (c.print.new.into ≡ c.args.out.now ++ text)) (same_text c.args.grid c.args.time (value_of c.in-Some.value) c.requires.grid c.requires.time c.in-Some.ensures) c.print.ensures.ok
