use Rattle.std.proofs.Common.{◌∙◌, ap, map}
use Rattle.stp_schema.specs.Views.{fact_of}
use Rattle.stp_instance.specs.Numbered.{is_in}
use Rattle.stp_ground.proofs.Known.{known_are}
use Rattle.stp_ground.proofs.tables.facts.Goals as goal

pub returns : goal.returns
returns c = ap is_in c.in_ok-table.ensures ∙ known_are (map fact_of c.args.given.now)
