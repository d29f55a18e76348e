use Rattle.std.proofs.Common.{◌≡◌, ◌++◌, drop}
use Rattle.stp_condition.specs.Whole.{texts_of, scope_with}
use Rattle.stp_domain.proofs.schemas.parameters_of.Given as goal

abbrev pub invariant-loop-name : goal.invariant-loop-name
invariant-loop-name l = l.scope ++ scope_with (texts_of (drop l.name-index l.names)) l.rest ≡ scope_with (texts_of l.names) l.kinds
