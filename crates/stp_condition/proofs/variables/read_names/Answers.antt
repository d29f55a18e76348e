use Rattle.std.proofs.Common.{◌≡◌, ℕ, List, [], Option}
use Rattle.stp_refusal.specs.declared.code.Code.TheVariants.{D16}
use Rattle.stp_refusal.specs.declared.offence.Offence.{Offence}
use Rattle.stp_refusal.specs.First.{first_from}
use Rattle.stp_refusal.proofs.Reading.{also_is}
use Rattle.stp_domain_parts.specs.declared.entry.Entry.{Entry}
use Rattle.stp_domain_parts.specs.declared.judged.WordKind.TheVariants.{Variable}
use Rattle.stp_domain_parts.specs.Entries.{plains}
use Rattle.stp_domain_parts.specs.Judged.{names_wrong}
use Rattle.stp_condition.proofs.variables.read_names.Goals as goal

-- no name was seen before
from_none : (middle new : Option Offence) (seen : List (List ℕ)) (es fs : List Entry) → new ≡ first_from middle (names_wrong Variable D16 D16 seen (plains es)) → seen ≡ [] → es ≡ fs → new ≡ first_from middle (names_wrong Variable D16 D16 [] (plains fs))
from_none middle new seen es fs h e f = rw (e, f) at h

pub returns : goal.returns
returns c =
    also_is (names_wrong Variable D16 D16 []) c.args.first.now c.read_entries.new.first c.judge_names.new.first _ _ c.in_ok-entries.ensures
    (from_none _ _ _ c.as_slice.result.now c.in_ok-entries.entries c.in_ok-judge_names.ensures.found c.new-seen.ensures c.as_slice.ensures)
