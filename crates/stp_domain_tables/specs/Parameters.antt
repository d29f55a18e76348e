-- Lists of parameters.
use Rattle.std.specs.Prelude.{ℕ, Bool, ◌&&◌, not, nat_lt, if◌then◌else◌, List, [], ◌++◌, None, length}
use Rattle.stp_refusal.specs.declared.code.Code.TheVariants.{D07, D08, D09, D10, D12}
use Rattle.stp_refusal.specs.declared.offence.Offence.{Offence}
use Rattle.stp_refusal.specs.Read.{Read, bad, also, unless, offence_at}
use Rattle.stp_tables.specs.Names.{is_new_in}
use Rattle.stp_text.specs.Names.{is_name}
use Rattle.stp_domain_parts.specs.declared.judged.WordKind.TheVariants.{Variable}
use Rattle.stp_domain_parts.specs.Entries.{Plain, entries_of}
use Rattle.stp_domain_parts.specs.Judged.{names_wrong, shapes_wrong}
use Rattle.stp_domain_tables.specs.Heads.{Head, is_reserved}

-- What is wrong with the name of a declaration, where these names are declared, and where some words may be reserved.
abbrev pub name_wrong : Bool → List (List ℕ) → Head → List Offence
name_wrong reserved seen head =
    unless (is_name head.name) (offence_at head.name_at D07)
    ++ (unless (is_new_in seen head.name) (offence_at head.name_at D08)
    ++ unless (not (reserved && is_reserved head.name)) (offence_at head.name_at D09))

-- Entries of a list of parameters. Where there are too many, nothing else is wrong with the declaration.
abbrev pub parameters_judged : List Offence → ℕ → Read (List Plain) → Read (List Plain)
parameters_judged own at entries =
    if nat_lt 16 (length entries.value)
    then bad at D12 entries.value
    else also (λ es. own) (also shapes_wrong (also (names_wrong Variable D07 D08 []) entries))

-- The parameters of a declaration.
abbrev pub parameters_read : Bool → List (List ℕ) → Head → Read (List Plain)
parameters_read reserved seen head = parameters_judged (name_wrong reserved seen head) head.at (entries_of D10 [] None head.parameters)
