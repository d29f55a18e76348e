-- The domain of a tree, or its one refusal.
use Rattle.std.specs.Prelude.{List, [], ◌∷◌, Option, Some, None, Result, Ok, Err}
use Rattle.stp_text.specs.Tree.{Tree}
use Rattle.stp_refusal.specs.Phases.{unless_refused}
use Rattle.stp_refusal.specs.declared.offence.Offence.{Offence}
use Rattle.stp_refusal.specs.declared.phase.ReadFault.{ReadFault}
use Rattle.stp_refusal.specs.Read.{Read}
use Rattle.stp_refusal.specs.Phases.{chosen, refusal_of}
use Rattle.stp_domain_parts.specs.Domain.{Domain, domain_read}
use Rattle.stp_schema.specs.Schemas.{PlainSchema}
use Rattle.stp_schema.specs.Views.{PlainDomain}
use Rattle.stp_domain_tables.specs.Declarations.{Declarations, declarations_read}
use Rattle.stp_domain_tables.specs.Tables.{Tables, tables_read}
use Rattle.stp_domain.specs.Schemas.{schemas_read}

-- ---- what each phase reads, of what the phases before it have read

abbrev pub parts_phase : Tree → Read Domain
parts_phase t = domain_read t

abbrev pub declarations_phase : Tree → Read Declarations
declarations_phase t = declarations_read (parts_phase t).value

abbrev pub tables_phase : Tree → Read Tables
tables_phase t = tables_read (declarations_phase t).value

abbrev pub schemas_phase : Tree → Read (List PlainSchema)
schemas_phase t = let tables = (tables_phase t).value in schemas_read tables.known tables.actions

-- all offences, by phase
abbrev pub phases : Tree → List (List Offence)
phases t = (parts_phase t).offences ∷ (declarations_phase t).offences ∷ (tables_phase t).offences ∷ (schemas_phase t).offences ∷ []

-- the domain, where there is no offence
abbrev pub domain_of_tree : Tree → PlainDomain
domain_of_tree t = let known = (tables_phase t).value.known in record {
  name = (parts_phase t).value.name;
  types = known.types;
  parents = known.parents;
  predicates = known.predicates;
  functions = known.functions;
  constants = known.objects;
  schemas = (schemas_phase t).value;
}

-- the domain of a tree; or, of the earliest phase with an offence, the one of the least place, and there the one of the least code
abbrev pub domain_or_refusal : Tree → Result PlainDomain ReadFault
domain_or_refusal t = unless_refused (domain_of_tree t) (chosen (phases t))
