-- What the struct of declarations stands for.
use Rattle.stp_text.specs.Tree.{views}
use Rattle.stp_domain_parts.specs.Entries.{plains}
use Rattle.stp_domain_tables.specs.declared.declarations.Declarations.{Declarations as FoundDeclarations}
use Rattle.stp_domain_tables.specs.Declarations.{Declarations}
use Rattle.stp_domain_tables.specs.Views.{table_of}
use Rattle.stp_domain_tables.specs.FunctionViews.{functions_of}
use Rattle.stp_domain_tables.specs.ActionViews.{action_table_of}

abbrev pub declarations_of : FoundDeclarations → Declarations
declarations_of d = record {
  type_items = views d.type_items.now;
  types = plains d.types;
  constants = plains d.constants;
  predicates = table_of d.predicates;
  functions = functions_of d.functions;
  actions = action_table_of d.actions;
}
