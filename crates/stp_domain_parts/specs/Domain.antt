-- The parts of a domain.
use Rattle.std.specs.Prelude.{ℕ, Bool, if◌then◌else◌, List, [], ◌∷◌, ◌++◌, Option, Some, None, is_some, codes}
use Rattle.stp_text.specs.Tree.{Tree, Trees, NoMore, More}
use Rattle.stp_text.specs.Items.{place, keyed}
use Rattle.stp_refusal.specs.declared.code.Code.TheVariants.{D01, D02, D03, D04}
use Rattle.stp_refusal.specs.Read.{Read, fine, bad, given, map_read}
use Rattle.stp_domain_parts.specs.declared.key.PartKey.{PartKey}
use Rattle.stp_domain_parts.specs.declared.key.PartKey.TheVariants.{Requirements, Types, Constants, Predicates, Functions}
use Rattle.stp_domain_parts.specs.declared.key.SectionKey.{SectionKey}
use Rattle.stp_domain_parts.specs.declared.key.SectionKey.TheVariants as keys
use Rattle.stp_domain_parts.specs.Forms.{definition}
use Rattle.stp_domain_parts.specs.Keys.{section_key}
use Rattle.stp_domain_parts.specs.Actions.{Action, action_read, items_or_none}
use Rattle.stp_domain_parts.specs.Then.{then_read}

-- the sections that were seen, each with the items behind its first word
pub record Sections : Type 0 where
  pub requirements : Option Trees
  pub types : Option Trees
  pub constants : Option Trees
  pub predicates : Option Trees
  pub functions : Option Trees
  pub actions : List Action

abbrev pub no_sections : Sections
no_sections = record { requirements = None; types = None; constants = None; predicates = None; functions = None; actions = [] }

-- whether a section was seen
abbrev pub has_section : PartKey → Sections → Bool
has_section Requirements found = is_some found.requirements
has_section Types found = is_some found.types
has_section Constants found = is_some found.constants
has_section Predicates found = is_some found.predicates
has_section Functions found = is_some found.functions

-- the sections with one more
abbrev pub with_section : PartKey → Trees → Sections → Sections
with_section Requirements items found = record found { requirements = Some items }
with_section Types items found = record found { types = Some items }
with_section Constants items found = record found { constants = Some items }
with_section Predicates items found = record found { predicates = Some items }
with_section Functions items found = record found { functions = Some items }

abbrev pub with_action : Sections → Action → Sections
with_action found action = record found { actions = found.actions ++ action ∷ [] }

-- a section at a place, by its first word
abbrev pub section_by : SectionKey → ℕ → Trees → Sections → Read Sections
section_by (keys.Part key) at items found = if has_section key found then bad at D04 found else fine (with_section key items found)
section_by (keys.Action kind) at items found = map_read (with_action found) (action_read kind at items)
section_by keys.Unsupported at items found = bad at D03 found
section_by keys.Unknown at items found = bad at D02 found

-- the sections once one more is read
abbrev pub section_read : Sections → Tree → Read Sections
section_read found tree = given (bad (place tree) D02 found) (λ section. section_by (section_key section.0) (place tree) section.1 found) (keyed tree)

-- the sections once these are read
abbrev pub sections_read : Sections → Trees → Read Sections
sections_read found NoMore = fine found
sections_read found (More t ts) = then_read (section_read found t) (λ next. sections_read next ts)

-- a domain, as it is written
pub record Domain : Type 0 where
  pub name : List ℕ
  pub types : Trees
  pub constants : Trees
  pub predicates : Trees
  pub functions : Trees
  pub actions : List Action

-- what stands in the place of a file that is no domain
abbrev pub no_domain : Domain
no_domain = record { name = []; types = NoMore; constants = NoMore; predicates = NoMore; functions = NoMore; actions = [] }

abbrev pub domain_with : List ℕ → Sections → Domain
domain_with name found = record {
  name = name;
  types = items_or_none found.types;
  constants = items_or_none found.constants;
  predicates = items_or_none found.predicates;
  functions = items_or_none found.functions;
  actions = found.actions;
}

-- what a file says as a domain
abbrev pub domain_read : Tree → Read Domain
domain_read tree = given (bad (place tree) D01 no_domain) (λ d. map_read (domain_with d.0) (sections_read no_sections d.1)) (definition (codes "domain") tree)
