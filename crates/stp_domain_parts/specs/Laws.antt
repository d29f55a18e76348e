-- What the sections of a domain say, whatever their order: each by itself, beside the sections before it.
use Rattle.std.specs.Prelude.{◌≡◌, ℕ, Bool, true, false, ◌||◌, if◌then◌else◌, List, [], ◌∷◌, ◌++◌, Option, Some, None}
use Rattle.stp_text.specs.Tree.{Tree, Trees, NoMore, More}
use Rattle.stp_text.specs.Items.{place, keyed}
use Rattle.stp_refusal.specs.declared.code.Code.TheVariants.{D02, D03, D04}
use Rattle.stp_refusal.specs.declared.offence.Offence.{Offence}
use Rattle.stp_refusal.specs.Read.{given, offence_at}
use Rattle.stp_domain_parts.specs.declared.key.PartKey.{PartKey}
use Rattle.stp_domain_parts.specs.declared.key.PartKey.TheVariants.{Requirements, Types, Constants, Predicates, Functions}
use Rattle.stp_domain_parts.specs.declared.key.SectionKey.{SectionKey}
use Rattle.stp_domain_parts.specs.declared.key.SectionKey.TheVariants as keys
use Rattle.stp_domain_parts.specs.Keys.{section_key}
use Rattle.stp_domain_parts.specs.Actions.{Action, action_read}
use Rattle.stp_domain_parts.specs.Domain.{Sections, no_sections, sections_read}

-- what a section is by its first word; what has none is unknown
abbrev pub key_of : Tree → SectionKey
key_of tree = given keys.Unknown (λ s. section_key s.0) (keyed tree)

-- the items behind a section's first word
abbrev pub items_behind : Tree → Trees
items_behind tree = given NoMore (λ s. s.1) (keyed tree)

abbrev pub is_same : PartKey → PartKey → Bool
is_same Requirements Requirements = true
is_same Types Types = true
is_same Constants Constants = true
is_same Predicates Predicates = true
is_same Functions Functions = true
is_same one other = false

-- whether a section that stands once at most is the one of this key
abbrev pub is_part : PartKey → SectionKey → Bool
is_part key (keys.Part other) = is_same key other
is_part key other = false

-- the items of the first section of a key
abbrev pub first_items : PartKey → Trees → Option Trees
first_items key NoMore = None
first_items key (More t ts) = if is_part key (key_of t) then Some (items_behind t) else first_items key ts

-- the items that were found for a key
abbrev pub items_at : PartKey → Sections → Option Trees
items_at Requirements found = found.requirements
items_at Types found = found.types
items_at Constants found = found.constants
items_at Predicates found = found.predicates
items_at Functions found = found.functions

abbrev pub action_by : SectionKey → ℕ → Trees → List Action
action_by (keys.Action kind) at items = (action_read kind at items).value ∷ []
action_by other at items = []

-- the actions of these sections, in their order
abbrev pub actions_in : Trees → List Action
actions_in NoMore = []
actions_in (More t ts) = action_by (key_of t) (place t) (items_behind t) ++ actions_in ts

-- whether a section of a key is among these
abbrev pub stands_in : PartKey → Trees → Bool
stands_in key NoMore = false
stands_in key (More t ts) = is_part key (key_of t) || stands_in key ts

abbrev pub wrong_by : Trees → SectionKey → ℕ → Trees → List Offence
wrong_by before (keys.Part key) at items = if stands_in key before then offence_at at D04 else []
wrong_by before (keys.Action kind) at items = (action_read kind at items).offences
wrong_by before keys.Unsupported at items = offence_at at D03
wrong_by before keys.Unknown at items = offence_at at D02

-- what is wrong with a section that stands behind these
abbrev pub section_wrong : Trees → Tree → List Offence
section_wrong before t = wrong_by before (key_of t) (place t) (items_behind t)

-- what is wrong with sections that stand behind others
abbrev pub sections_wrong : Trees → Trees → List Offence
sections_wrong before NoMore = []
sections_wrong before (More t ts) = section_wrong before t ++ sections_wrong (More t before) ts

abbrev pub PartIsFirst : Type 0
PartIsFirst = (key : PartKey) (ts : Trees) → items_at key (sections_read no_sections ts).value ≡ first_items key ts

abbrev pub ActionsInOrder : Type 0
ActionsInOrder = (ts : Trees) → (sections_read no_sections ts).value.actions ≡ actions_in ts

abbrev pub OneByOne : Type 0
OneByOne = (ts : Trees) → (sections_read no_sections ts).offences ≡ sections_wrong NoMore ts
