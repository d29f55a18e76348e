-- What the sections of a problem say, whatever their order: each by itself, beside the sections before it.
use Rattle.std.specs.Prelude.{◌≡◌, ℕ, Bool, true, false, ◌||◌, if◌then◌else◌, List, [], ◌++◌, Option, Some, None}
use Rattle.stp_text.specs.Tree.{Tree, Trees, NoMore, More}
use Rattle.stp_text.specs.Items.{place, keyed}
use Rattle.stp_refusal.specs.declared.code.Code.TheVariants.{P03, P04}
use Rattle.stp_refusal.specs.declared.offence.Offence.{Offence}
use Rattle.stp_refusal.specs.Read.{given, offence_at}
use Rattle.stp_domain_parts.specs.declared.key.ProblemKey.{ProblemKey}
use Rattle.stp_domain_parts.specs.declared.key.ProblemKey.TheVariants.{Domain, Requirements, Metric, Objects, Init, Goal}
use Rattle.stp_domain_parts.specs.Keys.{problem_key}
use Rattle.stp_domain_parts.specs.Laws.{items_behind}
use Rattle.stp_domain_parts.specs.Problem.{Section, Sections, no_sections, own_offences, sections_read}

-- what a section is by its first word, if that is known
abbrev pub key_of : Tree → Option ProblemKey
key_of tree = given None (λ s. problem_key s.0) (keyed tree)

abbrev pub section_of_tree : Tree → Section
section_of_tree tree = record { at = place tree; items = items_behind tree }

abbrev pub is_same : ProblemKey → ProblemKey → Bool
is_same Domain Domain = true
is_same Requirements Requirements = true
is_same Metric Metric = true
is_same Objects Objects = true
is_same Init Init = true
is_same Goal Goal = true
is_same one other = false

-- whether a section is the one of this key
abbrev pub is_section : ProblemKey → Option ProblemKey → Bool
is_section key None = false
is_section key (Some other) = is_same key other

-- the first section of a key
abbrev pub first_section : ProblemKey → Trees → Option Section
first_section key NoMore = None
first_section key (More t ts) = if is_section key (key_of t) then Some (section_of_tree t) else first_section key ts

-- the section that was found for a key
abbrev pub section_at : ProblemKey → Sections → Option Section
section_at Domain found = found.domain
section_at Requirements found = found.requirements
section_at Metric found = found.metric
section_at Objects found = found.objects
section_at Init found = found.init
section_at Goal found = found.goal

-- whether a section of a key is among these
abbrev pub stands_in : ProblemKey → Trees → Bool
stands_in key NoMore = false
stands_in key (More t ts) = is_section key (key_of t) || stands_in key ts

-- a second section of a key
abbrev pub again : Trees → ProblemKey → ℕ → List Offence
again before key at = if stands_in key before then offence_at at P04 else []

abbrev pub wrong_by : List ℕ → Trees → Option ProblemKey → Section → List Offence
wrong_by domain before None section = offence_at section.at P03
wrong_by domain before (Some key) section = own_offences domain key section.at section.items ++ again before key section.at

-- what is wrong with a section that stands behind these
abbrev pub section_wrong : List ℕ → Trees → Tree → List Offence
section_wrong domain before t = wrong_by domain before (key_of t) (section_of_tree t)

-- what is wrong with sections that stand behind others
abbrev pub sections_wrong : List ℕ → Trees → Trees → List Offence
sections_wrong domain before NoMore = []
sections_wrong domain before (More t ts) = section_wrong domain before t ++ sections_wrong domain (More t before) ts

abbrev pub SectionIsFirst : Type 0
SectionIsFirst = (domain : List ℕ) (key : ProblemKey) (ts : Trees) → section_at key (sections_read domain no_sections ts).value ≡ first_section key ts

abbrev pub OneByOne : Type 0
OneByOne = (domain : List ℕ) (ts : Trees) → (sections_read domain no_sections ts).offences ≡ sections_wrong domain NoMore ts
