-- The parts of a problem.
use Rattle.std.specs.Prelude.{ℕ, Bool, false, if◌then◌else◌, List, [], ◌++◌, Option, Some, None, is_some, bytes_eq, codes}
use Rattle.stp_text.specs.Tree.{Tree, Trees, Node, NoMore, More}
use Rattle.stp_text.specs.Items.{place, word_of, only, keyed}
use Rattle.stp_refusal.specs.declared.code.Code.TheVariants.{P01, P02, P03, P04, P05}
use Rattle.stp_refusal.specs.declared.offence.Offence.{Offence}
use Rattle.stp_refusal.specs.Read.{Read, fine, bad, given, map_read, also, unless, offence_at}
use Rattle.stp_domain_parts.specs.declared.key.ProblemKey.{ProblemKey}
use Rattle.stp_domain_parts.specs.declared.key.ProblemKey.TheVariants.{Domain, Requirements, Metric, Objects, Init, Goal}
use Rattle.stp_base.specs.Options.{◌>>=◌}
use Rattle.stp_domain_parts.specs.Forms.{definition}
use Rattle.stp_domain_parts.specs.Keys.{problem_key}
use Rattle.stp_domain_parts.specs.Then.{then_read, after_offences}

-- a section: its place, and the items behind its first word
pub record Section : Type 0 where
  pub at : ℕ
  pub items : Trees

-- the sections that were seen
pub record Sections : Type 0 where
  pub domain : Option Section
  pub requirements : Option Section
  pub metric : Option Section
  pub objects : Option Section
  pub init : Option Section
  pub goal : Option Section

abbrev pub no_sections : Sections
no_sections = record { domain = None; requirements = None; metric = None; objects = None; init = None; goal = None }

-- whether a section was seen
abbrev pub has_section : ProblemKey → Sections → Bool
has_section Domain found = is_some found.domain
has_section Requirements found = is_some found.requirements
has_section Metric found = is_some found.metric
has_section Objects found = is_some found.objects
has_section Init found = is_some found.init
has_section Goal found = is_some found.goal

-- the sections with one more
abbrev pub with_section : ProblemKey → Section → Sections → Sections
with_section Domain section found = record found { domain = Some section }
with_section Requirements section found = record found { requirements = Some section }
with_section Metric section found = record found { metric = Some section }
with_section Objects section found = record found { objects = Some section }
with_section Init section found = record found { init = Some section }
with_section Goal section found = record found { goal = Some section }

abbrev pub is_name_of : List ℕ → Option (List ℕ) → Bool
is_name_of domain None = false
is_name_of domain (Some name) = bytes_eq name domain

-- whether the items of `(:domain NAME)` are the domain's name
abbrev pub names_domain : List ℕ → Trees → Bool
names_domain domain items = is_name_of domain (only items >>= word_of)

-- what is wrong with a section by itself
abbrev pub own_offences : List ℕ → ProblemKey → ℕ → Trees → List Offence
own_offences domain Domain at items = unless (names_domain domain items) (offence_at at P02)
own_offences domain Goal at items = unless (is_some (only items)) (offence_at at P05)
own_offences domain key at items = []

-- the sections with one more that is not repeated
abbrev pub section_once : ProblemKey → Section → Sections → Read Sections
section_once key section found = if has_section key found then bad section.at P04 found else fine (with_section key section found)

abbrev pub section_known : List ℕ → Sections → ℕ → Trees → ProblemKey → Read Sections
section_known domain found at items key = after_offences (own_offences domain key at items) (section_once key (record { at = at; items = items }) found)

abbrev pub section_by : List ℕ → Sections → ℕ → List ℕ × Trees → Read Sections
section_by domain found at section = given (bad at P03 found) (section_known domain found at section.1) (problem_key section.0)

-- the sections once one more is read
abbrev pub section_read : List ℕ → Sections → Tree → Read Sections
section_read domain found tree = given (bad (place tree) P03 found) (section_by domain found (place tree)) (keyed tree)

-- the sections once these are read
abbrev pub sections_read : List ℕ → Sections → Trees → Read Sections
sections_read domain found NoMore = fine found
sections_read domain found (More t ts) = then_read (section_read domain found t) (λ next. sections_read domain next ts)

-- the offences by sections that a file at a place does not have
abbrev pub missing : ℕ → Sections → List Offence
missing at found = unless (is_some found.domain) (offence_at at P02) ++ unless (is_some found.goal) (offence_at at P05)

-- a problem, as it is written
pub record Problem : Type 0 where
  pub objects : Trees
  pub init : Trees
  pub goal_at : ℕ
  pub goal : Tree

-- a section, or an empty one at a place
abbrev pub section_or : ℕ → Option Section → Section
section_or at None = record { at = at; items = NoMore }
section_or at (Some section) = section

abbrev pub tree_or : Tree → Option Tree → Tree
tree_or other None = other
tree_or other (Some tree) = tree

-- the one item of the goal's section, or `()`
abbrev pub goal_in : Section → Tree
goal_in section = tree_or (Node section.at NoMore) (only section.items)

abbrev pub problem_with : ℕ → Sections → Problem
problem_with at found = record {
  objects = (section_or at found.objects).items;
  init = (section_or at found.init).items;
  goal_at = (section_or at found.goal).at;
  goal = goal_in (section_or at found.goal);
}

-- what a file says as a problem of a domain of this name
abbrev pub problem_read : List ℕ → Tree → Read Problem
problem_read domain tree = given (bad (place tree) P01 (problem_with (place tree) no_sections)) (λ p. map_read (problem_with (place tree)) (also (missing (place tree)) (sections_read domain no_sections p.1))) (definition (codes "problem") tree)
