-- The words that sections and their values begin with.
use Rattle.std.specs.Prelude.{ℕ, Bool, ◌||◌, if◌then◌else◌, List, Option, Some, None, bytes_eq, codes}
use Rattle.stp_domain_parts.specs.declared.key.PartKey.{PartKey}
use Rattle.stp_domain_parts.specs.declared.key.PartKey.TheVariants as parts
use Rattle.stp_domain_parts.specs.declared.key.ActionKind.{ActionKind}
use Rattle.stp_domain_parts.specs.declared.key.ActionKind.TheVariants.{Simple, Durative}
use Rattle.stp_domain_parts.specs.declared.key.SectionKey.{SectionKey}
use Rattle.stp_domain_parts.specs.declared.key.SectionKey.TheVariants.{Part, Action, Unsupported, Unknown}
use Rattle.stp_domain_parts.specs.declared.key.ValueKey.{ValueKey}
use Rattle.stp_domain_parts.specs.declared.key.ValueKey.TheVariants as values
use Rattle.stp_domain_parts.specs.declared.key.ProblemKey.{ProblemKey}
use Rattle.stp_domain_parts.specs.declared.key.ProblemKey.TheVariants as sections

-- sections of a domain that stand once at most
abbrev pub part_key : List ℕ → Option PartKey
part_key text =
    if bytes_eq text (codes ":requirements") then Some parts.Requirements
    else if bytes_eq text (codes ":types") then Some parts.Types
    else if bytes_eq text (codes ":constants") then Some parts.Constants
    else if bytes_eq text (codes ":predicates") then Some parts.Predicates
    else if bytes_eq text (codes ":functions") then Some parts.Functions
    else None

-- actions
abbrev pub action_kind : List ℕ → Option ActionKind
action_kind text =
    if bytes_eq text (codes ":action") then Some Simple
    else if bytes_eq text (codes ":durative-action") then Some Durative
    else None

-- sections of the standard that are left out
abbrev pub is_unsupported : List ℕ → Bool
is_unsupported text = bytes_eq text (codes ":derived") || bytes_eq text (codes ":constraints") || bytes_eq text (codes ":process") || bytes_eq text (codes ":event")

abbrev pub other_key : Bool → SectionKey
other_key unsupported = if unsupported then Unsupported else Unknown

abbrev pub action_or : Option ActionKind → SectionKey → SectionKey
action_or None other = other
action_or (Some kind) other = Action kind

abbrev pub part_or : Option PartKey → SectionKey → SectionKey
part_or None other = other
part_or (Some key) other = Part key

-- what a word begins in a domain
abbrev pub section_key : List ℕ → SectionKey
section_key text = part_or (part_key text) (action_or (action_kind text) (other_key (is_unsupported text)))

-- keys that only a simple action has
abbrev pub simple_key : List ℕ → Option ValueKey
simple_key text = if bytes_eq text (codes ":precondition") then Some values.Condition else None

-- keys that only a durative action has
abbrev pub durative_key : List ℕ → Option ValueKey
durative_key text =
    if bytes_eq text (codes ":condition") then Some values.Condition
    else if bytes_eq text (codes ":duration") then Some values.Duration
    else if bytes_eq text (codes ":uncontrollable-duration") then Some values.UncontrollableDuration
    else None

abbrev pub own_key : ActionKind → List ℕ → Option ValueKey
own_key Simple text = simple_key text
own_key Durative text = durative_key text

-- what a key of an action names
abbrev pub value_key : ActionKind → List ℕ → Option ValueKey
value_key kind text =
    if bytes_eq text (codes ":parameters") then Some values.Parameters
    else if bytes_eq text (codes ":effect") then Some values.Effect
    else own_key kind text

-- sections of a problem
abbrev pub problem_key : List ℕ → Option ProblemKey
problem_key text =
    if bytes_eq text (codes ":domain") then Some sections.Domain
    else if bytes_eq text (codes ":requirements") then Some sections.Requirements
    else if bytes_eq text (codes ":metric") then Some sections.Metric
    else if bytes_eq text (codes ":objects") then Some sections.Objects
    else if bytes_eq text (codes ":init") then Some sections.Init
    else if bytes_eq text (codes ":goal") then Some sections.Goal
    else None
