-- Command lines.
use Rattle.std.specs.Prelude.{ℕ, ◌≤◌, Bool, false, not, ◌==◌, ◌&&◌, nat_le, if◌then◌else◌, List, [], ◌∷◌, length, take, drop, Option, Some, None, bytes_eq, codes}
use Rattle.std.specs.List.{list_all}
use Rattle.std.specs.Str.Parse.{digits_value}
use Rattle.stp_frac.specs.Reading.{is_group}
use Rattle.stp_report.specs.declared.answer.FileName.{FileName}
use Rattle.stp_report.specs.declared.answer.FileName.TheVariants.{Domain, Problem, Plan}
use Rattle.stp_cli.specs.declared.words.Work.{Work}
use Rattle.stp_cli.specs.declared.words.Work.TheVariants as works
use Rattle.stp_cli.specs.declared.words.Work.TheVariants.{Check, Replay, Demo}

-- a file of a command: what it is, and its name
pub record Named : Type 0 where
  pub role : FileName
  pub name : List ℕ

-- what words ask for
pub record Command : Type 0 where
  pub work : Work
  -- the names of its files, as the words have them
  pub names : List (List ℕ)
  -- the durations that it lists, empty where its work wants none
  pub list : List ℕ

-- ---- files

-- which files a work wants, in the order in which they are named and loaded
abbrev pub roles_of : Work → List FileName
roles_of Check = Domain ∷ Problem ∷ Plan ∷ []
roles_of Replay = Domain ∷ Problem ∷ Plan ∷ []
roles_of works.Plan = Domain ∷ Problem ∷ []
roles_of (Demo number) = []

-- each role with the name in its place
abbrev pub named_of : List FileName → List (List ℕ) → List Named
named_of [] names = []
named_of (role ∷ roles) [] = []
named_of (role ∷ roles) (name ∷ names) = record { role = role; name = name } ∷ named_of roles names

abbrev pub files_of : Command → List Named
files_of c = named_of (roles_of c.work) c.names

-- ---- words

-- a word that is not empty and does not begin with `-`
abbrev pub is_file_word : List ℕ → Bool
is_file_word [] = false
is_file_word (b ∷ bs) = not (b == 45)

-- a work on files of these names and with this list, where each file that it wants has a name
abbrev pub command_with : Work → List (List ℕ) → List ℕ → Option Command
command_with work names list =
    if (length names == length (roles_of work)) && list_all is_file_word names
    then Some (record { work = work; names = names; list = list })
    else None

-- `DOMAIN PROBLEM PLAN --durations LIST`: a LIST is not empty and does not begin with `-`
abbrev pub replay_in : List ℕ → List ℕ → List (List ℕ) → Option Command
replay_in option list names =
    if bytes_eq option (codes "--durations") && is_file_word list
    then command_with Replay names list
    else None

-- two words behind the names
abbrev pub replay_with : List (List ℕ) → List (List ℕ) → Option Command
replay_with names (option ∷ list ∷ []) = replay_in option list names
replay_with names others = None

-- `DOMAIN PROBLEM --budget 0`
abbrev pub plan_in : List ℕ → List ℕ → List (List ℕ) → Option Command
plan_in option budget names =
    if bytes_eq option (codes "--budget") && bytes_eq budget (codes "0")
    then command_with works.Plan names []
    else None

abbrev pub plan_with : List (List ℕ) → List (List ℕ) → Option Command
plan_with names (option ∷ budget ∷ []) = plan_in option budget names
plan_with names others = None

-- ---- numbers

-- the number that 1 to so many digits spell, where it lies within these bounds
abbrev pub number_in : ℕ → ℕ → ℕ → List ℕ → Option ℕ
number_in digits least most word =
    let number = digits_value 10 word in
    if is_group word && nat_le (length word) digits && nat_le least number && nat_le number most then Some number else None

-- a demo of so many rovers, which names no file
abbrev pub demo_of : Option ℕ → Option Command
demo_of None = None
demo_of (Some number) = command_with (Demo number) [] []

-- one word: a number from 1 to 250
abbrev pub demo_with : List (List ℕ) → Option Command
demo_with (count ∷ []) = demo_of (number_in 3 1 250 count)
demo_with others = None

-- the numbers of rovers that a demo can have
abbrev pub IsSized : Work → Type 0
IsSized Check = Unit {0}
IsSized Replay = Unit {0}
IsSized works.Plan = Unit {0}
IsSized (Demo number) = (1 ≤ number) × (number ≤ 250)

-- ---- commands

-- what the words behind a command's word have to be: a line for each command
abbrev pub row_of : List ℕ → List (List ℕ) → Option Command
row_of word rest =
    if bytes_eq word (codes "check") then command_with Check rest [] else
    (if bytes_eq word (codes "replay") then replay_with (take 3 rest) (drop 3 rest) else
    (if bytes_eq word (codes "plan") then plan_with (take 2 rest) (drop 2 rest) else
    (if bytes_eq word (codes "demo") then demo_with rest else
    None)))

-- The command that these words are, with the program's name first. No other list is a command.
abbrev pub command_of : List (List ℕ) → Option Command
command_of (program ∷ word ∷ rest) = row_of word rest
command_of others = None
