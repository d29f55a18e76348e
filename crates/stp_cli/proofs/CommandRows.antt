-- Command lines, read by computing.
use Rattle.std.proofs.Common.{◌≡◌, [], ◌∷◌, Some, None, codes, refl}
use Rattle.stp_report.specs.declared.answer.FileName.TheVariants.{Domain, Problem, Plan}
use Rattle.stp_cli.specs.declared.words.Work.TheVariants.{Check, Replay, Demo}
use Rattle.stp_cli.specs.Words.{command_of, files_of}

-- `check DOMAIN PROBLEM PLAN`, whatever the program's name is
check_line : command_of (codes "stp" ∷ codes "check" ∷ codes "d" ∷ codes "p" ∷ codes "l" ∷ []) ≡ Some (record { work = Check; names = codes "d" ∷ codes "p" ∷ codes "l" ∷ []; list = [] })
check_line = refl

other_program : command_of ([] ∷ codes "check" ∷ codes "d" ∷ codes "p" ∷ codes "l" ∷ []) ≡ Some (record { work = Check; names = codes "d" ∷ codes "p" ∷ codes "l" ∷ []; list = [] })
other_program = refl

-- `replay DOMAIN PROBLEM PLAN --durations LIST`
replay_line : command_of (codes "stp" ∷ codes "replay" ∷ codes "d" ∷ codes "p" ∷ codes "l" ∷ codes "--durations" ∷ codes "4" ∷ [])
    ≡ Some (record { work = Replay; names = codes "d" ∷ codes "p" ∷ codes "l" ∷ []; list = codes "4" })
replay_line = refl

-- `demo N`: 1 to 3 digits, from 1 to 250, and no file
demo_line : command_of (codes "stp" ∷ codes "demo" ∷ codes "250" ∷ []) ≡ Some (record { work = Demo 250; names = []; list = [] })
demo_line = refl

zeros_in_front : command_of (codes "stp" ∷ codes "demo" ∷ codes "007" ∷ []) ≡ Some (record { work = Demo 7; names = []; list = [] })
zeros_in_front = refl

no_rover : command_of (codes "stp" ∷ codes "demo" ∷ codes "0" ∷ []) ≡ None
no_rover = refl

too_many_rovers : command_of (codes "stp" ∷ codes "demo" ∷ codes "251" ∷ []) ≡ None
too_many_rovers = refl

too_many_digits : command_of (codes "stp" ∷ codes "demo" ∷ codes "0002" ∷ []) ≡ None
too_many_digits = refl

a_plus : command_of (codes "stp" ∷ codes "demo" ∷ codes "+2" ∷ []) ≡ None
a_plus = refl

-- what is no command: too few words, too many, one that begins with `-` or is empty, another order, another option
no_words : command_of [] ≡ None
no_words = refl

no_program : command_of (codes "check" ∷ codes "d" ∷ codes "p" ∷ codes "l" ∷ []) ≡ None
no_program = refl

too_few : command_of (codes "stp" ∷ codes "check" ∷ codes "d" ∷ codes "p" ∷ []) ≡ None
too_few = refl

too_many : command_of (codes "stp" ∷ codes "check" ∷ codes "d" ∷ codes "p" ∷ codes "l" ∷ codes "l" ∷ []) ≡ None
too_many = refl

a_dash : command_of (codes "stp" ∷ codes "check" ∷ codes "d" ∷ codes "-p" ∷ codes "l" ∷ []) ≡ None
a_dash = refl

an_empty_word : command_of (codes "stp" ∷ codes "check" ∷ codes "d" ∷ codes "p" ∷ [] ∷ []) ≡ None
an_empty_word = refl

a_capital : command_of (codes "stp" ∷ codes "Check" ∷ codes "d" ∷ codes "p" ∷ codes "l" ∷ []) ≡ None
a_capital = refl

no_list : command_of (codes "stp" ∷ codes "replay" ∷ codes "d" ∷ codes "p" ∷ codes "l" ∷ codes "--durations" ∷ []) ≡ None
no_list = refl

an_empty_list : command_of (codes "stp" ∷ codes "replay" ∷ codes "d" ∷ codes "p" ∷ codes "l" ∷ codes "--durations" ∷ [] ∷ []) ≡ None
an_empty_list = refl

a_list_below_zero : command_of (codes "stp" ∷ codes "replay" ∷ codes "d" ∷ codes "p" ∷ codes "l" ∷ codes "--durations" ∷ codes "-4" ∷ []) ≡ None
a_list_below_zero = refl

another_option : command_of (codes "stp" ∷ codes "replay" ∷ codes "d" ∷ codes "p" ∷ codes "l" ∷ codes "-durations" ∷ codes "4" ∷ []) ≡ None
another_option = refl

option_first : command_of (codes "stp" ∷ codes "replay" ∷ codes "--durations" ∷ codes "4" ∷ codes "d" ∷ codes "p" ∷ codes "l" ∷ []) ≡ None
option_first = refl

-- the files of a command, in the order of its words
three_files : files_of (record { work = Replay; names = codes "d" ∷ codes "p" ∷ codes "l" ∷ []; list = codes "4" })
    ≡ record { role = Domain; name = codes "d" } ∷ record { role = Problem; name = codes "p" } ∷ record { role = Plan; name = codes "l" } ∷ []
three_files = refl
