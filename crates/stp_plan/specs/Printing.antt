-- How a plan is printed.
use Rattle.std.specs.Prelude.{ℕ, List, [], ◌∷◌, ◌++◌, codes}
use Rattle.stp_frac.specs.Reading.{text_of}
use Rattle.stp_plan.specs.Steps.{PlainBracket, NoBracket, Exactly, AnyNumber, Between, PlainStep}

-- each argument after a space
abbrev pub args_text : List (List ℕ) → List ℕ
args_text [] = []
args_text (arg ∷ args) = codes " " ++ (arg ++ args_text args)

-- nothing, or a bracket after a space
abbrev pub bracket_text : PlainBracket → List ℕ
bracket_text NoBracket = []
bracket_text (Exactly number) = codes " [" ++ (text_of number ++ codes "]")
bracket_text AnyNumber = codes " [*]"
bracket_text (Between low high) = codes " [" ++ (text_of low ++ (codes "," ++ (text_of high ++ codes "]")))

-- a step: NUMBER: (NAME NAME ..) [BRACKET]
abbrev pub step_text : PlainStep → List ℕ
step_text s = text_of s.at ++ (codes ": (" ++ (s.name ++ (args_text s.args ++ (codes ")" ++ bracket_text s.bracket))))

-- a line for each step, ended by a line feed, 10
abbrev pub plan_text : List PlainStep → List ℕ
plan_text [] = []
plan_text (s ∷ ss) = step_text s ++ (10 ∷ plan_text ss)
