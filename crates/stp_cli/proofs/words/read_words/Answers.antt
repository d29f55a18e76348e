use Rattle.std.proofs.Common.{◌≡◌, ℕ, ◌<◌, List, [], ◌∷◌, length, map, None, string_bytes, refl, sym, arith}
use Rattle.stp_cli.specs.Words.{command_of}
use Rattle.stp_cli.proofs.words.read_words.Goals as goal

-- fewer than two words are no command
no_command : {X : Type 0} (f : X → List ℕ) (words : List X) → length words < 2 → command_of (map f words) ≡ None
no_command f [] few = refl
no_command f (program ∷ []) few = refl
no_command f (program ∷ word ∷ rest) few = absurd (omega (arith, few))

pub returns-in_default-clause-command : goal.returns-in_default-clause-command
returns-in_default-clause-command c = sym (no_command string_bytes c.args.words.now c.in_default.len_below)
