-- The words that begin a list in a condition, an effect or an expression.
use Rattle.std.specs.Prelude.{ℕ, Bool, ◌||◌, List, Option, Some, None, bytes_eq, codes, if◌then◌else◌}
use Rattle.stp_condition.specs.declared.key.Operator.{Operator}
use Rattle.stp_condition.specs.declared.key.Operator.TheVariants as operators
use Rattle.stp_condition.specs.declared.key.Key.{Key}
use Rattle.stp_condition.specs.declared.key.Key.TheVariants as keys

abbrev pub is_comparison : List ℕ → Bool
is_comparison text = bytes_eq text (codes "<") || bytes_eq text (codes ">") || bytes_eq text (codes "<=") || bytes_eq text (codes ">=")

abbrev pub is_change : List ℕ → Bool
is_change text = bytes_eq text (codes "increase") || bytes_eq text (codes "decrease") || bytes_eq text (codes "assign") || bytes_eq text (codes "scale-up") || bytes_eq text (codes "scale-down")

abbrev pub operator_of : List ℕ → Option Operator
operator_of text =
    if bytes_eq text (codes "+") then Some operators.Plus
    else if bytes_eq text (codes "-") then Some operators.Minus
    else if bytes_eq text (codes "*") then Some operators.Times
    else if bytes_eq text (codes "/") then Some operators.Over
    else None

-- a word that is none of the keys names a predicate or a function
abbrev pub other_key : List ℕ → Option Operator → Key
other_key text (Some operator) = keys.Arithmetic operator
other_key text None =
    if is_comparison text then keys.Comparison
    else if bytes_eq text (codes "preference") then keys.Preference
    else if bytes_eq text (codes "when") then keys.When
    else if is_change text then keys.Change
    else keys.Symbol

abbrev pub key_of : List ℕ → Key
key_of text =
    if bytes_eq text (codes "=") then keys.Equal
    else if bytes_eq text (codes "not") then keys.Not
    else if bytes_eq text (codes "and") then keys.And
    else if bytes_eq text (codes "or") then keys.Or
    else if bytes_eq text (codes "imply") then keys.Imply
    else if bytes_eq text (codes "forall") then keys.Forall
    else if bytes_eq text (codes "exists") then keys.Exists
    else other_key text (operator_of text)
