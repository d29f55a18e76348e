-- The forms of timed conditions.
use Rattle.std.specs.Prelude.{ℕ, ◌&&◌, if◌then◌else◌, List, Option, Some, None, option_map, bytes_eq, codes}
use Rattle.stp_text.specs.Tree.{Tree, Trees, Word, Node}
use Rattle.stp_text.specs.Items.{list_of, two_of}
use Rattle.stp_condition.specs.Scope.{with_value}
use Rattle.stp_condition.specs.declared.key.Key.{Key}
use Rattle.stp_condition.specs.declared.key.Key.TheVariants as keys
use Rattle.stp_condition.specs.Keys.{key_of}
use Rattle.stp_condition.specs.declared.form.Form.{Form}
use Rattle.stp_condition.specs.declared.form.Form.TheVariants as forms
use Rattle.stp_condition.specs.declared.form.Span.{Span}
use Rattle.stp_condition.specs.declared.form.Span.TheVariants.{Start, OverAll, End}

-- what a list is as a timed condition, by what its first word begins
abbrev pub form_by : Key → Form
form_by keys.And = forms.And
form_by keys.Symbol = forms.Timed
form_by keys.Equal = forms.Equality
form_by keys.Comparison = forms.Unsupported
form_by keys.Preference = forms.Unsupported
form_by keys.Not = forms.Malformed
form_by keys.Or = forms.Malformed
form_by keys.Imply = forms.Malformed
form_by keys.Forall = forms.Malformed
form_by keys.Exists = forms.Malformed
form_by keys.When = forms.Malformed
form_by keys.Change = forms.Malformed
form_by (keys.Arithmetic operator) = forms.Malformed

abbrev pub form_of : List ℕ → Form
form_of word = form_by (key_of word)

-- the moment that a word names behind `at`
abbrev pub moment_named : List ℕ → Option Span
moment_named other = if bytes_eq other (codes "start") then Some Start else if bytes_eq other (codes "end") then Some End else None

-- the span that two words name: `at start`, `at end` or `over all`
abbrev pub span_named : List ℕ → List ℕ → Option Span
span_named word other =
    if bytes_eq word (codes "at") then moment_named other
    else if bytes_eq word (codes "over") && bytes_eq other (codes "all") then Some OverAll
    else None

-- the span that a word and an item behind it name
abbrev pub span_of : List ℕ → Tree → Option Span
span_of word (Word at other) = span_named word other
span_of word (Node at items) = None

abbrev pub with_condition : Tree → Span → Span × Tree
with_condition condition span = (span, condition)

abbrev pub part_of : List ℕ → Tree × Tree → Option (Span × Tree)
part_of word pair = option_map (with_condition pair.1) (span_of word pair.0)

-- the span and the condition of `(at start CONDITION)`, `(at end CONDITION)` or `(over all CONDITION)`, by its first word and the items behind it
abbrev pub part_in : List ℕ → Trees → Option (Span × Tree)
part_in word ts = with_value (part_of word) (two_of (list_of ts))
