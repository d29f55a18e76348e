-- The forms of effects.
use Rattle.std.specs.Prelude.{ℕ, Bool, true, false, if◌then◌else◌, List, Option, Some, None, option_map, bytes_eq, codes}
use Rattle.stp_text.specs.Tree.{Tree, Trees, Word, Node, NoMore, More}
use Rattle.stp_text.specs.Items.{list_of, one_of, two_of}
use Rattle.stp_condition.specs.Scope.{with_value}
use Rattle.stp_condition.specs.declared.key.Key.{Key}
use Rattle.stp_condition.specs.declared.key.Key.TheVariants as keys
use Rattle.stp_condition.specs.Keys.{key_of}
use Rattle.stp_body.specs.declared.form.Form.{Form}
use Rattle.stp_body.specs.declared.form.Form.TheVariants as forms
use Rattle.stp_body.specs.declared.form.Moment.{Moment}
use Rattle.stp_body.specs.declared.form.Moment.TheVariants.{Start, End}

-- what a list is as an effect, by what its first word begins
abbrev pub form_by : Key → Form
form_by keys.And = forms.And
form_by keys.Not = forms.Not
form_by keys.Symbol = forms.Atom
form_by keys.When = forms.Unsupported
form_by keys.Forall = forms.Unsupported
form_by keys.Change = forms.Unsupported
form_by keys.Equal = forms.Malformed
form_by keys.Or = forms.Malformed
form_by keys.Imply = forms.Malformed
form_by keys.Exists = forms.Malformed
form_by keys.Comparison = forms.Malformed
form_by keys.Preference = forms.Malformed
form_by (keys.Arithmetic operator) = forms.Malformed

abbrev pub form_of : List ℕ → Form
form_of word = form_by (key_of word)

-- an atom as it is written: its place, its first word, and the items behind it
pub record WrittenAtom : Type 0 where
  pub at : ℕ
  pub name : List ℕ
  pub items : Trees

abbrev pub is_atom : Form → Bool
is_atom forms.And = false
is_atom forms.Not = false
is_atom forms.Atom = true
is_atom forms.Unsupported = false
is_atom forms.Malformed = false

-- the parts of a list that is an atom
abbrev pub atom_at : ℕ → Trees → Option WrittenAtom
atom_at at NoMore = None
atom_at at (More (Node place items) ts) = None
atom_at at (More (Word place text) ts) = if is_atom (form_of text) then Some (record { at = at; name = text; items = ts }) else None

-- the parts of a tree that is an atom
abbrev pub atom_in : Tree → Option WrittenAtom
atom_in (Word at text) = None
atom_in (Node at items) = atom_at at items

-- the moment that a tree names
abbrev pub moment_of : Tree → Option Moment
moment_of (Word at text) = if bytes_eq text (codes "start") then Some Start else if bytes_eq text (codes "end") then Some End else None
moment_of (Node at items) = None

-- the parts of the one item of a list, which is an atom
abbrev pub only_atom : Trees → Option WrittenAtom
only_atom ts = with_value atom_in (one_of (list_of ts))

abbrev pub with_effect : Tree → Moment → Moment × Tree
with_effect effect moment = (moment, effect)

abbrev pub at_pair : List ℕ → Tree × Tree → Option (Moment × Tree)
at_pair word pair = if bytes_eq word (codes "at") then option_map (with_effect pair.1) (moment_of pair.0) else None

-- the moment and the effect of `(at start EFFECT)` or `(at end EFFECT)`, by its first word and the items behind it
abbrev pub at_moment : List ℕ → Trees → Option (Moment × Tree)
at_moment word ts = with_value (at_pair word) (two_of (list_of ts))
