-- Atoms over objects, as they are written and what they say.
use Rattle.std.specs.Prelude.{ℕ, Bool, true, false, not, ◌==◌, ◌&&◌, if◌then◌else◌, List, [], ◌∷◌, ◌++◌, Option, Some, None, option_map, length, slice_get}
use Rattle.stp_text.specs.Tree.{Tree, Trees, Word, Node, NoMore, More}
use Rattle.stp_refusal.specs.declared.code.Code.TheVariants.{P09, P10}
use Rattle.stp_refusal.specs.declared.offence.Offence.{Offence}
use Rattle.stp_text.specs.Items.{place, when, count, has_list, keyed}
use Rattle.stp_refusal.specs.Read.{Read, bad, given, offence_at, unless}
use Rattle.stp_tables.specs.Names.{number_of}
use Rattle.stp_base.specs.Options.{◌>>=◌}
use Rattle.stp_types.specs.Forest.{is_below}
use Rattle.stp_schema.specs.Rows.{Shape, Thing, thing_names}
use Rattle.stp_schema.specs.Known.{Known}
use Rattle.stp_condition.specs.declared.key.Key.{Key}
use Rattle.stp_condition.specs.declared.key.Key.TheVariants as keys
use Rattle.stp_condition.specs.Keys.{key_of}
use Rattle.stp_condition.specs.Scope.{with_value}
use Rattle.stp_condition.specs.declared.atom.SymbolKind.{SymbolKind}
use Rattle.stp_condition.specs.Atoms.{shapes_of, shape_in}
use Rattle.stp_tables.specs.Atoms.{Atom}

-- an atom as it is written: its place, its first word, and the words behind it
pub record Call : Type 0 where
  pub at : ℕ
  pub name : List ℕ
  pub args : Trees

-- whether a word may begin an atom
abbrev pub is_symbol_key : Key → Bool
is_symbol_key keys.Symbol = true
is_symbol_key key = false

abbrev pub call_with : ℕ → List ℕ → Trees → Call
call_with at name args = record { at = at; name = name; args = args }

-- a list of words, the first of which may begin an atom
abbrev pub call_of : Tree → Option Call
call_of tree = do
  list ← keyed tree
  when (is_symbol_key (key_of list.0) && not (has_list list.1)) (call_with (place tree) list.0 list.1)

-- the number and the type of an object
abbrev pub object_at : List Thing → ℕ → Option (ℕ × ℕ)
object_at things number = option_map (λ t. (number, t.kind)) (slice_get things number)

abbrev pub object_in : List Thing → List ℕ → Option (ℕ × ℕ)
object_in things name = with_value (object_at things) (number_of (thing_names things) name)

-- a word that is no object, at it, and an object of a type that does not fit, at the atom
abbrev pub found_wrong : List ℕ → ℕ → ℕ → ℕ → Option (ℕ × ℕ) → List Offence
found_wrong parents at kind word_at None = offence_at word_at P09
found_wrong parents at kind word_at (Some o) = unless (is_below parents o.1 kind) (offence_at at P10)

abbrev pub arg_wrong : Known → ℕ → ℕ → Tree → List Offence
arg_wrong k at kind (Word word_at text) = found_wrong k.parents at kind word_at (object_in k.objects text)
arg_wrong k at kind (Node list_at items) = []

-- arguments for parameters of these types
abbrev pub args_wrong : Known → ℕ → List ℕ → Trees → List Offence
args_wrong k at [] ts = []
args_wrong k at (p ∷ ps) NoMore = []
args_wrong k at (p ∷ ps) (More t ts) = arg_wrong k at p t ++ args_wrong k at ps ts

-- the object of a word
abbrev pub object_of : List Thing → Tree → Option ℕ
object_of things (Word at text) = option_map (λ o. o.0) (object_in things text)
object_of things (Node at items) = None

abbrev pub objects_of : List Thing → Trees → Option (List ℕ)
objects_of things NoMore = Some []
objects_of things (More t ts) = do
  object ← object_of things t
  objects ← objects_of things ts
  Some (object ∷ objects)

-- what is wrong with an atom of a symbol that is declared so
abbrev pub applied_wrong : Known → Call → Shape → List Offence
applied_wrong k call shape =
    if count call.args == length shape.parameters
    then args_wrong k call.at shape.parameters call.args
    else offence_at call.at P10

abbrev pub atom_at : ℕ → List ℕ → Atom
atom_at symbol args = record { predicate = symbol; args = args }

abbrev pub applied_read : Known → Call → ℕ × Shape → Read (Option Atom)
applied_read k call s = record {
  offences = applied_wrong k call s.1;
  value = option_map (atom_at s.0) (objects_of k.objects call.args);
}

-- An atom, where its symbol and its objects are declared. A symbol that is not is an offence at the atom.
abbrev pub call_read : SymbolKind → Known → Call → Read (Option Atom)
call_read kind k call = given (bad call.at P09 None) (applied_read k call) (shape_in (shapes_of kind k.predicates k.functions) call.name)
