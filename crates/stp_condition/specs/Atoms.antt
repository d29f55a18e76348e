-- Atoms.
use Rattle.std.specs.Prelude.{ℕ, ◌==◌, if◌then◌else◌, List, [], length, Option, slice_get, option_map}
use Rattle.stp_text.specs.Tree.{Trees}
use Rattle.stp_refusal.specs.declared.code.Code.TheVariants.{D17, D18}
use Rattle.stp_text.specs.Items.{count}
use Rattle.stp_refusal.specs.Read.{Read, bad, map_read, given}
use Rattle.stp_tables.specs.Names.{number_of}
use Rattle.stp_schema.specs.declared.lifted.Term.{Term}
use Rattle.stp_schema.specs.Rows.{Shape, shape_names}
use Rattle.stp_schema.specs.Known.{Known}
use Rattle.stp_schema.specs.Formula.{PlainAtom}
use Rattle.stp_condition.specs.declared.atom.SymbolKind.{SymbolKind}
use Rattle.stp_condition.specs.declared.atom.SymbolKind.TheVariants.{Predicate, Function}
use Rattle.stp_condition.specs.Scope.{Var, with_value}
use Rattle.stp_condition.specs.Terms.{terms_read}

-- the predicates or the functions
abbrev pub shapes_of : SymbolKind → List Shape → List Shape → List Shape
shapes_of Predicate predicates functions = predicates
shapes_of Function predicates functions = functions

-- the number and the shape of a name
abbrev pub shape_at : List Shape → ℕ → Option (ℕ × Shape)
shape_at shapes number = option_map (λ s. (number, s)) (slice_get shapes number)

abbrev pub shape_in : List Shape → List ℕ → Option (ℕ × Shape)
shape_in shapes name = with_value (shape_at shapes) (number_of (shape_names shapes) name)

abbrev pub atom_with : ℕ → List Term → PlainAtom
atom_with symbol terms = record { symbol = symbol; terms = terms }

-- what stands in the place of an atom that does not match
abbrev pub no_atom : PlainAtom
no_atom = atom_with 0 []

-- an atom of a symbol that is declared so
abbrev pub applied_read : Known → List Var → ℕ → Trees → ℕ × Shape → Read PlainAtom
applied_read k scope at ts s =
    if count ts == length s.1.parameters
    then map_read (atom_with s.0) (terms_read k scope s.1.parameters ts)
    else bad at D18 no_atom

-- what a list at a place says as an atom, by its first word and the items behind it
abbrev pub atom_read : SymbolKind → Known → List Var → ℕ → List ℕ → Trees → Read PlainAtom
atom_read kind k scope at name ts = given (bad at D17 no_atom) (applied_read k scope at ts) (shape_in (shapes_of kind k.predicates k.functions) name)
