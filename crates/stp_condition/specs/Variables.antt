-- The variables of a quantifier.
use Rattle.std.specs.Prelude.{ℕ, List, [], ◌∷◌, ◌++◌, Option, Some, None}
use Rattle.stp_text.specs.Tree.{Tree, Trees, Word, Node}
use Rattle.stp_refusal.specs.declared.code.Code.TheVariants.{D16}
use Rattle.stp_refusal.specs.Read.{Read, fine, bad, cons_read, map_read, also}
use Rattle.stp_tables.specs.Names.{number_of}
use Rattle.stp_domain_parts.specs.declared.judged.WordKind.TheVariants.{Variable}
use Rattle.stp_domain_parts.specs.Entries.{Plain, entries_of}
use Rattle.stp_domain_parts.specs.Judged.{names_wrong}
use Rattle.stp_condition.specs.Scope.{Var}

-- what is read, and then what is read with its help
abbrev pub then_read : {A B : Type 0} → Read A → (A → Read B) → Read B
then_read r f = record { offences = r.offences ++ (f r.value).offences; value = (f r.value).value }

-- the words of a list of variables, each with what stands as its type
abbrev pub names_read : Trees → Read (List Plain)
names_read ts = also (names_wrong Variable D16 D16 []) (entries_of D16 [] None ts)

-- the number of a type, which has to be declared; `object` is 0
abbrev pub named_kind : ℕ → Option ℕ → Read ℕ
named_kind at None = bad at D16 0
named_kind at (Some number) = fine number

-- what stands as a variable's type; without one it is `object`
abbrev pub kind_read : List (List ℕ) → Option Tree → Read ℕ
kind_read types None = fine 0
kind_read types (Some (Word at text)) = named_kind at (number_of types text)
kind_read types (Some (Node at items)) = bad at D16 0

abbrev pub var_with : List ℕ → ℕ → Var
var_with name kind = record { name = name; kind = kind }

-- the variables of these entries, with their types
abbrev pub typed_read : List (List ℕ) → List Plain → Read (List Var)
typed_read types [] = fine []
typed_read types (e ∷ es) = cons_read (map_read (var_with e.name) (kind_read types e.kind)) (typed_read types es)

-- What stands as the list of a quantifier's variables. What would be an offence in a list of parameters is a malformed condition here.
abbrev pub variables_read : List (List ℕ) → Tree → Read (List Var)
variables_read types (Word at text) = bad at D16 []
variables_read types (Node at items) = then_read (names_read items) (typed_read types)
