-- Terms.
use Rattle.std.specs.Prelude.{ℕ, Bool, true, if◌then◌else◌, List, [], ◌∷◌, Option, Some, None, slice_get, option_map}
use Rattle.stp_text.specs.Tree.{Tree, Trees, Word, Node, NoMore, More}
use Rattle.stp_refusal.specs.declared.code.Code.TheVariants.{D16, D19, D20}
use Rattle.stp_refusal.specs.Read.{Read, fine, bad, cons_read}
use Rattle.stp_tables.specs.Names.{number_of}
use Rattle.stp_types.specs.Forest.{is_below}
use Rattle.stp_schema.specs.declared.lifted.Term.{Term}
use Rattle.stp_schema.specs.declared.lifted.Term.TheVariants as terms
use Rattle.stp_schema.specs.Rows.{Thing, thing_names}
use Rattle.stp_schema.specs.Known.{Known}
use Rattle.stp_condition.specs.Scope.{Var, with_value, variable_in}

-- an object, with its type
abbrev pub object_at : List Thing → ℕ → Option (Term × ℕ)
object_at things number = option_map (λ t. (terms.Object (record { 0 = number }), t.kind)) (slice_get things number)

abbrev pub object_in : List Thing → List ℕ → Option (Term × ℕ)
object_in things name = with_value (object_at things) (number_of (thing_names things) name)

-- a variable, or else an object
abbrev pub variable_or : Option (ℕ × ℕ) → Option (Term × ℕ) → Option (Term × ℕ)
variable_or None object = object
variable_or (Some v) object = Some (terms.Variable v.0, v.1)

-- what a word stands for, with its type
abbrev pub find_term : List Thing → List Var → List ℕ → Option (Term × ℕ)
find_term things scope name = variable_or (variable_in name scope) (object_in things name)

-- whether a type is that of a place or below it; where the place has no type, any type fits
abbrev pub fits : List ℕ → Option ℕ → ℕ → Bool
fits parents None kind = true
fits parents (Some other) kind = is_below parents kind other

-- what stands in the place of a term that does not match
abbrev pub no_term : Term
no_term = terms.Variable 0

abbrev pub found_term : List ℕ → Option ℕ → ℕ → Option (Term × ℕ) → Read Term
found_term parents place at None = bad at D19 no_term
found_term parents place at (Some t) = if fits parents place t.1 then fine t.0 else bad at D20 t.0

-- what a tree says as a term where a term of this type is wanted
abbrev pub term_read : Known → List Var → Option ℕ → Tree → Read Term
term_read k scope place (Word at text) = found_term k.parents place at (find_term k.objects scope text)
term_read k scope place (Node at items) = bad at D16 no_term

-- terms for places of these types
abbrev pub terms_read : Known → List Var → List ℕ → Trees → Read (List Term)
terms_read k scope [] ts = fine []
terms_read k scope (p ∷ ps) NoMore = fine []
terms_read k scope (p ∷ ps) (More t ts) = cons_read (term_read k scope (Some p) t) (terms_read k scope ps ts)
