-- Objects and symbols that are found by their names.
use Rattle.std.proofs.Common.{◌≡◌, ℕ, true, false, List, [], ◌∷◌, length, Option, Some, None, map, refl, ap, sym, ◌∙◌, arith}
use Rattle.std.specs.Prelude.{◌==◌, slice_get, option_map}
use Rattle.std.proofs.lemmas.Bool.Decides.{nat_tests}
use Rattle.std.proofs.lemmas.Option.{slice_get-map}
use Rattle.stp_tables.specs.Names.{number_of}
use Rattle.stp_schema.specs.declared.lifted.Term.{Term}
use Rattle.stp_schema.specs.declared.lifted.Term.TheVariants.{Object}
use Rattle.stp_schema.specs.declared.rows.Symbol.{Symbol}
use Rattle.stp_schema.specs.declared.rows.ObjectRow.{ObjectRow}
use Rattle.stp_schema.specs.Rows.{Shape, Thing, shape_of, thing_of, shape_names, thing_names, symbol_names_of, object_names_of}
use Rattle.stp_schema.specs.Known.{Known}
use Rattle.stp_text.specs.declared.sexpr.Sexpr.{Sexpr}
use Rattle.stp_text.specs.Tree.{views}
use Rattle.stp_refusal.specs.declared.code.Code.TheVariants.{D18}
use Rattle.stp_text.specs.Items.{count}
use Rattle.stp_refusal.specs.Read.{bad, map_read}
use Rattle.stp_text.proofs.Items.{count_views}
use Rattle.stp_condition.specs.Scope.{Var, with_value}
use Rattle.stp_condition.specs.Terms.{object_at, object_in, terms_read}
use Rattle.stp_condition.specs.Atoms.{shape_at, shape_in, atom_with, no_atom, applied_read}

abbrev as_object : ℕ → Thing → Term × ℕ
as_object number thing = (Object (record { 0 = number }), thing.kind)

abbrev with_number : ℕ → Shape → ℕ × Shape
with_number number shape = (number, shape)

names_of_things : (rows : List ObjectRow) → thing_names (map thing_of rows) ≡ object_names_of rows
names_of_things [] = refl
names_of_things (r ∷ rows) = ap (λ names. r.name.now ∷ names) (names_of_things rows)

names_of_shapes : (rows : List Symbol) → shape_names (map shape_of rows) ≡ symbol_names_of rows
names_of_shapes [] = refl
names_of_shapes (r ∷ rows) = ap (λ names. r.name.now ∷ names) (names_of_shapes rows)

module _ (rows : List ObjectRow) (name : List ℕ) where
  -- no object has the name
  pub object_missing : None ≡ number_of (object_names_of rows) name → None ≡ object_in (map thing_of rows) name
  object_missing e = ap (with_value (object_at (map thing_of rows))) (e ∙ ap (λ names. number_of names name) (sym (names_of_things rows)))

  object_is : (number : ℕ) (row : Option ObjectRow) → Some number ≡ number_of (object_names_of rows) name → row ≡ slice_get rows number → option_map (as_object number) (option_map thing_of row) ≡ object_in (map thing_of rows) name
  object_is number row e h =
      ap (λ r. option_map (as_object number) (option_map thing_of r)) h
      ∙ ap (option_map (as_object number)) (sym (slice_get-map thing_of rows number))
      ∙ ap (with_value (object_at (map thing_of rows))) (e ∙ ap (λ names. number_of names name) (sym (names_of_things rows)))

  -- the object that has the name
  pub object_found : (number : ℕ) (row : ObjectRow) → Some number ≡ number_of (object_names_of rows) name → Some row ≡ slice_get rows number → Some (Object (record { 0 = number }), row.kind) ≡ object_in (map thing_of rows) name
  object_found number row e h = object_is number (Some row) e h

-- the symbol of a number
pub symbol_there : (rows : List Symbol) (number : ℕ) (row : Option Symbol) → row ≡ slice_get rows number → option_map (with_number number) (option_map shape_of row) ≡ shape_at (map shape_of rows) number
symbol_there rows number row h = ap (λ r. option_map (with_number number) (option_map shape_of r)) h ∙ ap (option_map (with_number number)) (sym (slice_get-map shape_of rows number))

-- the symbol of a name is that of the name's number
pub symbol_named : (rows : List Symbol) (name : List ℕ) (number : Option ℕ) (found : Option (ℕ × Shape)) → found ≡ with_value (shape_at (map shape_of rows)) number → number ≡ number_of (symbol_names_of rows) name → found ≡ shape_in (map shape_of rows) name
symbol_named rows name number found h e = h ∙ ap (with_value (shape_at (map shape_of rows))) (e ∙ ap (λ names. number_of names name) (sym (names_of_shapes rows)))

-- ---- the number of an atom's terms

test_false : (m n : ℕ) → (m ≡ n → ⊥) → (m == n) ≡ false
test_false m n h = grind (arith, nat_tests, h)

test_true : (m n : ℕ) → m ≡ n → (m == n) ≡ true
test_true m n h = grind (arith, nat_tests, h)

module _ (k : Known) (scope : List Var) (at : ℕ) (ts : List Sexpr) (s : ℕ × Shape) where
  pub wrong_count : (length ts ≡ length s.1.parameters → ⊥) → applied_read k scope at (views ts) s ≡ bad at D18 no_atom
  wrong_count h = rw (test_false (count (views ts)) (length s.1.parameters) (λ e. h (sym (count_views ts) ∙ e))) refl

  pub right_count : length ts ≡ length s.1.parameters → applied_read k scope at (views ts) s ≡ map_read (atom_with s.0) (terms_read k scope s.1.parameters (views ts))
  right_count h = rw (test_true (count (views ts)) (length s.1.parameters) (count_views ts ∙ h)) refl
