-- Objects by their names.
use Rattle.std.proofs.Common.{◌≡◌, ℕ, Bool, true, false, if◌then◌else◌, List, [], ◌∷◌, ◌++◌, map, refl, ap, sym, ◌∙◌}
use Rattle.std.proofs.lemmas.List.{map-append}
use Rattle.stp_text.specs.Tree.{Trees}
use Rattle.stp_refusal.specs.declared.code.Code.TheVariants.{P06, P07}
use Rattle.stp_refusal.specs.declared.offence.Offence.{Offence}
use Rattle.stp_refusal.specs.First.{first_from}
use Rattle.stp_refusal.specs.Read.{IsRead, also}
use Rattle.stp_refusal.proofs.Reading.{mapped, also_is}
use Rattle.stp_tables.specs.Names.{is_new_in}
use Rattle.stp_domain_parts.specs.declared.judged.WordKind.TheVariants.{Name}
use Rattle.stp_domain_parts.specs.Entries.{Plain, entries_of}
use Rattle.stp_domain_parts.specs.Judged.{names_wrong}
use Rattle.stp_schema.specs.declared.rows.ObjectRow.{ObjectRow}
use Rattle.stp_schema.specs.Rows.{Thing, thing_of, thing_names, object_names_of}
use Rattle.stp_domain_tables.specs.Objects.{with_object}
use Rattle.stp_problem.specs.Objects.{names_with, types_wrong, all_objects, objects_read}
use Rattle.std.proofs.Common.{Option, None}

pub names_are : (rows : List ObjectRow) → thing_names (map thing_of rows) ≡ object_names_of rows
names_are [] = refl
names_are (r ∷ rows) = ap (λ names. r.name.now ∷ names) (names_are rows)

-- one more object, where its name is new or not
module _ (rows : List ObjectRow) (names : List (List ℕ)) (row : ObjectRow) (same : names ≡ object_names_of rows) where
  with_test : (b : Bool) → b ≡ is_new_in names row.name.now → (if b then map thing_of rows ++ thing_of row ∷ [] else map thing_of rows) ≡ with_object (map thing_of rows) (thing_of row)
  with_test b e = ap (λ c. if c then map thing_of rows ++ thing_of row ∷ [] else map thing_of rows) (e ∙ ap (λ ns. is_new_in ns row.name.now) (same ∙ sym (names_are rows)))

  pub kept_new : (new : List ObjectRow) → true ≡ is_new_in names row.name.now → new ≡ rows ++ row ∷ [] → map thing_of new ≡ with_object (map thing_of rows) (thing_of row)
  kept_new new e h = ap (map thing_of) h ∙ map-append thing_of rows (row ∷ []) ∙ with_test true e

  pub kept_old : false ≡ is_new_in names row.name.now → map thing_of rows ≡ with_object (map thing_of rows) (thing_of row)
  kept_old e = with_test false e

-- the objects of a problem, pass by pass
pub objects_are : (types : List (List ℕ)) (constants : List Thing) (items : Trees) (old found judged new : Option Offence) (entries one two three : List Plain) (seen : List (List ℕ)) (value : List Thing)
    → IsRead old found entries (entries_of P06 [] None items)
    → seen ≡ names_with [] constants → one ≡ entries → judged ≡ first_from found (names_wrong Name P06 P07 seen one)
    → two ≡ entries → new ≡ first_from judged (types_wrong types two)
    → three ≡ entries → value ≡ all_objects types constants three
    → IsRead old new value (objects_read types constants items)
objects_are types constants items old found judged new entries one two three seen value read s e1 h1 e2 h2 e3 h3 =
    mapped (all_objects types constants) old new entries value (also (types_wrong types) (also (names_wrong Name P06 P07 (names_with [] constants)) (entries_of P06 [] None items))) (h3 ∙ ap (all_objects types constants) e3)
    (also_is (types_wrong types) old judged new entries (also (names_wrong Name P06 P07 (names_with [] constants)) (entries_of P06 [] None items))
    (also_is (names_wrong Name P06 P07 (names_with [] constants)) old found judged entries (entries_of P06 [] None items) read
    (h1 ∙ ap (λ s. first_from found (names_wrong Name P06 P07 s one)) s ∙ ap (λ es. first_from found (names_wrong Name P06 P07 (names_with [] constants) es)) e1))
    (h2 ∙ ap (λ es. first_from judged (types_wrong types es)) e2))
