-- The constants of a domain: each has a type, and each name stands once.
use Rattle.std.proofs.Common.{◌≡◌, ℕ, ◌<◌, Bool, true, false, if◌then◌else◌, List, [], ◌∷◌, ◌++◌, Option, Some, None, Ok, length, map, All, refl, ap, sym, ◌∙◌, subst}
use Rattle.std.specs.Prelude.{not, bytes_eq}
use Rattle.std.specs.List.{list_any}
use Rattle.std.proofs.lemmas.List.{length-map, map-append}
use Rattle.std.proofs.lemmas.List.Elements.{All-nil, All-cons, All-head, All-tail, All-push, All-same}
use Rattle.stp_text.specs.Tree.{Tree}
use Rattle.stp_refusal.specs.declared.offence.Offence.{Offence}
use Rattle.stp_refusal.specs.Read.{IsRead}
use Rattle.stp_refusal.specs.Phases.{chosen, unless_refused}
use Rattle.stp_domain_parts.specs.Entries.{Plain}
use Rattle.stp_schema.specs.declared.rows.ObjectRow.{ObjectRow}
use Rattle.stp_schema.specs.Rows.{Thing, thing_of, thing_names, type_names_of}
use Rattle.stp_schema.specs.Views.{PlainDomain}
use Rattle.stp_domain_tables.specs.declared.tables.DeclaredDomain.{DeclaredDomain}
use Rattle.stp_domain_tables.specs.Declarations.{Declarations}
use Rattle.stp_domain_tables.specs.Tables.{Things, thing, no_things, with_thing, with_things, tables_read}
use Rattle.stp_domain_tables.specs.TableViews.{tables_of}
use Rattle.stp_domain_tables.specs.Types.{types_in}
use Rattle.stp_domain_tables.specs.Objects.{HasLawfulConstants, with_object, with_objects}
use Rattle.stp_domain_tables.proofs.Numbering.{types_some, kind_number_below}
use Rattle.stp_domain.specs.Reading.{declarations_phase, phases, domain_of_tree, domain_or_refusal}

with_objects_last : (xs ys : List Thing) (t : Thing) → with_objects xs (ys ++ t ∷ []) ≡ with_object (with_objects xs ys) t
with_objects_last xs [] t = refl
with_objects_last xs (y ∷ ys) t = with_objects_last (with_object xs y) ys t

-- names beside things of so many types, each once
record AreOnce (n : ℕ) (found : Things) : Type 0 where
  names : found.names ≡ thing_names found.rows
  once : with_objects [] found.rows ≡ found.rows
  kinds : All (λ (t : Thing). t.kind < n) found.rows

once_one : (n : ℕ) (found : Things) (t : Thing) (b : Bool) → list_any (bytes_eq t.name) found.names ≡ b → AreOnce n found → t.kind < n
    → AreOnce n (record { names = if b then found.names else found.names ++ t.name ∷ []; rows = if not b then found.rows ++ t ∷ [] else found.rows })
once_one n found t true e h k = record { names = h.names; once = h.once; kinds = h.kinds }
once_one n found t false e h k = record {
  names = ap (λ ns. ns ++ t.name ∷ []) h.names ∙ sym (map-append (λ (o : Thing). o.name) found.rows (t ∷ []));
  once =
      with_objects_last [] found.rows t
      ∙ ap (λ rows. with_object rows t) h.once
      ∙ ap (λ ns. if not (list_any (bytes_eq t.name) ns) then found.rows ++ t ∷ [] else found.rows) (sym h.names)
      ∙ ap (λ b. if not b then found.rows ++ t ∷ [] else found.rows) e;
  kinds = All-push (λ (o : Thing). o.kind < n) found.rows t h.kinds k;
}

once_all : (types : List (List ℕ)) (found : Things) (es : List Plain) → 0 < length types → AreOnce (length types) found → AreOnce (length types) (with_things types found es)
once_all types found [] some h = h
once_all types found (e ∷ es) some h =
    once_all types (with_thing types found e) es some
    (once_one (length types) found (thing types e) (list_any (bytes_eq e.name) found.names) refl h (kind_number_below types e some))

constants_once : (types : List (List ℕ)) (es : List Plain) → 0 < length types → AreOnce (length types) (with_things types no_things es)
constants_once types es some = once_all types no_things es some (record { names = refl; once = refl; kinds = All-nil (λ (t : Thing). t.kind < length types) })

-- ---- domains that are read

tree_lawful : (t : Tree) → HasLawfulConstants (domain_of_tree t)
tree_lawful t =
    let d = (declarations_phase t).value in
    let some = types_some d.type_items in
    let h = constants_once (domain_of_tree t).types d.constants some in
    record { types = some; kinds = h.kinds; once = h.once }

accepted_value : {A : Type 0} (value : A) (f : Option Offence) (v : A) → unless_refused value f ≡ Ok v → value ≡ v
accepted_value value None v e = cc
accepted_value value (Some o) v e = cc

pub domain_fits : (t : Tree) (d : PlainDomain) → domain_or_refusal t ≡ Ok d → HasLawfulConstants d
domain_fits t d e = subst HasLawfulConstants (accepted_value (domain_of_tree t) (chosen (phases t)) d e) (tree_lawful t)

-- ---- the tables of a domain

rows_kinds : (n : ℕ) (rows : List ObjectRow) → All (λ (t : Thing). t.kind < n) (map thing_of rows) → All (λ (o : ObjectRow). o.kind < n) rows
rows_kinds n [] h = All-nil (λ (o : ObjectRow). o.kind < n)
rows_kinds n (o ∷ os) h =
    All-cons (λ (o : ObjectRow). o.kind < n) o os
    (All-head (λ (t : Thing). t.kind < n) (thing_of o) (map thing_of os) h)
    (rows_kinds n os (All-tail (λ (t : Thing). t.kind < n) (thing_of o) (map thing_of os) h))

module _ (d : Declarations) (r : DeclaredDomain) (f g : Option Offence) (h : IsRead f g (tables_of r) (tables_read d)) where
  types_same : type_names_of r.declared.types.now ≡ types_in d.type_items
  types_same = ap (λ t. t.known.types) h.same

  constants_same : map thing_of r.constants.rows.now ≡ (with_things (types_in d.type_items) no_things d.constants).rows
  constants_same = ap (λ t. t.known.objects) h.same

  number_same : length (types_in d.type_items) ≡ length r.declared.types.now
  number_same = sym (ap length types_same) ∙ length-map r.declared.types.now (λ r. r.name.now)

  -- there is a type
  pub tables_have_type : 0 < length r.declared.types.now
  tables_have_type = subst (λ n. 0 < n) number_same (types_some d.type_items)

  -- each constant has one
  pub tables_have_kinds : All (λ (o : ObjectRow). o.kind < length r.declared.types.now) r.constants.rows.now
  tables_have_kinds =
      let n = length (types_in d.type_items) in
      let all = (constants_once (types_in d.type_items) d.constants (types_some d.type_items)).kinds in
      subst (λ m. All (λ (o : ObjectRow). o.kind < m) r.constants.rows.now) number_same
      (rows_kinds n r.constants.rows.now
      (All-same (λ (t : Thing). t.kind < n) (map thing_of r.constants.rows.now) (with_things (types_in d.type_items) no_things d.constants).rows constants_same all))
