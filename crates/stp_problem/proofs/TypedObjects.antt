-- The types of objects are declared.
use Rattle.std.proofs.Common.{ℕ, ◌<◌, Bool, true, false, if◌then◌else◌, List, [], ◌∷◌, ◌++◌, Option, None, length, map, All, sym, ◌≡◌, subst}
use Rattle.std.proofs.lemmas.List.{length-map}
use Rattle.std.proofs.lemmas.List.Elements.{All-nil, All-cons, All-head, All-map, All-tail, All-push, All-same}
use Rattle.stp_text.specs.Tree.{Trees}
use Rattle.stp_refusal.specs.declared.code.Code.TheVariants.{P06}
use Rattle.stp_refusal.specs.declared.offence.Offence.{Offence}
use Rattle.stp_refusal.specs.Read.{IsRead}
use Rattle.stp_tables.specs.Names.{is_new_in}
use Rattle.stp_domain_parts.specs.Entries.{Plain, entries_of}
use Rattle.stp_schema.specs.declared.rows.ObjectRow.{ObjectRow}
use Rattle.stp_schema.specs.declared.domain.Domain.{Domain}
use Rattle.stp_schema.specs.Rows.{Thing, thing_of, thing_names, type_names_of}
use Rattle.stp_domain_tables.proofs.Numbering.{kind_number_below}
use Rattle.stp_domain_tables.specs.Objects.{with_object, with_objects}
use Rattle.stp_problem.specs.Objects.{declared_object, declared_objects, objects_read}
use Rattle.stp_problem.proofs.Phases.{objects_moved}

-- each of these has one of so many types
abbrev HaveKinds : ℕ → List Thing → Type 0
HaveKinds n things = All (λ t. t.kind < n) things

module _ (n : ℕ) where
  pub one_more : (things : List Thing) (t : Thing) (b : Bool) → HaveKinds n things → t.kind < n → HaveKinds n (if b then things ++ t ∷ [] else things)
  one_more things t true h k = All-push (λ (o : Thing). o.kind < n) things t h k
  one_more things t false h k = h

  more : (things ts : List Thing) → HaveKinds n things → HaveKinds n ts → HaveKinds n (with_objects things ts)
  more things [] h k = h
  more things (t ∷ ts) h k =
      more (with_object things t) ts
      (one_more things t (is_new_in (thing_names things) t.name) h (All-head (λ (o : Thing). o.kind < n) t ts k))
      (All-tail (λ (o : Thing). o.kind < n) t ts k)

  pub rows_kinds : (rows : List ObjectRow) → HaveKinds n (map thing_of rows) → All (λ (o : ObjectRow). o.kind < n) rows
  rows_kinds [] h = All-nil (λ (o : ObjectRow). o.kind < n)
  rows_kinds (o ∷ os) h =
      All-cons (λ (o : ObjectRow). o.kind < n) o os
      (All-head (λ (t : Thing). t.kind < n) (thing_of o) (map thing_of os) h)
      (rows_kinds os (All-tail (λ (t : Thing). t.kind < n) (thing_of o) (map thing_of os) h))

declared_kinds : (types : List (List ℕ)) (es : List Plain) → 0 < length types → HaveKinds (length types) (declared_objects types es)
declared_kinds types [] some = All-nil (λ (t : Thing). t.kind < length types)
declared_kinds types (e ∷ es) some = All-cons (λ (t : Thing). t.kind < length types) (declared_object types e) (declared_objects types es) (kind_number_below types e some) (declared_kinds types es some)

pub objects_kinds : (types : List (List ℕ)) (constants : List Thing) (items : Trees) → 0 < length types → HaveKinds (length types) constants → HaveKinds (length types) (objects_read types constants items).value
objects_kinds types constants items some h =
    more (length types) (with_objects [] constants) (declared_objects types (entries_of P06 [] None items).value)
    (more (length types) [] constants (All-nil (λ (t : Thing). t.kind < length types)) h)
    (declared_kinds types (entries_of P06 [] None items).value some)

-- the objects that are read for a domain have types of its own
pub rows_fit : (d : Domain) (f : Option Offence) (rows : List ObjectRow) (items : Trees) → IsRead None f (map thing_of rows) (objects_read d.declared.type_names (map thing_of d.constants.now) items) → All (λ (o : ObjectRow). o.kind < length d.types.now) rows
rows_fit d f rows items h =
    let types = type_names_of d.types.now in
    let constants = map thing_of d.constants.now in
    let read = objects_read types constants items in
    let number : length d.types.now ≡ length types = sym (length-map d.types.now (λ r. r.name.now)) in
    let some : 0 < length types = subst (λ n. 0 < n) number d.has_type in
    let typed : All (λ (t : Thing). t.kind < length types) constants =
    All-map (λ (t : Thing). t.kind < length types) thing_of d.constants.now (subst (λ n. All (λ (o : ObjectRow). o.kind < n) d.constants.now) number d.typed_constants) in
    let kinds = objects_kinds types constants items some typed in
    let same = (objects_moved d f (map thing_of rows) items h).same in
    subst (λ n. All (λ (o : ObjectRow). o.kind < n) rows) (length-map d.types.now (λ r. r.name.now))
    (rows_kinds (length types) rows (All-same (λ (t : Thing). t.kind < length types) (map thing_of rows) read.value same kinds))
