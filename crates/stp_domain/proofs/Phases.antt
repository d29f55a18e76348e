-- What is chosen of the offences of four phases, each of which reads what the one before it has read.
use Rattle.std.proofs.Common.{◌≡◌, List, [], ◌∷◌, Option, Some, None, Ok, Err, ap, sym, ◌∙◌, subst}
use Rattle.stp_text.specs.Tree.{Tree}
use Rattle.stp_refusal.specs.declared.offence.Offence.{Offence}
use Rattle.stp_refusal.specs.declared.phase.ReadFault.{ReadFault}
use Rattle.stp_refusal.specs.First.{first_of}
use Rattle.stp_refusal.specs.Read.{Read, IsRead}
use Rattle.stp_refusal.specs.Phases.{ended, chosen, or_else}
use Rattle.stp_domain_parts.specs.Domain.{Domain}
use Rattle.stp_schema.specs.Schemas.{PlainSchema}
use Rattle.stp_schema.specs.Views.{PlainDomain}
use Rattle.stp_domain_tables.specs.Declarations.{Declarations, declarations_read}
use Rattle.stp_domain_tables.specs.Tables.{Tables, tables_read}
use Rattle.stp_domain.specs.Schemas.{schemas_read}
use Rattle.stp_refusal.specs.Phases.{unless_refused}
use Rattle.stp_domain.specs.Reading.{parts_phase, declarations_phase, tables_phase, schemas_phase, domain_of_tree, domain_or_refusal}

-- a phase that ended well found nothing
ended_well : (f : Option Offence) → ended f ≡ Ok tt → f ≡ None
ended_well None e = cc
ended_well (Some o) e = cc

-- what a phase refused is what the whole refuses
refused_as : {A : Type 0} (value : A) (f : Option Offence) (r : ReadFault) → ended f ≡ Err r → unless_refused value f ≡ Err r
refused_as value None r e = cc
refused_as value (Some o) r e = cc

same_or : (f g : Option Offence) (r : ReadFault) → ended f ≡ Err r → or_else f g ≡ f
same_or None g r e = cc
same_or (Some o) g r e = cc

past : (os : List Offence) (ps : List (List Offence)) (f : Option Offence) → f ≡ first_of os → ended f ≡ Ok tt → chosen (os ∷ ps) ≡ chosen ps
past os ps f h e = ap (λ g. or_else g (chosen ps)) (sym h ∙ ended_well f e)

here : (os : List Offence) (ps : List (List Offence)) (f : Option Offence) (r : ReadFault) → f ≡ first_of os → ended f ≡ Err r → chosen (os ∷ ps) ≡ f
here os ps f r h e = ap (λ g. or_else g (chosen ps)) (sym h) ∙ same_or f (chosen ps) r e

moved : {A B : Type 0} {old new : Option Offence} {b : B} (g : A → Read B) (x y : A) → x ≡ y → IsRead old new b (g x) → IsRead old new b (g y)
moved {old = old} {new = new} {b = b} g x y e h = subst (λ z. IsRead old new b (g z)) e h

abbrev schemas_with : Tables → Read (List PlainSchema)
schemas_with tables = schemas_read tables.known tables.actions

-- the offences from a phase on
abbrev from_fourth : Tree → List (List Offence)
from_fourth t = (schemas_phase t).offences ∷ []

abbrev from_third : Tree → List (List Offence)
from_third t = (tables_phase t).offences ∷ from_fourth t

abbrev from_second : Tree → List (List Offence)
from_second t = (declarations_phase t).offences ∷ from_third t

-- the domain that parts, tables and schemas make
abbrev pub made : Domain → Tables → List PlainSchema → PlainDomain
made parts tables schemas = let known = tables.known in record {
  name = parts.name;
  types = known.types;
  parents = known.parents;
  predicates = known.predicates;
  functions = known.functions;
  constants = known.objects;
  schemas = schemas;
}

module _ (t : Tree) (f1 : Option Offence) (parts : Domain) (h1 : IsRead None f1 parts (parts_phase t)) where
  pub refused_first : (r : ReadFault) → ended f1 ≡ Err r → domain_or_refusal t ≡ Err r
  refused_first r e = ap (unless_refused (domain_of_tree t)) (here (parts_phase t).offences (from_second t) f1 r h1.first e) ∙ refused_as (domain_of_tree t) f1 r e

  module _ (e1 : ended f1 ≡ Ok tt) (f2 : Option Offence) (d : Declarations) (h2 : IsRead None f2 d (declarations_read parts)) where
    second : IsRead None f2 d (declarations_phase t)
    second = moved declarations_read parts (parts_phase t).value h1.same h2

    pub refused_second : (r : ReadFault) → ended f2 ≡ Err r → domain_or_refusal t ≡ Err r
    refused_second r e = ap (unless_refused (domain_of_tree t)) (past (parts_phase t).offences (from_second t) f1 h1.first e1 ∙ here (declarations_phase t).offences (from_third t) f2 r second.first e) ∙ refused_as (domain_of_tree t) f2 r e

    module _ (e2 : ended f2 ≡ Ok tt) (f3 : Option Offence) (tables : Tables) (h3 : IsRead None f3 tables (tables_read d)) where
      third : IsRead None f3 tables (tables_phase t)
      third = moved tables_read d (declarations_phase t).value second.same h3

      pub refused_third : (r : ReadFault) → ended f3 ≡ Err r → domain_or_refusal t ≡ Err r
      refused_third r e = ap (unless_refused (domain_of_tree t)) (past (parts_phase t).offences (from_second t) f1 h1.first e1 ∙ past (declarations_phase t).offences (from_third t) f2 second.first e2 ∙ here (tables_phase t).offences (from_fourth t) f3 r third.first e) ∙ refused_as (domain_of_tree t) f3 r e

      module _ (e3 : ended f3 ≡ Ok tt) (f4 : Option Offence) (schemas : List PlainSchema) (h4 : IsRead None f4 schemas (schemas_read tables.known tables.actions)) where
        fourth : IsRead None f4 schemas (schemas_phase t)
        fourth = moved schemas_with tables (tables_phase t).value third.same h4

        pub refused_fourth : (r : ReadFault) → ended f4 ≡ Err r → domain_or_refusal t ≡ Err r
        refused_fourth r e = ap (unless_refused (domain_of_tree t)) (past (parts_phase t).offences (from_second t) f1 h1.first e1 ∙ past (declarations_phase t).offences (from_third t) f2 second.first e2 ∙ past (tables_phase t).offences (from_fourth t) f3 third.first e3 ∙ here (schemas_phase t).offences [] f4 r fourth.first e) ∙ refused_as (domain_of_tree t) f4 r e

        pub accepted : ended f4 ≡ Ok tt → domain_or_refusal t ≡ Ok (made parts tables schemas)
        accepted e =
            ap (unless_refused (domain_of_tree t)) (past (parts_phase t).offences (from_second t) f1 h1.first e1 ∙ past (declarations_phase t).offences (from_third t) f2 second.first e2 ∙ past (tables_phase t).offences (from_fourth t) f3 third.first e3 ∙ past (schemas_phase t).offences [] f4 fourth.first e)
            ∙ sym (ap (λ p. Ok (made p tables schemas)) h1.same ∙ ap (λ tb. Ok (made (parts_phase t).value tb schemas)) third.same ∙ ap (λ ss. Ok (made (parts_phase t).value (tables_phase t).value ss)) fourth.same)
