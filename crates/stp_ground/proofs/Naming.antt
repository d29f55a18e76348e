-- Schemas and objects by their names.
use Rattle.std.proofs.Common.{◌≡◌, ℕ, ◌<◌, Bool, if◌then◌else◌, List, [], ◌∷◌, length, map, get_or, Option, Some, None, Ok, Err, refl, ap, sym, ◌∙◌}
use Rattle.std.specs.Prelude.{ok_or, option_map, slice_get}
use Rattle.std.proofs.lemmas.Option.{slice_get-map, slice_get_read}
use Rattle.stp_tables.specs.Names.{number_of}
use Rattle.stp_schema.specs.declared.domain.Schema.{Schema}
use Rattle.stp_schema.specs.declared.problem.Problem.{Problem}
use Rattle.stp_schema.specs.declared.rows.ObjectRow.{ObjectRow}
use Rattle.stp_schema.specs.Rows.{object_names_of, parents_of, thing_names, thing_of}
use Rattle.stp_schema.specs.Schemas.{schema_names_of, schema_of}
use Rattle.stp_schema.specs.Views.{problem_of}
use Rattle.stp_types.specs.Forest.{is_below}
use Rattle.stp_instance.proofs.OfType.{kind_at}
use Rattle.stp_ground.specs.declared.fault.InstanceFault.TheVariants.{UnknownAction, UnknownObject, WrongType}
use Rattle.stp_base.specs.Results.{◌>>=◌}
use Rattle.stp_ground.specs.Chosen.{argument, fitting, named}

names_are : (schemas : List Schema) → map (λ s. s.name) (map schema_of schemas) ≡ schema_names_of schemas
names_are [] = refl
names_are (s ∷ rest) = ap (λ l. s.name.now ∷ l) (names_are rest)

things_are : (objects : List ObjectRow) → thing_names (map thing_of objects) ≡ object_names_of objects
things_are [] = refl
things_are (o ∷ rest) = ap (λ l. o.name.now ∷ l) (things_are rest)

module _ (problem : Problem) (name : List ℕ) where
  named_is : (found : Option ℕ) → found ≡ number_of (schema_names_of problem.domain.schemas.now) name → named (problem_of problem) name ≡ (ok_or found UnknownAction >>= (λ number. ok_or (slice_get (map schema_of problem.domain.schemas.now) number) UnknownAction >>= (λ schema. Ok (number, schema))))
  named_is found e =
      ap (λ o. ok_or o UnknownAction >>= (λ number. ok_or (slice_get (map schema_of problem.domain.schemas.now) number) UnknownAction >>= (λ schema. Ok (number, schema))))
      (ap (λ l. number_of l name) (names_are problem.domain.schemas.now) ∙ sym e)

  pub named_none : None ≡ number_of (schema_names_of problem.domain.schemas.now) name → named (problem_of problem) name ≡ Err UnknownAction
  named_none e = named_is None e

  pub named_some : (number : ℕ) (schema : Schema) → number < length problem.domain.schemas.now → schema ≡ get_or problem.domain.schemas.now number schema → Some number ≡ number_of (schema_names_of problem.domain.schemas.now) name → named (problem_of problem) name ≡ Ok (number, schema_of schema)
  named_some number schema h is e =
      named_is (Some number) e
      ∙ ap (λ o. ok_or o UnknownAction >>= (λ s. Ok (number, s)))
      (slice_get-map schema_of problem.domain.schemas.now number ∙ ap (option_map schema_of) (slice_get_read problem.domain.schemas.now (length problem.domain.schemas.now) number schema refl h is))

  module _ (kind : ℕ) where
    argument_is : (found : Option ℕ) → found ≡ number_of (object_names_of problem.objects.now) name → argument (problem_of problem) kind name ≡ (ok_or found UnknownObject >>= fitting (problem_of problem) kind)
    argument_is found e = ap (λ o. ok_or o UnknownObject >>= fitting (problem_of problem) kind) (ap (λ l. number_of l name) (things_are problem.objects.now) ∙ sym e)

    pub argument_none : None ≡ number_of (object_names_of problem.objects.now) name → argument (problem_of problem) kind name ≡ Err UnknownObject
    argument_none e = argument_is None e

    pub argument_some : (object : ℕ) (fits : Bool) → Some object ≡ number_of (object_names_of problem.objects.now) name → is_below (parents_of problem.domain.types.now) (kind_at problem.objects.now object) kind ≡ fits → argument (problem_of problem) kind name ≡ (if fits then Ok object else Err WrongType)
    argument_some object fits e f = argument_is (Some object) e ∙ ap (λ b. if b then Ok object else Err WrongType) f
