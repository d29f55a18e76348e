-- Steps of one action have the same name and arguments.
use Rattle.std.proofs.Common.{◌≡◌, ℕ, ◌==◌, Bool, true, false, if◌then◌else◌, List, [], ◌∷◌, length, map, Option, Some, None, Result, Ok, Err, IfOk, refl, sym, ap, ap₂, ◌∙◌, subst, arith, bytes_eq}
use Rattle.std.specs.Prelude.{ok_or, slice_get}
use Rattle.std.proofs.lemmas.Bool.Decides.{nat_tests}
use Rattle.stp_frac.proofs.Divisors.{left_true, right_true}
use Rattle.stp_tables.specs.Names.{number_of}
use Rattle.stp_tables.proofs.FirstSight.{found_at}
use Rattle.stp_tables.proofs.NameKeys.{names_same}
use Rattle.stp_schema.specs.Rows.{thing_names}
use Rattle.stp_schema.specs.Schemas.{PlainSchema}
use Rattle.stp_schema.specs.Views.{PlainProblem}
use Rattle.stp_task.specs.Durations.{PlainDuration}
use Rattle.stp_instance.specs.Timings.{duration_of}
use Rattle.stp_base.specs.Results.{◌>>=◌}
use Rattle.stp_ground.specs.Problems.{below}
use Rattle.stp_ground.specs.Chosen.{PlainChosen, argument, arguments, bound, chosen_by, chosen_under, fitting}
use Rattle.stp_ground.specs.declared.fault.InstanceFault.{InstanceFault}
use Rattle.stp_ground.specs.declared.fault.InstanceFault.TheVariants.{UnknownAction, WrongCount, UnknownObject, WrongType, NoDuration}
use Rattle.stp_exec.specs.Laws.{OneActionHasSameWords}
use Rattle.stp_exec.proofs.PlacedSteps.{choice_is}

not_ok : {A E : Type 0} (fault : E) (x : A) → Err fault ≡ Ok x → ⊥
not_ok fault x e = cc

-- ---- names of one number are one name

one_word : (words : List (List ℕ)) (one other : List ℕ) (n m : ℕ) → number_of words one ≡ Some n → number_of words other ≡ Some m → n ≡ m → one ≡ other
one_word words one other n m e f same =
    let a = found_at bytes_eq names_same words one n e in
    let b = found_at bytes_eq names_same words other m f in
    some_same one other (sym a ∙ ap (slice_get words) same ∙ b)
  where
    some_same : (x y : List ℕ) → Some x ≡ Some y → x ≡ y
    some_same x y e = cc

-- ---- arguments

fitted : (b : Bool) (object one : ℕ) → (if b then Ok object else Err WrongType) ≡ Ok one → object ≡ one
fitted true object one e = cc
fitted false object one e = absurd (not_ok WrongType one e)

module _ (p : PlainProblem) where
  argued : (kind : ℕ) (found : Option ℕ) (one : ℕ) → (ok_or found UnknownObject >>= fitting p kind) ≡ Ok one → found ≡ Some one
  argued kind None one e = absurd (not_ok UnknownObject one e)
  argued kind (Some object) one e = ap Some (fitted _ object one e)

  -- the object of an argument and those of the arguments behind it
  taken : (r : Result ℕ InstanceFault) (rs : Result (List ℕ) InstanceFault) (objects : List ℕ) → (r >>= (λ one. rs >>= (λ others. Ok (one ∷ others)))) ≡ Ok objects → (one : ℕ) × ((others : List ℕ) × ((r ≡ Ok one) × ((rs ≡ Ok others) × (objects ≡ one ∷ others))))
  taken (Ok one) (Ok others) objects e = (one, (others, (refl, (refl, cc))))
  taken (Ok one) (Err fault) objects e = absurd (not_ok fault objects e)
  taken (Err fault) rs objects e = absurd (not_ok fault objects e)

  same_arguments : (kinds : List ℕ) (names others : List (List ℕ)) (objects : List ℕ) → length kinds ≡ length names → length kinds ≡ length others → arguments p kinds names ≡ Ok objects → arguments p kinds others ≡ Ok objects → names ≡ others
  same_arguments [] [] [] objects h k e f = refl
  same_arguments [] [] (other ∷ others) objects h k e f = absurd (omega (arith, k))
  same_arguments [] (name ∷ names) others objects h k e f = absurd (omega (arith, h))
  same_arguments (kind ∷ kinds) [] others objects h k e f = absurd (omega (arith, h))
  same_arguments (kind ∷ kinds) (name ∷ names) [] objects h k e f = absurd (omega (arith, k))
  same_arguments (kind ∷ kinds) (name ∷ names) (other ∷ others) objects h k e f =
      let a = taken (argument p kind name) (arguments p kinds names) objects e in
      let b = taken (argument p kind other) (arguments p kinds others) objects f in
      let heads = head_same a.0 b.0 a.1.0 b.1.0 (sym a.1.1.1.1 ∙ b.1.1.1.1) in
      let tails = tail_same a.0 b.0 a.1.0 b.1.0 (sym a.1.1.1.1 ∙ b.1.1.1.1) in
      let one = one_word (thing_names p.objects) name other a.0 b.0 (argued kind (number_of (thing_names p.objects) name) a.0 a.1.1.0) (argued kind (number_of (thing_names p.objects) other) b.0 b.1.1.0) heads in
      let rest = same_arguments kinds names others a.1.0 (omega (arith, h)) (omega (arith, k)) a.1.1.1.0 (b.1.1.1.0 ∙ ap Ok (sym tails)) in
      ap₂ (λ x xs. x ∷ xs) one rest
    where
      head_same : (x y : ℕ) (xs ys : List ℕ) → x ∷ xs ≡ y ∷ ys → x ≡ y
      head_same x y xs ys e = cc

      tail_same : (x y : ℕ) (xs ys : List ℕ) → x ∷ xs ≡ y ∷ ys → xs ≡ ys
      tail_same x y xs ys e = cc

  counted : (b : Bool) (r : Result (List ℕ) InstanceFault) (objects : List ℕ) → (if b then r else Err WrongCount) ≡ Ok objects → (b ≡ true) × (r ≡ Ok objects)
  counted true r objects e = (refl, e)
  counted false r objects e = absurd (not_ok WrongCount objects e)

  same_bound : (kinds : List ℕ) (names others : List (List ℕ)) (objects : List ℕ) → bound p kinds names ≡ Ok objects → bound p kinds others ≡ Ok objects → names ≡ others
  same_bound kinds names others objects e f =
      let a = counted (length kinds == length names) (arguments p kinds names) objects e in
      let b = counted (length kinds == length others) (arguments p kinds others) objects f in
      let ea = a.0 in
      let eb = b.0 in
      same_arguments kinds names others objects (grind (arith, nat_tests, ea)) (grind (arith, nat_tests, eb)) a.1 b.1

  -- ---- what a name and arguments choose

  -- the schema of a choice has the name, and its objects are those of the arguments
  abbrev IsMadeOf : List ℕ → List (List ℕ) → PlainChosen → Type 0
  IsMadeOf name names c = (schema : PlainSchema) × ((number_of (map (λ s. s.name) p.domain.schemas) name ≡ Some c.schema) × ((slice_get p.domain.schemas c.schema ≡ Some schema) × (bound p schema.parameters names ≡ Ok c.args)))

  module _ (name : List ℕ) (names : List (List ℕ)) where
    abbrev lasting_of : ℕ × PlainSchema → List ℕ → Option PlainDuration → Result PlainChosen InstanceFault
    lasting_of schema objects lasting = ok_or lasting NoDuration >>= (λ d. Ok (chosen_under (below p) schema.0 schema.1 objects d))

    abbrev objects_of : ℕ × PlainSchema → Result (List ℕ) InstanceFault → Result PlainChosen InstanceFault
    objects_of schema objects = objects >>= (λ o. lasting_of schema o (duration_of p.values o schema.1.timing))

    made_lasting : (number : ℕ) (schema : PlainSchema) (objects : List ℕ) → number_of (map (λ s. s.name) p.domain.schemas) name ≡ Some number → slice_get p.domain.schemas number ≡ Some schema → bound p schema.parameters names ≡ Ok objects → (d : Option PlainDuration) → IfOk (lasting_of (number, schema) objects d) (IsMadeOf name names)
    made_lasting number schema objects e f g (Some d) = (schema, (e, (f, g)))
    made_lasting number schema objects e f g None = tt

    made_bound : (number : ℕ) (schema : PlainSchema) → number_of (map (λ s. s.name) p.domain.schemas) name ≡ Some number → slice_get p.domain.schemas number ≡ Some schema → (r : Result (List ℕ) InstanceFault) → bound p schema.parameters names ≡ r → IfOk (objects_of (number, schema) r) (IsMadeOf name names)
    made_bound number schema e f (Ok objects) g = made_lasting number schema objects e f g (duration_of p.values objects schema.timing)
    made_bound number schema e f (Err fault) g = tt

    abbrev schema_of : ℕ → Option PlainSchema → Result (ℕ × PlainSchema) InstanceFault
    schema_of number found = ok_or found UnknownAction >>= (λ schema. Ok (number, schema))

    abbrev chosen_of : Result (ℕ × PlainSchema) InstanceFault → Result PlainChosen InstanceFault
    chosen_of r = r >>= (λ schema. objects_of schema (bound p schema.1.parameters names))

    made_schema : (number : ℕ) → number_of (map (λ s. s.name) p.domain.schemas) name ≡ Some number → (found : Option PlainSchema) → slice_get p.domain.schemas number ≡ found → IfOk (chosen_of (schema_of number found)) (IsMadeOf name names)
    made_schema number e None f = tt
    made_schema number e (Some schema) f = made_bound number schema e f (bound p schema.parameters names) refl

    made_named : (found : Option ℕ) → number_of (map (λ s. s.name) p.domain.schemas) name ≡ found → IfOk (chosen_of (ok_or found UnknownAction >>= (λ number. schema_of number (slice_get p.domain.schemas number)))) (IsMadeOf name names)
    made_named None e = tt
    made_named (Some number) e = made_schema number e (slice_get p.domain.schemas number) refl

    made_of : (c : PlainChosen) → chosen_by p name names ≡ Ok c → IsMadeOf name names c
    made_of c e = subst (λ (r : Result PlainChosen InstanceFault). IfOk r (IsMadeOf name names)) e (made_named (number_of (map (λ s. s.name) p.domain.schemas) name) refl)

  same_words : (name other : List ℕ) (names others : List (List ℕ)) (c d : PlainChosen) → chosen_by p name names ≡ Ok c → chosen_by p other others ≡ Ok d → c.schema ≡ d.schema → c.args ≡ d.args → (name ≡ other) × (names ≡ others)
  same_words name other names others c d e f schemas args =
      let a = made_of name names c e in
      let b = made_of other others d f in
      let schema = some_schema a.0 b.0 (sym a.1.1.0 ∙ ap (slice_get p.domain.schemas) schemas ∙ b.1.1.0) in (
        one_word (map (λ s. s.name) p.domain.schemas) name other c.schema d.schema a.1.0 b.1.0 schemas,
        same_bound b.0.parameters names others d.args (ap (λ (s : PlainSchema). bound p s.parameters names) (sym schema) ∙ a.1.1.1 ∙ ap Ok args) b.1.1.1,
      )
    where
      some_schema : (x y : PlainSchema) → Some x ≡ Some y → x ≡ y
      some_schema x y e = cc

same_number : (n m : ℕ) → (n == m) ≡ true → n ≡ m
same_number n m e = grind (arith, nat_tests, e)

pub one_action_has_same_words : OneActionHasSameWords
one_action_has_same_words p i j s t x y e f same =
    same_words p s.name t.name s.args t.args x.chosen y.chosen (choice_is p i s x e) (choice_is p j t y f)
    (same_number x.chosen.schema y.chosen.schema (left_true (x.chosen.schema == y.chosen.schema) (bytes_eq x.chosen.args y.chosen.args) same))
    (names_same x.chosen.args y.chosen.args (right_true (x.chosen.schema == y.chosen.schema) (bytes_eq x.chosen.args y.chosen.args) same))
