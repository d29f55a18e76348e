-- What a name and arguments choose is an instance of a schema with objects of its types.
use Rattle.std.proofs.Common.{◌≡◌, ℕ, ◌<◌, ◌==◌, Bool, true, false, if◌then◌else◌, List, [], ◌∷◌, ◌++◌, length, map, Option, Some, None, Result, Ok, Err, IfOk, Contains, inl, inr, refl, sym, subst, arith, eqb-true}
use Rattle.std.specs.Prelude.{bytes_eq, slice_get, slice_index}
use Rattle.std.specs.Option.{ok_or}
use Rattle.std.specs.List.{flat_map}
use Rattle.std.proofs.lemmas.List.{length-map}
use Rattle.std.proofs.lemmas.List.Quantifiers.{position-Some}
use Rattle.stp_base.specs.Results.{◌>>=◌}
use Rattle.stp_types.specs.Forest.{is_below}
use Rattle.stp_schema.specs.Rows.{Thing, thing_names}
use Rattle.stp_schema.specs.Schemas.{PlainSchema}
use Rattle.stp_schema.specs.Views.{PlainProblem}
use Rattle.stp_tables.specs.Names.{number_of}
use Rattle.stp_happen.proofs.Members.{here, member_cases, member_map, member_nil, there}
use Rattle.stp_task.specs.Durations.{PlainDuration}
use Rattle.stp_instance.specs.Expanded.{bindings_of}
use Rattle.stp_instance.specs.Timings.{duration_of}
use Rattle.stp_instance.proofs.Ranges.{members_range}
use Rattle.stp_ground.specs.declared.fault.InstanceFault.{InstanceFault}
use Rattle.stp_ground.specs.declared.fault.InstanceFault.TheVariants.{UnknownAction, UnknownObject, WrongCount, WrongType, NoDuration}
use Rattle.stp_ground.specs.Problems.{below}
use Rattle.stp_ground.specs.Chosen.{PlainChosen, argument, arguments, bound, chosen_by, chosen_under, fitting, named}

-- ---- members of lists that are joined

pub member_left : {X : Type 0} (xs ys : List X) (x : X) → Contains xs x → Contains (xs ++ ys) x
member_left [] ys x i = absurd (member_nil x i)
member_left (y ∷ xs) ys x i =
    elim (member_cases y xs x i) [ inl e ↦ subst (λ z. Contains (y ∷ (xs ++ ys)) z) e (here y (xs ++ ys)) | inr j ↦ there y (xs ++ ys) x (member_left xs ys x j) ]

pub member_right : {X : Type 0} (xs ys : List X) (x : X) → Contains ys x → Contains (xs ++ ys) x
member_right [] ys x i = i
member_right (y ∷ xs) ys x i = there y (xs ++ ys) x (member_right xs ys x i)

pub member_flat : {X Y : Type 0} (f : X → List Y) (xs : List X) (x : X) (y : Y) → Contains xs x → Contains (f x) y → Contains (flat_map f xs) y
member_flat f [] x y i j = absurd (member_nil x i)
member_flat f (z ∷ zs) x y i j =
    elim (member_cases z zs x i) [
      | inl e ↦ member_left (f z) (flat_map f zs) y (subst (λ u. Contains (f u) y) (sym e) j)
      | inr k ↦ member_right (f z) (flat_map f zs) y (member_flat f zs x y k j)
    ]

-- ---- objects

-- what an option gives, if it gives anything
pub given : {A : Type 0} (o : Option A) (fault : InstanceFault) (P : A → Type 0) → ((x : A) → o ≡ Some x → P x) → IfOk (ok_or o fault) P
given (Some x) fault P h = h x refl
given None fault P h = tt

-- going on where there is something
pub going_on : {A B : Type 0} (r : Result A InstanceFault) (f : A → Result B InstanceFault) (P : B → Type 0) → ((x : A) → r ≡ Ok x → IfOk (f x) P) → IfOk (r >>= f) P
going_on (Ok x) f P h = h x refl
going_on (Err fault) f P h = tt

pub of_ok : {A : Type 0} (r : Result A InstanceFault) (x : A) (P : A → Type 0) → r ≡ Ok x → IfOk r P → P x
of_ok r x P e h = subst (λ s. IfOk s P) e h

ok_at : {A : Type 0} (o : Option A) (fault : InstanceFault) (x : A) → ok_or o fault ≡ Ok x → o ≡ Some x
ok_at o fault x e = of_ok (ok_or o fault) x (λ y. o ≡ Some y) e (given o fault (λ y. o ≡ Some y) (λ y s. s))

module _ (p : PlainProblem) where
  fits_if : (kind object : ℕ) (b : Bool) → is_below p.domain.parents (slice_index (map (λ (o : Thing). o.kind) p.objects) object) kind ≡ b → object < length p.objects → IfOk (if b then Ok object else Err WrongType) (Contains (below p kind))
  fits_if kind object true e h = (members_range p.domain.parents p.objects kind object).1 (h, e)
  fits_if kind object false e h = tt

  object_there : (name : List ℕ) (object : ℕ) → number_of (thing_names p.objects) name ≡ Some object → object < length p.objects
  object_there name object e =
      let first = position-Some (bytes_eq name) (thing_names p.objects) object [] e in
      let within : object < length (thing_names p.objects) = first.0 in
      let len : length (thing_names p.objects) ≡ length p.objects = length-map p.objects (λ (t : Thing). t.name) in
      omega (arith, within, len)

  argument_fits : (kind : ℕ) (name : List ℕ) → IfOk (argument p kind name) (Contains (below p kind))
  argument_fits kind name =
      going_on (ok_or (number_of (thing_names p.objects) name) UnknownObject) (fitting p kind) (Contains (below p kind))
      (λ object e. fits_if kind object (is_below p.domain.parents (slice_index (map (λ (o : Thing). o.kind) p.objects) object) kind) refl (object_there name object (ok_at (number_of (thing_names p.objects) name) UnknownObject object e)))

  next_binding : (kind object : ℕ) (kinds objects : List ℕ) → Contains (below p kind) object → Contains (bindings_of (below p) kinds) objects → Contains (bindings_of (below p) (kind ∷ kinds)) (object ∷ objects)
  next_binding kind object kinds objects i j =
      member_flat (λ object. map (λ others. object ∷ others) (bindings_of (below p) kinds)) (below p kind) object (object ∷ objects) i
      (member_map (λ others. object ∷ others) (bindings_of (below p) kinds) objects j)

  arguments_fit : (kinds : List ℕ) (names : List (List ℕ)) → length kinds ≡ length names → IfOk (arguments p kinds names) (Contains (bindings_of (below p) kinds))
  arguments_fit [] names len = here [] []
  arguments_fit (kind ∷ kinds) [] len = absurd (omega (arith, len))
  arguments_fit (kind ∷ kinds) (name ∷ names) len =
      going_on (argument p kind name) (λ one. arguments p kinds names >>= (λ others. Ok (one ∷ others))) (Contains (bindings_of (below p) (kind ∷ kinds)))
      (λ one e. going_on (arguments p kinds names) (λ others. Ok (one ∷ others)) (Contains (bindings_of (below p) (kind ∷ kinds)))
      (λ others f. next_binding kind one kinds others
      (of_ok (argument p kind name) one (Contains (below p kind)) e (argument_fits kind name))
      (of_ok (arguments p kinds names) others (Contains (bindings_of (below p) kinds)) f (arguments_fit kinds names (omega (arith, len))))))

  bound_if : (kinds : List ℕ) (names : List (List ℕ)) (b : Bool) → (length kinds == length names) ≡ b → IfOk (if b then arguments p kinds names else Err WrongCount) (Contains (bindings_of (below p) kinds))
  bound_if kinds names true e = arguments_fit kinds names (eqb-true (length kinds) (length names) e)
  bound_if kinds names false e = tt

  -- objects that are bound are of the types
  pub bound_fits : (kinds : List ℕ) (names : List (List ℕ)) → IfOk (bound p kinds names) (Contains (bindings_of (below p) kinds))
  bound_fits kinds names = bound_if kinds names (length kinds == length names) refl

  -- ---- schemas

  abbrev Stands : ℕ × PlainSchema → Type 0
  Stands s = slice_get p.domain.schemas s.0 ≡ Some s.1

  named_stands : (name : List ℕ) → IfOk (named p name) Stands
  named_stands name =
      going_on (ok_or (number_of (map (λ (s : PlainSchema). s.name) p.domain.schemas) name) UnknownAction) (λ number. ok_or (slice_get p.domain.schemas number) UnknownAction >>= (λ schema. Ok (number, schema))) Stands
      (λ number e. going_on (ok_or (slice_get p.domain.schemas number) UnknownAction) (λ schema. Ok (number, schema)) Stands
      (λ schema f. ok_at (slice_get p.domain.schemas number) UnknownAction schema f))

-- what is chosen: a schema of the problem at its number, with objects of its types, and a duration
pub record IsChoice (p : PlainProblem) (c : PlainChosen) : Type 0 where
  pub number : ℕ
  pub schema : PlainSchema
  pub objects : List ℕ
  pub lasting : PlainDuration
  pub is : chosen_under (below p) number schema objects lasting ≡ c
  pub stands : slice_get p.domain.schemas number ≡ Some schema
  pub typed : Contains (bindings_of (below p) schema.parameters) objects
  pub lasts : duration_of p.values objects schema.timing ≡ Some lasting

module _ (p : PlainProblem) (name : List ℕ) (names : List (List ℕ)) where
  abbrev with_objects : ℕ → PlainSchema → List ℕ → Result PlainChosen InstanceFault
  with_objects number schema objects = ok_or (duration_of p.values objects schema.timing) NoDuration >>= (λ lasting. Ok (chosen_under (below p) number schema objects lasting))

  choices : IfOk (chosen_by p name names) (IsChoice p)
  choices =
      going_on (named p name) (λ schema. bound p schema.1.parameters names >>= (λ objects. with_objects schema.0 schema.1 objects)) (IsChoice p)
      (λ s e. going_on (bound p s.1.parameters names) (with_objects s.0 s.1) (IsChoice p)
      (λ objects f. going_on (ok_or (duration_of p.values objects s.1.timing) NoDuration) (λ lasting. Ok (chosen_under (below p) s.0 s.1 objects lasting)) (IsChoice p)
      (λ lasting g. record {
        number = s.0;
        schema = s.1;
        objects = objects;
        lasting = lasting;
        is = refl;
        stands = of_ok (named p name) s (Stands p) e (named_stands p name);
        typed = of_ok (bound p s.1.parameters names) objects (Contains (bindings_of (below p) s.1.parameters)) f (bound_fits p s.1.parameters names);
        lasts = ok_at (duration_of p.values objects s.1.timing) NoDuration lasting g;
      })))

  pub choice : (c : PlainChosen) → chosen_by p name names ≡ Ok c → IsChoice p c
  choice c e = of_ok (chosen_by p name names) c (IsChoice p) e choices
