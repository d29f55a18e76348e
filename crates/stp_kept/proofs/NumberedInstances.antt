-- The fluent atoms of instances, one instance after the other.
use Rattle.std.proofs.Common.{◌≡◌, ℕ, ◌+◌, ◌<◌, nat_lt, true, List, [], ◌∷◌, ◌++◌, length, map, drop, get_or, ap, sym, ◌∙◌, subst, append_assoc, length-append, arith}
use Rattle.std.proofs.lemmas.Bool.Decides.{nat_tests}
use Rattle.std.proofs.lemmas.List.{drop_more, map-append}
use Rattle.std.specs.List.{All}
use Rattle.std.proofs.lemmas.List.Elements.{All-append, All-cons, All-nil}
use Rattle.std.proofs.lemmas.List.Concat.{flat_map-cons}
use Rattle.stp_schema.specs.Views.{PlainProblem}
use Rattle.stp_tables.specs.Atoms.{Atom}
use Rattle.stp_instance.specs.Numbered.{IsGrown, with_atoms}
use Rattle.stp_instance.proofs.Gained.{with_atoms_grow}
use Rattle.stp_instance.proofs.Gathered.{with_both}
use Rattle.stp_ground.specs.Chosen.{PlainChosen}
use Rattle.stp_ground.specs.Ground.{atoms_of_chosen}
use Rattle.stp_kept.specs.declared.instance.Instance.{Instance}
use Rattle.stp_kept.specs.Instances.{chosen_of}
use Rattle.stp_kept.specs.KeptTasks.{atoms_of_instances}
use Rattle.stp_kept.specs.Views.{instance_view, instance_views}

module _ (p : PlainProblem) where
  atoms_more : (xs : List Instance) (i : ℕ) (x : Instance) → i < length xs → x ≡ get_or xs i x → atoms_of_instances p (instance_views (drop i xs)) ≡ atoms_of_chosen p (chosen_of p (instance_view x)) ++ atoms_of_instances p (instance_views (drop (i + 1) xs))
  atoms_more xs i x h is =
      ap (λ l. atoms_of_instances p (instance_views l)) (drop_more xs i x h)
      ∙ flat_map-cons (λ y. atoms_of_chosen p (chosen_of p y)) (instance_view (get_or xs i x)) (instance_views (drop (i + 1) xs))
      ∙ ap (λ y. atoms_of_chosen p (chosen_of p (instance_view y)) ++ atoms_of_instances p (instance_views (drop (i + 1) xs))) (sym is)

  pub numbered_more : (q : PlainProblem) (xs : List Instance) (i : ℕ) (x : Instance) (one : PlainChosen) (old now total : List Atom) → i < length xs → x ≡ get_or xs i x → q ≡ p → one ≡ chosen_of p (instance_view x) → now ≡ with_atoms old (atoms_of_chosen q one) → with_atoms old (atoms_of_instances p (instance_views (drop i xs))) ≡ total → with_atoms now (atoms_of_instances p (instance_views (drop (i + 1) xs))) ≡ total
  numbered_more q xs i x one old now total h is e c f so_far =
      let rest = atoms_of_instances p (instance_views (drop (i + 1) xs)) in
      ap (λ t. with_atoms t rest) (f ∙ ap (λ r. with_atoms old (atoms_of_chosen r one)) e ∙ ap (λ k. with_atoms old (atoms_of_chosen p k)) c)
      ∙ sym (with_both old (atoms_of_chosen p (chosen_of p (instance_view x))) rest)
      ∙ ap (with_atoms old) (sym (atoms_more xs i x h is))
      ∙ so_far

-- one more of what is made of items
pub made_more : {A B C D : Type 0} (view : A → C) (make : D → C) (source : B → D) (xs : List B) (i : ℕ) (x : B) (out new : List A) (one : A) (total : List C) → i < length xs → x ≡ get_or xs i x → view one ≡ make (source x) → new ≡ out ++ one ∷ [] → map view out ++ map make (map source (drop i xs)) ≡ total → map view new ++ map make (map source (drop (i + 1) xs)) ≡ total
made_more view make source xs i x out new one total h is c e so_far =
    let rest = map make (map source (drop (i + 1) xs)) in
    ap (λ l. l ++ rest) (ap (map view) e ∙ map-append view out (one ∷ []))
    ∙ append_assoc (map view out) (view one ∷ []) rest
    ∙ ap (λ y. map view out ++ (y ∷ rest)) (c ∙ ap (λ y. make (source y)) is)
    ∙ ap (λ l. map view out ++ map make (map source l)) (sym (drop_more xs i x h))
    ∙ so_far

-- there are too many already
pub too_many : (table more total : List Atom) → nat_lt 20000 (length table) ≡ true → with_atoms table more ≡ total → 20000 < length total
too_many table more total h e =
    let grown : IsGrown table (with_atoms table more) = with_atoms_grow table more in
    let len = ap length (sym e ∙ grown.1) ∙ length-append table grown.0 in
    let past : 20000 < length table = grind (arith, nat_tests) in
    omega (arith, len, past)

pub all_with : {X : Type 0} (P : X → Type 0) (old new : List X) (x : X) → new ≡ old ++ x ∷ [] → All P old → P x → All P new
all_with P old new x e all one = subst (All P) (sym e) (All-append P old (x ∷ []) all (All-cons P x [] one (All-nil P)))
