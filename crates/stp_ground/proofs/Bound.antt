-- The objects of names, one after the other.
use Rattle.std.proofs.Common.{◌≡◌, ℕ, ◌+◌, ◌<◌, ◌≤◌, List, [], ◌∷◌, ◌++◌, length, drop, get_or, Result, Ok, Err, refl, ap, ap₂, sym, ◌∙◌, append_assoc}
use Rattle.std.proofs.lemmas.List.{append-nil, drop_more, drop_all}
use Rattle.stp_schema.specs.Views.{PlainProblem}
use Rattle.stp_ground.specs.declared.fault.InstanceFault.{InstanceFault}
use Rattle.stp_base.specs.Results.{◌>>=◌}
use Rattle.stp_ground.specs.Chosen.{argument, arguments}

-- objects, and then those that are left
abbrev pub joined : List ℕ → Result (List ℕ) InstanceFault → Result (List ℕ) InstanceFault
joined objects left = left >>= (λ others. Ok (objects ++ others))

joined_next : (objects : List ℕ) (one : ℕ) (left : Result (List ℕ) InstanceFault) → joined objects (left >>= (λ others. Ok (one ∷ others))) ≡ joined (objects ++ one ∷ []) left
joined_next objects one (Ok others) = ap Ok (sym (append_assoc objects (one ∷ []) others))
joined_next objects one (Err fault) = refl

module _ (p : PlainProblem) (kinds : List ℕ) (names : List (List ℕ)) (i kind : ℕ) (name : List ℕ) (h : i < length kinds) (k : i < length names) (is : get_or kinds i kind ≡ kind) (named : get_or names i name ≡ name) where
  left_is : arguments p (drop i kinds) (drop i names) ≡ (argument p kind name >>= (λ one. arguments p (drop (i + 1) kinds) (drop (i + 1) names) >>= (λ others. Ok (one ∷ others))))
  left_is =
      ap₂ (arguments p) (drop_more kinds i kind h) (drop_more names i name k)
      ∙ ap₂ (λ a b. arguments p (a ∷ drop (i + 1) kinds) (b ∷ drop (i + 1) names)) is named

  -- one more object
  pub bound_next : (objects : List ℕ) (one : ℕ) (total : Result (List ℕ) InstanceFault) → argument p kind name ≡ Ok one → joined objects (arguments p (drop i kinds) (drop i names)) ≡ total → joined (objects ++ one ∷ []) (arguments p (drop (i + 1) kinds) (drop (i + 1) names)) ≡ total
  bound_next objects one total e so_far =
      let rest = arguments p (drop (i + 1) kinds) (drop (i + 1) names) in
      sym (joined_next objects one rest)
      ∙ ap (joined objects) (sym (left_is ∙ ap (λ r. r >>= (λ o. rest >>= (λ others. Ok (o ∷ others)))) e))
      ∙ so_far

  -- one that does not fit
  pub bound_fault : (objects : List ℕ) (fault : InstanceFault) (total : Result (List ℕ) InstanceFault) → argument p kind name ≡ Err fault → joined objects (arguments p (drop i kinds) (drop i names)) ≡ total → total ≡ Err fault
  bound_fault objects fault total e so_far =
      let rest = arguments p (drop (i + 1) kinds) (drop (i + 1) names) in
      sym so_far ∙ ap (joined objects) (left_is ∙ ap (λ r. r >>= (λ o. rest >>= (λ others. Ok (o ∷ others)))) e)

pub bound_none : (left : Result (List ℕ) InstanceFault) → joined [] left ≡ left
bound_none (Ok others) = refl
bound_none (Err fault) = refl

pub bound_done : (p : PlainProblem) (kinds : List ℕ) (names : List (List ℕ)) (i : ℕ) (objects : List ℕ) (total : Result (List ℕ) InstanceFault) → length kinds ≤ i → joined objects (arguments p (drop i kinds) (drop i names)) ≡ total → total ≡ Ok objects
bound_done p kinds names i objects total h so_far =
    sym so_far
    ∙ ap (λ l. joined objects (arguments p l (drop i names))) (drop_all i kinds h)
    ∙ ap Ok (append-nil objects)
