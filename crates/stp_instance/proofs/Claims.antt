-- What a condition over ground atoms in an arena stands for at each variant.
use Rattle.std.proofs.Common.{◌≡◌, ℕ, List, [], ◌∷◌, ◌++◌, map, Bor, refl, ap, sym, ◌∙◌}
use Rattle.stp_base.specs.declared.ids.ObjectId.{ObjectId}
use Rattle.stp_schema.specs.declared.lifted.Term.{Term}
use Rattle.stp_schema.specs.declared.lifted.LiftedAtom.{LiftedAtom}
use Rattle.stp_schema.specs.declared.lifted.Lifted.{Lifted}
use Rattle.stp_schema.specs.declared.lifted.Lifted.TheVariants as lifted
use Rattle.stp_schema.specs.Formula.{formula, formulas_of}
use Rattle.stp_schema.proofs.Equations.{formula_atom, formula_same, formula_not, formula_and, formula_or, formula_every, formula_any}
use Rattle.stp_tables.specs.Atoms.{atom_with}
use Rattle.stp_instance.specs.Bindings.{numbers_of, object_of, objects_of}
use Rattle.stp_instance.specs.declared.ground.Ground.{Ground}
use Rattle.stp_instance.specs.declared.ground.Ground.TheOpen.{Ground-F}
use Rattle.stp_instance.specs.declared.ground.Ground.TheVariants.{Fact, Same, Opposite, Every, Any, rolls-Fact, rolls-Same, rolls-Opposite, rolls-Every, rolls-Any}
use Rattle.stp_instance.specs.declared.ground.Ground.TheFolds.{fold-roll-Ground}
use Rattle.stp_instance.specs.Expanded.{Claim, Stated, Alike, Denied, AllOf, AnyOf, Also, claims_of, bindings_of, expanded, expanded_all}
use Rattle.stp_instance.specs.Views.{claim, claim_step}

pub claim_fact : (predicate : ℕ) (args : Bor (List ObjectId)) → claim (Fact predicate args) ≡ Stated (atom_with predicate args.now)
claim_fact predicate args = ap claim (sym (rolls-Fact predicate args)) ∙ fold-roll-Ground Claim claim_step (Ground-F.Fact predicate args)

pub claim_same : (one other : ObjectId) → claim (Same one other) ≡ Alike one.0 other.0
claim_same one other = ap claim (sym (rolls-Same one other)) ∙ fold-roll-Ground Claim claim_step (Ground-F.Same one other)

pub claim_opposite : (inner : Bor Ground) → claim (Opposite inner) ≡ Denied (claim inner.now)
claim_opposite inner = ap claim (sym (rolls-Opposite inner)) ∙ fold-roll-Ground Claim claim_step (Ground-F.Opposite inner)

pub claim_every : (members : Bor (List Ground)) → claim (Every members) ≡ AllOf (claims_of (map claim members.now))
claim_every members = ap claim (sym (rolls-Every members)) ∙ fold-roll-Ground Claim claim_step (Ground-F.Every members)

pub claim_any : (members : Bor (List Ground)) → claim (Any members) ≡ AnyOf (claims_of (map claim members.now))
claim_any members = ap claim (sym (rolls-Any members)) ∙ fold-roll-Ground Claim claim_step (Ground-F.Any members)

-- ---- members

pub expanded_members : (below : ℕ → List ℕ) (binding : List ℕ) (conds : List Lifted) → expanded_all below binding (formulas_of (map formula conds)) ≡ claims_of (map (λ c. expanded below binding (formula c)) conds)
expanded_members below binding [] = refl
expanded_members below binding (c ∷ cs) = ap (Also (expanded below binding (formula c))) (expanded_members below binding cs)

-- ---- what is made of a condition at each variant

module _ (below : ℕ → List ℕ) (binding : List ℕ) (cond : Lifted) where
  pub of_atom : (atom : LiftedAtom) (args : Bor (List ObjectId)) → cond ≡ lifted.Atom atom → numbers_of args.now ≡ objects_of binding atom.terms.now → claim (Fact atom.symbol args) ≡ expanded below binding (formula cond)
  of_atom atom args is e =
      claim_fact atom.symbol args
      ∙ ap (λ l. Stated (record { predicate = atom.symbol; args = l })) e
      ∙ sym (ap (expanded below binding) (ap formula is ∙ formula_atom atom))

  pub of_same : (one other : Term) (first second : ObjectId) → cond ≡ lifted.Same one other → first.0 ≡ object_of binding one → second.0 ≡ object_of binding other → claim (Same first second) ≡ expanded below binding (formula cond)
  of_same one other first second is e f =
      claim_same first second
      ∙ ap (λ n. Alike n second.0) e
      ∙ ap (Alike (object_of binding one)) f
      ∙ sym (ap (expanded below binding) (ap formula is ∙ formula_same one other))

  pub of_not : (inner : Bor Lifted) (made : Bor Ground) → cond ≡ lifted.Not inner → claim made.now ≡ expanded below binding (formula inner.now) → claim (Opposite made) ≡ expanded below binding (formula cond)
  of_not inner made is e = claim_opposite made ∙ ap Denied e ∙ sym (ap (expanded below binding) (ap formula is ∙ formula_not inner))

  pub of_and : (parts : Bor (List Lifted)) (made : Bor (List Ground)) → cond ≡ lifted.And parts → map claim made.now ≡ map (λ c. expanded below binding (formula c)) parts.now → claim (Every made) ≡ expanded below binding (formula cond)
  of_and parts made is e =
      claim_every made
      ∙ ap (λ l. AllOf (claims_of l)) e
      ∙ ap AllOf (sym (expanded_members below binding parts.now))
      ∙ sym (ap (expanded below binding) (ap formula is ∙ formula_and parts))

  pub of_or : (parts : Bor (List Lifted)) (made : Bor (List Ground)) → cond ≡ lifted.Or parts → map claim made.now ≡ map (λ c. expanded below binding (formula c)) parts.now → claim (Any made) ≡ expanded below binding (formula cond)
  of_or parts made is e =
      claim_any made
      ∙ ap (λ l. AnyOf (claims_of l)) e
      ∙ ap AnyOf (sym (expanded_members below binding parts.now))
      ∙ sym (ap (expanded below binding) (ap formula is ∙ formula_or parts))

  pub of_every : (kinds : Bor (List ℕ)) (body : Bor Lifted) (made : Bor (List Ground)) → cond ≡ lifted.Every kinds body → map claim made.now ≡ map (λ objects. expanded below (binding ++ objects) (formula body.now)) (bindings_of below kinds.now) → claim (Every made) ≡ expanded below binding (formula cond)
  of_every kinds body made is e =
      claim_every made
      ∙ ap (λ l. AllOf (claims_of l)) e
      ∙ sym (ap (expanded below binding) (ap formula is ∙ formula_every kinds body))

  pub of_any : (kinds : Bor (List ℕ)) (body : Bor Lifted) (made : Bor (List Ground)) → cond ≡ lifted.Any kinds body → map claim made.now ≡ map (λ objects. expanded below (binding ++ objects) (formula body.now)) (bindings_of below kinds.now) → claim (Any made) ≡ expanded below binding (formula cond)
  of_any kinds body made is e =
      claim_any made
      ∙ ap (λ l. AnyOf (claims_of l)) e
      ∙ sym (ap (expanded below binding) (ap formula is ∙ formula_any kinds body))
