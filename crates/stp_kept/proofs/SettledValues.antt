-- The value of a condition at each variant, and of several conditions one after the other.
use Rattle.std.proofs.Common.{◌≡◌, ℕ, ◌+◌, ◌<◌, ◌≤◌, Bool, true, false, if◌then◌else◌, List, [], ◌∷◌, ◌++◌, length, map, drop, get_or, take, Bor, refl, ap, sym, ◌∙◌}
use Rattle.std.proofs.lemmas.List.{drop_more, drop_all, take_at}
use Rattle.stp_schema.specs.declared.lifted.LiftedAtom.{LiftedAtom}
use Rattle.stp_schema.specs.declared.lifted.Lifted.{Lifted}
use Rattle.stp_schema.specs.declared.lifted.Lifted.TheVariants as lifted
use Rattle.stp_schema.specs.Formula.{formula}
use Rattle.stp_schema.proofs.Equations.{formula_atom, formula_and, formula_or, formula_every, formula_any}
use Rattle.stp_tables.specs.Atoms.{Atom}
use Rattle.stp_cond.specs.declared.known.Three.{Three}
use Rattle.stp_cond.specs.declared.known.Three.TheVariants.{Yes, No, Unknown}
use Rattle.stp_cond.specs.Decided.{both, either, all_three, any_three}
use Rattle.stp_instance.specs.Bindings.{objects_of}
use Rattle.stp_instance.specs.Expanded.{Claim, Stated, claims_of, bindings_of, expanded}
use Rattle.stp_instance.specs.Turning.{Takes}
use Rattle.stp_instance.proofs.Claims.{expanded_members}
use Rattle.stp_kept.specs.Settled.{joint, joint_of, joint_of_none, settled, settled_all}

-- ---- several values

pub joint_none : (all : Bool) (t : Three) → joint all (joint_of_none all) t ≡ t
joint_none true t = refl
joint_none false t = refl

both_again : (a b c : Three) → both (both a b) c ≡ both a (both b c)
both_again Yes b c = refl
both_again No b c = refl
both_again Unknown Yes c = refl
both_again Unknown No c = refl
both_again Unknown Unknown Yes = refl
both_again Unknown Unknown No = refl
both_again Unknown Unknown Unknown = refl

either_again : (a b c : Three) → either (either a b) c ≡ either a (either b c)
either_again Yes b c = refl
either_again No b c = refl
either_again Unknown Yes c = refl
either_again Unknown No c = refl
either_again Unknown Unknown Yes = refl
either_again Unknown Unknown No = refl
either_again Unknown Unknown Unknown = refl

pub joint_again : (all : Bool) (a b : Three) (ts : List Three) → joint all (joint all a b) (joint_of all ts) ≡ joint all a (joint_of all (b ∷ ts))
joint_again true a b ts = both_again a b (all_three ts)
joint_again false a b ts = either_again a b (any_three ts)

both_yes : (a : Three) → both a Yes ≡ a
both_yes Yes = refl
both_yes No = refl
both_yes Unknown = refl

either_no : (a : Three) → either a No ≡ a
either_no Yes = refl
either_no No = refl
either_no Unknown = refl

pub joint_end : (all : Bool) (a : Three) → joint all a (joint_of all []) ≡ a
joint_end true a = both_yes a
joint_end false a = either_no a

module _ {X : Type 0} (value : X → Three) (all : Bool) where
  -- one more of them
  pub joint_more : (xs : List X) (i : ℕ) (x : X) (old one now total : Three) → i < length xs → x ≡ get_or xs i x → one ≡ value x → now ≡ joint all old one → joint all old (joint_of all (map value (drop i xs))) ≡ total → joint all now (joint_of all (map value (drop (i + 1) xs))) ≡ total
  joint_more xs i x old one now total h is e f so_far =
      ap (λ t. joint all t (joint_of all (map value (drop (i + 1) xs)))) (f ∙ ap (joint all old) e)
      ∙ joint_again all old (value x) (map value (drop (i + 1) xs))
      ∙ ap (λ y. joint all old (joint_of all (value y ∷ map value (drop (i + 1) xs)))) is
      ∙ ap (λ l. joint all old (joint_of all (map value l))) (sym (drop_more xs i x h))
      ∙ so_far

  pub joint_all : (xs : List X) (i : ℕ) (now total : Three) → length xs ≤ i → joint all now (joint_of all (map value (drop i xs))) ≡ total → now ≡ total
  joint_all xs i now total h so_far = sym (joint_end all now) ∙ ap (λ l. joint all now (joint_of all (map value l))) (sym (drop_all i xs h)) ∙ so_far

  -- no more of them counts
  pub joint_final : (rest : List X) (now total : Three) → ((other : Three) → joint all now other ≡ now) → joint all now (joint_of all (map value rest)) ≡ total → now ≡ total
  joint_final rest now total final so_far = sym (final (joint_of all (map value rest))) ∙ so_far

-- ---- bindings

-- one more binding
pub binding_more : (value : List ℕ → Three) (all taken : Bool) (left new : List (List ℕ)) (before binding bound : List ℕ) (old one now total : Three) → Takes taken left new before bound → taken ≡ true → before ≡ binding → one ≡ value bound → now ≡ joint all old one → joint all old (joint_of all (map (λ objects. value (binding ++ objects)) left)) ≡ total → joint all now (joint_of all (map (λ objects. value (binding ++ objects)) new)) ≡ total
binding_more value all true left new before binding bound old one now total takes e same is f so_far =
    ap (λ t. joint all t (joint_of all (map (λ objects. value (binding ++ objects)) new))) (f ∙ ap (joint all old) (is ∙ ap value (takes.2 ∙ ap (λ b. b ++ takes.0) same)))
    ∙ joint_again all old (value (binding ++ takes.0)) (map (λ objects. value (binding ++ objects)) new)
    ∙ ap (λ l. joint all old (joint_of all (map (λ objects. value (binding ++ objects)) l))) (sym takes.1)
    ∙ so_far
binding_more value all false left new before binding bound old one now total takes e same is f so_far = cc

-- no more binding
pub binding_all : (value : List ℕ → Three) (all taken : Bool) (left new : List (List ℕ)) (before binding bound : List ℕ) (now total : Three) → Takes taken left new before bound → taken ≡ false → joint all now (joint_of all (map (λ objects. value (binding ++ objects)) left)) ≡ total → now ≡ total
binding_all value all true left new before binding bound now total takes e so_far = cc
binding_all value all false left new before binding bound now total takes e so_far =
    sym (joint_end all now) ∙ ap (λ l. joint all now (joint_of all (map (λ objects. value (binding ++ objects)) l))) (sym takes.0) ∙ so_far

-- the same at the end of a list of objects
pub as_before : (mark : ℕ) (taken : Bool) (left new : List (List ℕ)) (before binding bound now : List ℕ) → Takes taken left new before bound → taken ≡ true → before ≡ binding → mark ≡ length binding → now ≡ take mark bound → now ≡ binding
as_before mark true left new before binding bound now takes e same m is =
    is ∙ ap (take mark) (takes.2 ∙ ap (λ b. b ++ takes.0) same) ∙ take_at binding takes.0 mark (sym m)
as_before mark false left new before binding bound now takes e same m is = cc

-- ---- conditions

-- the value of a static atom
pub static_value : (is_fluent : Bool) (known value : Three) → is_fluent ≡ false → value ≡ known → value ≡ (if is_fluent then Unknown else known)
static_value false known value e is = is
static_value true known value e is = cc

module _ (fluent : ℕ → Bool) (is_true : Atom → Bool) (below : ℕ → List ℕ) where
  -- the value of a condition under a binding
  abbrev pub value_under : List ℕ → Lifted → Three
  value_under binding cond = settled fluent is_true (expanded below binding (formula cond))

  values_of : {X : Type 0} (claim : X → Claim) (xs : List X) → settled_all fluent is_true (claims_of (map claim xs)) ≡ map (λ x. settled fluent is_true (claim x)) xs
  values_of claim [] = refl
  values_of claim (x ∷ xs) = ap (λ l. settled fluent is_true (claim x) ∷ l) (values_of claim xs)

  module _ (binding : List ℕ) (cond : Lifted) where
    pub of_atom : (atom : LiftedAtom) → cond ≡ lifted.Atom atom → settled fluent is_true (Stated (record { predicate = atom.symbol; args = objects_of binding atom.terms.now })) ≡ value_under binding cond
    of_atom atom is = ap (λ g. settled fluent is_true (expanded below binding g)) (sym (ap formula is ∙ formula_atom atom))

    pub of_and : (parts : Bor (List Lifted)) → cond ≡ lifted.And parts → joint_of true (map (value_under binding) parts.now) ≡ value_under binding cond
    of_and parts is =
        ap all_three (sym (values_of (λ c. expanded below binding (formula c)) parts.now))
        ∙ ap (λ m. all_three (settled_all fluent is_true m)) (sym (expanded_members below binding parts.now))
        ∙ ap (λ g. settled fluent is_true (expanded below binding g)) (sym (ap formula is ∙ formula_and parts))

    pub of_or : (parts : Bor (List Lifted)) → cond ≡ lifted.Or parts → joint_of false (map (value_under binding) parts.now) ≡ value_under binding cond
    of_or parts is =
        ap any_three (sym (values_of (λ c. expanded below binding (formula c)) parts.now))
        ∙ ap (λ m. any_three (settled_all fluent is_true m)) (sym (expanded_members below binding parts.now))
        ∙ ap (λ g. settled fluent is_true (expanded below binding g)) (sym (ap formula is ∙ formula_or parts))

    pub of_every : (kinds : Bor (List ℕ)) (body : Bor Lifted) → cond ≡ lifted.Every kinds body → joint_of true (map (λ objects. value_under (binding ++ objects) body.now) (bindings_of below kinds.now)) ≡ value_under binding cond
    of_every kinds body is =
        ap all_three (sym (values_of (λ objects. expanded below (binding ++ objects) (formula body.now)) (bindings_of below kinds.now)))
        ∙ ap (λ g. settled fluent is_true (expanded below binding g)) (sym (ap formula is ∙ formula_every kinds body))

    pub of_any : (kinds : Bor (List ℕ)) (body : Bor Lifted) → cond ≡ lifted.Any kinds body → joint_of false (map (λ objects. value_under (binding ++ objects) body.now) (bindings_of below kinds.now)) ≡ value_under binding cond
    of_any kinds body is =
        ap any_three (sym (values_of (λ objects. expanded below (binding ++ objects) (formula body.now)) (bindings_of below kinds.now)))
        ∙ ap (λ g. settled fluent is_true (expanded below binding g)) (sym (ap formula is ∙ formula_any kinds body))
