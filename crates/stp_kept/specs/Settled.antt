-- What a condition comes to by what is static alone.
use Rattle.std.specs.Prelude.{ℕ, Bool, true, false, ◌==◌, if◌then◌else◌, List, [], ◌∷◌}
use Rattle.stp_schema.specs.Views.{PlainProblem}
use Rattle.stp_tables.specs.Atoms.{Atom}
use Rattle.stp_cond.specs.declared.known.Three.{Three}
use Rattle.stp_cond.specs.declared.known.Three.TheVariants.{Yes, No, Unknown}
use Rattle.stp_cond.specs.Decided.{three_of, opposite, both, either, all_three, any_three}
use Rattle.stp_cond.specs.Folded.{is_never}
use Rattle.stp_instance.specs.Expanded.{Claim, Claims, Stated, Alike, Denied, AllOf, AnyOf, NoClaims, Also}
use Rattle.stp_instance.specs.Numbered.{fluent_atoms, with_atoms}
use Rattle.stp_ground.specs.Problems.{is_fact, is_written}
use Rattle.stp_ground.specs.Ground.{left_of}

-- whether folding makes a condition false, where each of its fluent atoms has a number
abbrev pub folds_to_false : PlainProblem → Claim → Bool
folds_to_false p claim = is_never (left_of p (with_atoms [] (fluent_atoms (is_written p) claim)) claim)

-- ---- Kleene's value, where of the atoms the static ones are known and the fluent ones are not

abbrev mutual
  pub settled : (ℕ → Bool) → (Atom → Bool) → Claim → Three
  settled fluent is_true (Stated atom) = if fluent atom.predicate then Unknown else three_of (is_true atom)
  settled fluent is_true (Alike one other) = three_of (one == other)
  settled fluent is_true (Denied inner) = opposite (settled fluent is_true inner)
  settled fluent is_true (AllOf members) = all_three (settled_all fluent is_true members)
  settled fluent is_true (AnyOf members) = any_three (settled_all fluent is_true members)

  pub settled_all : (ℕ → Bool) → (Atom → Bool) → Claims → List Three
  settled_all fluent is_true NoClaims = []
  settled_all fluent is_true (Also first rest) = settled fluent is_true first ∷ settled_all fluent is_true rest

abbrev pub settled_in : PlainProblem → Claim → Three
settled_in p = settled (is_written p) (is_fact p)

abbrev pub is_no : Three → Bool
is_no Yes = false
is_no No = true
is_no Unknown = false

-- of two values together, or of one or the other
abbrev pub joint : Bool → Three → Three → Three
joint true = both
joint false = either

-- of several
abbrev pub joint_of : Bool → List Three → Three
joint_of true = all_three
joint_of false = any_three

-- that of none
abbrev pub joint_of_none : Bool → Three
joint_of_none true = Yes
joint_of_none false = No
