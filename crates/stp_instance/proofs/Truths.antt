-- The truth of a condition by numbers.
use Rattle.std.proofs.Common.{◌≡◌, ℕ, Bool, true, false, not, ◌&&◌, ◌||◌, ◌==◌, if◌then◌else◌, List, Option, None, Some, refl, ap, ◌∙◌}
use Rattle.stp_tables.specs.Atoms.{Atom, number_of}
use Rattle.stp_cond.specs.declared.known.Three.TheVariants.{Unknown}
use Rattle.stp_cond.specs.Formulas.{holds_in, all_hold, some_holds}
use Rattle.stp_cond.proofs.Meaning.{folding_keeps_truth}
use Rattle.stp_instance.specs.Expanded.{Claim, Claims, Stated, Alike, Denied, AllOf, AnyOf, NoClaims, Also}
use Rattle.stp_instance.specs.Numbered.{constant, by_number, numbered, numbered_all, folded_ground}
use Rattle.stp_instance.specs.Laws.{is_so, all_are_so, one_is_so, value_in, facts_in}

constant_so : (state : ℕ → Bool) (b : Bool) → holds_in state (constant b) ≡ b
constant_so state true = refl
constant_so state false = refl

atom_so : (state : ℕ → Bool) (fluent : Bool) (number : Option ℕ) (known : Bool) → holds_in state (if fluent then by_number number else constant known) ≡ (if fluent then value_in state number else known)
atom_so state true None known = refl
atom_so state true (Some number) known = refl
atom_so state false number known = constant_so state known

module _ (fluent : ℕ → Bool) (is_true : Atom → Bool) (table : List Atom) (state : ℕ → Bool) where
  mutual
    pub numbers_so : (claim : Claim) → holds_in state (numbered fluent is_true table claim) ≡ is_so (facts_in fluent is_true table state) claim
    numbers_so (Stated atom) = atom_so state (fluent atom.predicate) (number_of table atom) (is_true atom)
    numbers_so (Alike one other) = constant_so state (one == other)
    numbers_so (Denied inner) = ap not (numbers_so inner)
    numbers_so (AllOf members) = all_so members
    numbers_so (AnyOf members) = one_so members

    all_so : (members : Claims) → all_hold state (numbered_all fluent is_true table members) ≡ all_are_so (facts_in fluent is_true table state) members
    all_so NoClaims = refl
    all_so (Also first rest) = ap (λ b. b && all_hold state (numbered_all fluent is_true table rest)) (numbers_so first) ∙ ap (λ b. is_so (facts_in fluent is_true table state) first && b) (all_so rest)

    one_so : (members : Claims) → some_holds state (numbered_all fluent is_true table members) ≡ one_is_so (facts_in fluent is_true table state) members
    one_so NoClaims = refl
    one_so (Also first rest) = ap (λ b. b || some_holds state (numbered_all fluent is_true table rest)) (numbers_so first) ∙ ap (λ b. is_so (facts_in fluent is_true table state) first || b) (one_so rest)

  pub folded_so : (claim : Claim) → holds_in state (folded_ground fluent is_true table claim) ≡ is_so (facts_in fluent is_true table state) claim
  folded_so claim = folding_keeps_truth (λ atom. Unknown) state (numbered fluent is_true table claim) (λ atom. tt) ∙ numbers_so claim
