-- The fluent atoms of the members of a condition, one after the other; tables that gain them.
use Rattle.std.proofs.Common.{◌≡◌, ℕ, ◌+◌, ◌<◌, Bool, true, if◌then◌else◌, List, [], ◌∷◌, ◌++◌, length, map, drop, get_or, Some, Bor, refl, ap, sym, ◌∙◌, append_assoc}
use Rattle.std.specs.List.{cons_option}
use Rattle.std.proofs.lemmas.List.{drop_more}
use Rattle.std.proofs.lemmas.List.Elements.{filter_map-append}
use Rattle.stp_base.specs.declared.ids.ObjectId.{ObjectId}
use Rattle.stp_tables.specs.Atoms.{Atom, atom_with, number_of, with_atom}
use Rattle.stp_instance.specs.declared.ground.Ground.{Ground}
use Rattle.stp_instance.specs.declared.ground.Ground.TheVariants.{Fact}
use Rattle.stp_instance.specs.Expanded.{claims_of}
use Rattle.stp_instance.specs.Views.{claim}
use Rattle.stp_instance.specs.Numbered.{fluent_atoms, fluent_atoms_of_all, IsGrown, numbers_in, with_atoms}
use Rattle.stp_instance.proofs.Claims.{claim_fact}

pub with_both : (table one other : List Atom) → with_atoms table (one ++ other) ≡ with_atoms (with_atoms table one) other
with_both table [] other = refl
with_both table (atom ∷ rest) other = with_both (with_atom table atom) rest other

pub grown_again : (old now new : List Atom) → IsGrown old now → IsGrown now new → IsGrown old new
grown_again old now new one other = (one.0 ++ other.0, other.1 ∙ ap (λ l. l ++ other.0) one.1 ∙ append_assoc old one.0 other.0)

-- the fluent atoms of all these conditions
abbrev pub atoms_of_each : (ℕ → Bool) → List Ground → List Atom
atoms_of_each fluent members = fluent_atoms_of_all fluent (claims_of (map claim members))

atoms_more : (fluent : ℕ → Bool) (members : List Ground) (i : ℕ) (member : Ground) → i < length members → member ≡ get_or members i member → atoms_of_each fluent (drop i members) ≡ fluent_atoms fluent (claim member) ++ atoms_of_each fluent (drop (i + 1) members)
atoms_more fluent members i member h is =
    ap (atoms_of_each fluent) (drop_more members i member h)
    ∙ ap (λ m. fluent_atoms fluent (claim m) ++ atoms_of_each fluent (drop (i + 1) members)) (sym is)

-- one more member
pub numbered_more : (fluent : ℕ → Bool) (members : List Ground) (i : ℕ) (member : Ground) (old now new : List Atom) → i < length members → member ≡ get_or members i member → now ≡ with_atoms old (fluent_atoms fluent (claim member)) → with_atoms old (atoms_of_each fluent (drop i members)) ≡ new → with_atoms now (atoms_of_each fluent (drop (i + 1) members)) ≡ new
numbered_more fluent members i member old now new h is e so_far =
    ap (λ t. with_atoms t (atoms_of_each fluent (drop (i + 1) members))) e
    ∙ sym (with_both old (fluent_atoms fluent (claim member)) (atoms_of_each fluent (drop (i + 1) members)))
    ∙ ap (with_atoms old) (sym (atoms_more fluent members i member h is))
    ∙ so_far

pub gathered_more : (table : List Atom) (fluent : ℕ → Bool) (members : List Ground) (i : ℕ) (member : Ground) (old now total : List ℕ) → i < length members → member ≡ get_or members i member → now ≡ old ++ numbers_in table (fluent_atoms fluent (claim member)) → old ++ numbers_in table (atoms_of_each fluent (drop i members)) ≡ total → now ++ numbers_in table (atoms_of_each fluent (drop (i + 1) members)) ≡ total
gathered_more table fluent members i member old now total h is e so_far =
    let one = fluent_atoms fluent (claim member) in
    let rest = atoms_of_each fluent (drop (i + 1) members) in
    ap (λ l. l ++ numbers_in table rest) e
    ∙ append_assoc old (numbers_in table one) (numbers_in table rest)
    ∙ ap (λ l. old ++ l) (sym (filter_map-append (number_of table) one rest))
    ∙ ap (λ l. old ++ numbers_in table l) (sym (atoms_more fluent members i member h is))
    ∙ so_far

-- one atom
pub found_one : (table : List Atom) (fluent : ℕ → Bool) (ground : Ground) (predicate : ℕ) (args : Bor (List ObjectId)) (number : ℕ) → ground ≡ Fact predicate args → fluent predicate ≡ true → number_of table (atom_with predicate args.now) ≡ Some number → numbers_in table (fluent_atoms fluent (claim ground)) ≡ number ∷ []
found_one table fluent ground predicate args number is e f =
    ap (λ c. numbers_in table (fluent_atoms fluent c)) (ap claim is ∙ claim_fact predicate args)
    ∙ ap (λ b. numbers_in table (if b then atom_with predicate args.now ∷ [] else [])) e
    ∙ ap (λ o. cons_option o []) f
