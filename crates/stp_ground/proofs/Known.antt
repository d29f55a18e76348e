-- The atoms of a table that has gained some.
use Rattle.std.proofs.Common.{◌≡◌, Bool, true, false, ◌||◌, if◌then◌else◌, List, [], ◌∷◌, ◌++◌, map, refl, ap, ◌∙◌}
use Rattle.std.specs.List.{list_any}
use Rattle.std.proofs.lemmas.List.Folds.{list_any-append}
use Rattle.stp_schema.specs.Views.{PlainFact}
use Rattle.stp_tables.specs.Atoms.{Atom, is_atom, with_atom}
use Rattle.stp_instance.specs.Numbered.{is_in, with_atoms}
use Rattle.stp_tables.proofs.AtomKeys.{atoms_same}
use Rattle.stp_instance.proofs.Gained.{in_is}
use Rattle.stp_ground.specs.Problems.{atom_of_fact, is_known}

either_end : (b c : Bool) → (c ≡ true → b ≡ true) → b ≡ (b || c)
either_end true c h = refl
either_end false true h = h refl
either_end false false h = refl

last_or : (b c : Bool) → (b || (c || false)) ≡ (b || c)
last_or true c = refl
last_or false true = refl
last_or false false = refl

or_none : (b : Bool) → b ≡ (b || false)
or_none true = refl
or_none false = refl

or_again : (a b c : Bool) → ((a || b) || c) ≡ (a || (b || c))
or_again true b c = refl
or_again false b c = refl

has_with : (table : List Atom) (atom new : Atom) (known : Bool) → list_any (is_atom new) table ≡ known → list_any (is_atom atom) (if known then table else table ++ new ∷ []) ≡ (list_any (is_atom atom) table || is_atom atom new)
has_with table atom new true e = either_end (list_any (is_atom atom) table) (is_atom atom new) (λ h. ap (λ a. list_any (is_atom a) table) (atoms_same atom new h) ∙ e)
has_with table atom new false e = list_any-append (is_atom atom) table (new ∷ []) ∙ last_or (list_any (is_atom atom) table) (is_atom atom new)

pub has_all : (table atoms : List Atom) (atom : Atom) → list_any (is_atom atom) (with_atoms table atoms) ≡ (list_any (is_atom atom) table || list_any (is_atom atom) atoms)
has_all table [] atom = or_none (list_any (is_atom atom) table)
has_all table (new ∷ rest) atom =
    has_all (with_atom table new) rest atom
    ∙ ap (λ b. b || list_any (is_atom atom) rest) (has_with table atom new (list_any (is_atom new) table) refl)
    ∙ or_again (list_any (is_atom atom) table) (is_atom atom new) (list_any (is_atom atom) rest)

known_at : (facts : List PlainFact) (atom : Atom) → is_in (with_atoms [] (map atom_of_fact facts)) atom ≡ is_known facts atom
known_at facts atom = in_is (with_atoms [] (map atom_of_fact facts)) atom ∙ has_all [] (map atom_of_fact facts) atom

pub known_are : (facts : List PlainFact) → is_in (with_atoms [] (map atom_of_fact facts)) ≡ is_known facts
known_are facts = λ i atom. known_at facts atom i
