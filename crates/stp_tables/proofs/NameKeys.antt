-- The keys of a table of names, and the names behind them.
use Rattle.std.proofs.Common.{◌≡◌, ℕ, true, not, List, [], ◌∷◌, ◌++◌, if◌then◌else◌, Some, refl, ap, arith, Vec}
use Rattle.std.specs.Prelude.{position, bytes_eq}
use Rattle.std.specs.List.{list_any, position_or_len}
use Rattle.std.proofs.lemmas.Slice.Eq.{bytes_eq-Decides}
use Rattle.stp_tables.specs.Names.{lists_of, number_of, with_name, is_new_in}
use Rattle.stp_tables.proofs.FirstSight as sight

pub same_name : (name : List ℕ) → bytes_eq name name ≡ true
same_name name = grind (arith, bytes_eq-Decides)

pub names_same : (one other : List ℕ) → bytes_eq one other ≡ true → one ≡ other
names_same one other e = grind (arith, bytes_eq-Decides, e)

module _ {A : Type 0} where
  pub position_names : (name : List ℕ) (vs : List (Vec ℕ A)) → position (λ v. bytes_eq name v.items) vs ≡ number_of (lists_of vs) name
  position_names name vs = sight.position_keys (λ (v : Vec ℕ A). v.items) bytes_eq (λ (v : Vec ℕ A). bytes_eq name v.items) name (λ v. refl) vs

  module _ (name : List ℕ) (vs : List (Vec ℕ A)) (key : Vec ℕ A) (is : key.items ≡ name) where
    pub new_name : not (list_any (λ v. bytes_eq key.items v.items) vs) ≡ is_new_in (lists_of vs) name
    new_name = ap not (sight.one_of_keys (λ (v : Vec ℕ A). v.items) bytes_eq (λ (v : Vec ℕ A). bytes_eq key.items v.items) name (λ v. ap (λ n. bytes_eq n v.items) is) vs)

    pub names_with : (ws : List (Vec ℕ A)) → ws ≡ (if list_any (λ v. bytes_eq key.items v.items) vs then vs else vs ++ key ∷ []) → lists_of ws ≡ with_name (lists_of vs) name
    names_with ws h = sight.with_key (λ (v : Vec ℕ A). v.items) bytes_eq (λ (v : Vec ℕ A). bytes_eq key.items v.items) name (λ v. ap (λ n. bytes_eq n v.items) is) vs ws key is h

    pub number_then : number_of (with_name (lists_of vs) name) name ≡ Some (position_or_len (λ v. bytes_eq key.items v.items) vs)
    number_then = sight.number_with (λ (v : Vec ℕ A). v.items) bytes_eq (λ (v : Vec ℕ A). bytes_eq key.items v.items) name (λ v. ap (λ n. bytes_eq n v.items) is) same_name vs
