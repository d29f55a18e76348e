-- Choices out of a list, as lists.
use Rattle.std.proofs.Common.{◌≡◌, ℕ, ◌==◌, Bool, true, false, cond, List, [], ◌∷◌, map, filter, Contains, inl, inr, refl, sym, subst, eqb-true, eq-eqb}
use Rattle.std.proofs.lemmas.List.Elements.{Contains-append_cases, Contains-append_left, Contains-append_right}
use Rattle.stp_cond.specs.Atoms.{has}
use Rattle.stp_happen.proofs.Members.{here, there, member_cases, member_nil, member_map, mapped_member, passing_member, any_passes}
use Rattle.stp_strength.specs.Failures.{sublists}

pub has_member : (ns : List ℕ) (n : ℕ) → Contains ns n → has ns n ≡ true
has_member ns n i = any_passes (λ m. m == n) ns n i (eq-eqb n n refl)

pub member_had : (ns : List ℕ) (n : ℕ) → has ns n ≡ true → Contains ns n
member_had ns n h = let r = passing_member (λ m. m == n) ns h in subst (Contains ns) (eqb-true r.0 n r.2) r.1

-- the members that pass a test are a choice
pub kept_is_choice : (p : ℕ → Bool) (ns : List ℕ) → Contains (sublists ns) (filter p ns)
kept_is_choice p [] = here [] []
kept_is_choice p (n ∷ ns) = by_test p n ns (p n) (kept_is_choice p ns)
  where
    by_test : (p : ℕ → Bool) (n : ℕ) (ns : List ℕ) (b : Bool) → Contains (sublists ns) (filter p ns) → Contains (sublists (n ∷ ns)) (cond b (n ∷ filter p ns) (filter p ns))
    by_test p n ns true i = Contains-append_right (sublists ns) (map (λ l. n ∷ l) (sublists ns)) (n ∷ filter p ns) (member_map (λ (l : List ℕ). n ∷ l) (sublists ns) (filter p ns) i)
    by_test p n ns false i = Contains-append_left (sublists ns) (map (λ l. n ∷ l) (sublists ns)) (filter p ns) i

-- a choice is of the list's members
pub choice_within : {X : Type 0} (xs l : List X) → Contains (sublists xs) l → (x : X) → Contains l x → Contains xs x
choice_within [] l i x j = elim (member_cases [] [] l i) [ inl e ↦ absurd (member_nil x (subst (λ ys. Contains ys x) (sym e) j)) | inr k ↦ absurd (member_nil l k) ]
choice_within {X} (y ∷ ys) l i x j = elim (Contains-append_cases (sublists ys) (map (λ r. y ∷ r) (sublists ys)) l i) [
  | inl k ↦ there y ys x (choice_within ys l k x j)
  | inr k ↦
      let r = mapped_member (λ (r : List X). y ∷ r) (sublists ys) l k in
      elim (member_cases y r.0 x (subst (λ zs. Contains zs x) (sym r.2) j)) [ inl e ↦ subst (Contains (y ∷ ys)) e (here y ys) | inr q ↦ there y ys x (choice_within ys r.0 r.1 x q) ]
]
