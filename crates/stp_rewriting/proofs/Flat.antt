-- Members of lists that are put together.
use Rattle.std.proofs.Common.{List, [], ◌∷◌, Contains, inl, inr, sym, subst}
use Rattle.std.specs.List.{flat_map}
use Rattle.std.proofs.lemmas.List.Elements.{Contains-append_cases, Contains-append_left, Contains-append_right}
use Rattle.stp_happen.proofs.Members.{here, there, member_cases, member_nil}

pub in_flat : {X Y : Type 0} (f : X → List Y) (xs : List X) (x : X) (y : Y) → Contains xs x → Contains (f x) y → Contains (flat_map f xs) y
in_flat f [] x y i j = absurd (member_nil x i)
in_flat f (z ∷ zs) x y i j = elim (member_cases z zs x i) [
  | inl e ↦ Contains-append_left (f z) (flat_map f zs) y (subst (λ w. Contains (f w) y) (sym e) j)
  | inr k ↦ Contains-append_right (f z) (flat_map f zs) y (in_flat f zs x y k j)
]

pub of_flat : {X Y : Type 0} (f : X → List Y) (xs : List X) (y : Y) → Contains (flat_map f xs) y → (x : X) × Contains xs x × Contains (f x) y
of_flat f [] y i = absurd (member_nil y i)
of_flat f (z ∷ zs) y i = elim (Contains-append_cases (f z) (flat_map f zs) y i) [
  | inl j ↦ (z, here z zs, j)
  | inr j ↦ let m = of_flat f zs y j in (m.0, there z zs m.0 m.1, m.2)
]
