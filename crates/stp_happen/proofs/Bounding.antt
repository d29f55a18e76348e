-- Owners of which one has other bounds keep what owners keep.
use Rattle.std.proofs.Common.{◌≡◌, ℕ, ◌==◌, ◌++◌, eqb-true, eq-eqb, ◌<◌, Bool, true, false, cond, List, [], ◌∷◌, map, length, All, Contains, inl, inr, refl, ap, ap₂, sym, ◌∙◌, subst, true≢false}
use Rattle.std.proofs.lemmas.Bool.{cases_Bool}
use Rattle.std.proofs.lemmas.List.Elements.{Contains-append_right}
use Rattle.stp_cond.specs.declared.cond.Cond.{Cond}
use Rattle.stp_happen.specs.declared.owners.Owner.{Owner}
use Rattle.stp_happen.specs.SoundOwned.{IsOwner, IsOwnedBox}
use Rattle.stp_happen.specs.Boxes.{PlainOwner}
use Rattle.stp_happen.specs.Bounds.{MayEndWithin, bounded_owner}
use Rattle.stp_happen.specs.Owners.{IsTimed, AreTimedApart, AreNumbered, AreInOrder}
use Rattle.stp_happen.specs.OwnerViews.{plain_owner, plain_owners}
use Rattle.stp_happen.proofs.Members.{here, there, each_of, all_mapped, mapped_member}

-- ---- numbers and order

keeps_number : (number low high : ℕ) (o : PlainOwner) → (bounded_owner number low high o).number ≡ o.number
keeps_number number low high o = by_test (o.number == number)
  where
    by_test : (b : Bool) → (let p : PlainOwner = cond b (record o { low = low; high = high }) o in p.number) ≡ o.number
    by_test true = refl
    by_test false = refl

-- an owner of another number is as before
pub not_bounded : (number low high : ℕ) (o : PlainOwner) → (o.number ≡ number → ⊥) → bounded_owner number low high o ≡ o
not_bounded number low high o other = elim (cases_Bool (o.number == number)) [
  | inl e ↦ absurd (other (eqb-true o.number number e))
  | inr e ↦ ap (λ b. let p : PlainOwner = cond b (record o { low = low; high = high }) o in p) e
]

-- the owners of a number are uncertain, so none of them is an event at a fixed moment
abbrev AreUncertain : ℕ → List PlainOwner → Type 0
AreUncertain number os = (o : PlainOwner) → Contains os o → o.number ≡ number → o.uncertain ≡ true

fixed_stays : (number low high : ℕ) (os : List PlainOwner) (o : PlainOwner) → AreUncertain number os → Contains os o → IsTimed o → bounded_owner number low high o ≡ o
fixed_stays number low high os o uncertain i timed = not_bounded number low high o (λ e. true≢false (sym (uncertain o i e) ∙ timed.certain))

pub numbered_bounded : (number low high : ℕ) (os : List PlainOwner) → AreUncertain number os → AreNumbered os → AreNumbered (map (bounded_owner number low high) os)
numbered_bounded number low high [] uncertain h = tt
numbered_bounded number low high (x ∷ xs) uncertain h =
    let f : PlainOwner → PlainOwner = bounded_owner number low high in (
      all_mapped f (λ y. (f x).number ≡ y.number → AreTimedApart (f x) y) xs (λ y i e.
          let t : AreTimedApart x y = each_of (λ y. x.number ≡ y.number → AreTimedApart x y) xs h.0 y i (sym (keeps_number number low high x) ∙ (e ∙ keeps_number number low high y)) in
          let one : f x ≡ x = fixed_stays number low high (x ∷ xs) x uncertain (here x xs) t.one in
          let other : f y ≡ y = fixed_stays number low high (x ∷ xs) y uncertain (there x xs y i) t.other in
          subst (λ u. AreTimedApart u (f y)) (sym one) (subst (AreTimedApart x) (sym other) t)),
      numbered_bounded number low high xs (λ o i. uncertain o (there x xs o i)) h.1,
    )

pub order_bounded : (number low high : ℕ) (os : List PlainOwner) → AreUncertain number os → AreInOrder os → AreInOrder (map (bounded_owner number low high) os)
order_bounded number low high [] uncertain h = tt
order_bounded number low high (x ∷ xs) uncertain h =
    let f : PlainOwner → PlainOwner = bounded_owner number low high in (
      all_mapped f (λ y. (IsTimed y → ⊥) → (f x).number < y.number) xs (λ y i other.
          let less : x.number < y.number = each_of (λ y. (IsTimed y → ⊥) → x.number < y.number) xs h.0 y i (λ timed. other (subst IsTimed (sym (fixed_stays number low high (x ∷ xs) y uncertain (there x xs y i) timed)) timed)) in
          rw (keeps_number number low high x, keeps_number number low high y) less),
      order_bounded number low high xs (λ o i. uncertain o (there x xs o i)) h.1,
    )

-- ---- the box

pub bounded_is_sound : (grid number low high : ℕ) (owners news : List Owner) (initial row : List Bool) (goal : Cond) → IsOwnedBox grid owners initial goal → All (λ o. o.number ≡ number → MayEndWithin grid low high o) owners →
    plain_owners news ≡ map (bounded_owner number low high) (plain_owners owners) → ((n : ℕ) → All (IsOwner grid n) owners → All (IsOwner grid n) news) → row ≡ initial → IsOwnedBox grid news row goal
bounded_is_sound grid number low high owners news initial row goal b may same keeps e =
    let uncertain : AreUncertain number (plain_owners owners) = λ o i n.
    let r = mapped_member plain_owner owners o i in
    let m : MayEndWithin grid low high r.0 = each_of (λ o. o.number ≡ number → MayEndWithin grid low high o) owners may r.0 r.1 (ap (λ (x : PlainOwner). x.number) r.2 ∙ n) in
    sym (ap (λ (x : PlainOwner). x.uncertain) r.2) ∙ m.uncertain in
    subst (λ r. IsOwnedBox grid news r goal) (sym e) (record {
      grid_low = b.grid_low;
      grid_high = b.grid_high;
      owners_in_range = keeps (length initial) b.owners_in_range;
      numbered = subst AreNumbered (sym same) (numbered_bounded number low high (plain_owners owners) uncertain b.numbered);
      in_order = subst AreInOrder (sym same) (order_bounded number low high (plain_owners owners) uncertain b.in_order);
      goal_in_range = b.goal_in_range;
    })

-- ---- the owner in the middle of the others

all_stay : {X : Type 0} (f : X → X) (xs : List X) → ((x : X) → Contains xs x → f x ≡ x) → map f xs ≡ xs
all_stay f [] h = refl
all_stay f (x ∷ xs) h = ap₂ (λ y ys. y ∷ ys) (h x (here x xs)) (all_stay f xs (λ y i. h y (there x xs y i)))

-- an uncertain owner alone has its number, so that no other gets its bounds
pub bounded_split : (low high : ℕ) (before : List PlainOwner) (o : PlainOwner) (rest : List PlainOwner) → o.uncertain ≡ true → AreNumbered (before ++ o ∷ rest) →
    let p : PlainOwner = record o { low = low; high = high } in map (bounded_owner o.number low high) (before ++ o ∷ rest) ≡ before ++ p ∷ rest
bounded_split low high [] o rest u h =
    ap₂ (λ x xs. x ∷ xs) (own low high o)
    (all_stay (bounded_owner o.number low high) rest (λ y i. not_bounded o.number low high y (λ e.
    let t : AreTimedApart o y = each_of (λ y. o.number ≡ y.number → AreTimedApart o y) rest h.0 y i (sym e) in
    true≢false (sym u ∙ t.one.certain))))
  where
    own : (low high : ℕ) (o : PlainOwner) → let p : PlainOwner = record o { low = low; high = high } in bounded_owner o.number low high o ≡ p
    own low high o = ap (λ b. let p : PlainOwner = cond b (record o { low = low; high = high }) o in p) (eq-eqb o.number o.number refl)
bounded_split low high (b ∷ bs) o rest u h =
    ap₂ (λ x xs. x ∷ xs)
    (not_bounded o.number low high b (λ e.
    let t : AreTimedApart b o = each_of (λ y. b.number ≡ y.number → AreTimedApart b y) (bs ++ o ∷ rest) h.0 o (Contains-append_right bs (o ∷ rest) o (here o rest)) e in
    true≢false (sym u ∙ t.other.certain)))
    (bounded_split low high bs o rest u h.1)
