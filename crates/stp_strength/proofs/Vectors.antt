-- Vectors that are made one duration at a time.
use Rattle.std.proofs.Common.{◌≡◌, ℕ, ◌+◌, ◌-◌, ◌*◌, ◌<◌, ◌≤◌, true, false, cond, List, [], ◌∷◌, ◌++◌, drop, length, get_or, refl, sym, ◌∙◌, subst, arith, true≢false, append_assoc}
use Rattle.std.proofs.Math.Logic.{∥∥₁_elim}
use Rattle.std.proofs.Props.{props}
use Rattle.std.proofs.lemmas.List.{append-nil, drop_all}
use Rattle.stp_happen.specs.declared.owners.Owner.{Owner}
use Rattle.stp_happen.specs.declared.owners.OwnedBox.{OwnedBox}
use Rattle.stp_happen.specs.SoundOwned.{IsOwner, IsOwnedBox}
use Rattle.stp_happen.specs.OwnerViews.{plain_owner, plain_owners}
use Rattle.stp_happen.specs.Boxes.{IsVector}
use Rattle.stp_happen.proofs.OwnerSteps.{owner_here, fact_at}

-- with any vector of the owners from a place on, these durations are a vector of all
abbrev pub Begins : List Owner → ℕ → List ℕ → Type 0
Begins owners at v = (rest : List ℕ) → IsVector (plain_owners (drop at owners)) rest → IsVector (plain_owners owners) (v ++ rest)

pub done : (owners : List Owner) (at : ℕ) (v : List ℕ) → length owners ≤ at → Begins owners at v → IsVector (plain_owners owners) v
done owners at v l h = subst (IsVector (plain_owners owners)) (append-nil v) (h [] (subst (λ ss. IsVector (plain_owners ss) []) (sym (drop_all at owners l)) refl))

vector_at : (owners : List Owner) (i : ℕ) (s : Owner) → i < length owners → s ≡ get_or owners i s → (ds : List ℕ) → IsVector (plain_owner s ∷ plain_owners (drop (i + 1) owners)) ds → IsVector (plain_owners (drop i owners)) ds
vector_at owners i s l e ds v = subst (λ ss. IsVector ss ds) (sym (owner_here owners i s l e)) v

pub skipped : (owners : List Owner) (i : ℕ) (s : Owner) → i < length owners → s ≡ get_or owners i s → s.uncertain ≡ false → (v : List ℕ) → Begins owners i v → Begins owners (i + 1) v
skipped owners i s l e u v h rest r =
    h rest (vector_at owners i s l e rest (λ t. absurd (true≢false (sym t ∙ u)), subst (λ b. IsVector (plain_owners (drop (i + 1) owners)) (cond b (drop 1 rest) rest)) (sym u) r))

pub taken : (owners : List Owner) (i : ℕ) (s : Owner) → i < length owners → s ≡ get_or owners i s → s.uncertain ≡ true → (v longer : List ℕ) (end : ℕ) → s.start ≤ s.low → s.low ≤ end → end ≤ s.high →
    longer ≡ v ++ (end - s.start) ∷ [] → Begins owners i v → Begins owners (i + 1) longer
taken owners i s l e u v longer end up low high more h rest r =
    subst (λ xs. IsVector (plain_owners owners) (xs ++ rest)) (sym more)
    (subst (IsVector (plain_owners owners)) (sym (append_assoc v ((end - s.start) ∷ []) rest))
    (h ((end - s.start) ∷ rest) (vector_at owners i s l e ((end - s.start) ∷ rest)
    (λ t. (omega arith, omega arith, omega arith), subst (λ b. IsVector (plain_owners (drop (i + 1) owners)) (cond b rest ((end - s.start) ∷ rest))) (sym u) r))))

pub owner_bounds : (boxed : OwnedBox) (i : ℕ) (o : Owner) → i < length boxed.owners → o ≡ get_or boxed.owners i o → (o.start ≤ o.low) × (o.high ≤ 999999998000000001)
owner_bounds boxed i o l e = ∥∥₁_elim boxed.sound (Prim.hlevel props) (λ b. by_box boxed i o l e b)
  where
    small : (grid high : ℕ) → grid ≤ 999999999 → high ≤ 999999999 * grid → high ≤ 999999998000000001
    small grid high a b = omega arith

    by_box : (boxed : OwnedBox) (i : ℕ) (o : Owner) → i < length boxed.owners → o ≡ get_or boxed.owners i o → IsOwnedBox boxed.grid boxed.owners boxed.initial boxed.goal.now → (o.start ≤ o.low) × (o.high ≤ 999999998000000001)
    by_box boxed i o l e b =
        let k = fact_at (IsOwner boxed.grid (length boxed.initial)) boxed.owners i o l e b.owners_in_range in
        (k.up, small boxed.grid o.high b.grid_high k.high)
