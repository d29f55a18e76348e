-- What narrowing the window of one owner keeps.
use Rattle.std.proofs.Common.{◌≡◌, ℕ, ◌+◌, ◌<◌, ◌≤◌, Bool, true, false, List, [], ◌∷◌, ◌++◌, length, slice_index, ◌⊎◌, inl, inr, refl, ap, ap₂, sym, ◌∙◌, subst, arith, true≢false}
use Rattle.std.specs.Cmp.Lexicographic.{slice_cmp}
use Rattle.std.specs.Ordering.{nat_cmp, is_lt}
use Rattle.std.specs.declared.cmp.Ordering.TheVariants.{Equal}
use Rattle.std.proofs.lemmas.List.{append-nil}
use Rattle.stp_happen.specs.Boxes.{PlainOwner, PlainBox, IsVector, IsStrong}
use Rattle.stp_happen.specs.LeastFailure.{IsFailure, IsLeastFailure}
use Rattle.stp_happen.specs.Plain.{Executes}
use Rattle.stp_strength.specs.Narrower.{IsNarrowed, AreNarrowed, IsNarrowedBox}
use Rattle.stp_strength.proofs.BoxGaps.{failures_mean_weakness}
use Rattle.stp_strength.proofs.Narrow.{run_same, vector_wide}
use Rattle.stp_least.specs.Searching.{AreFixed, KeepsLeastFailure}
use Rattle.stp_least.proofs.Middles.{durations_after, vector_after, vector_changed, order_after, first_up}

-- the same box with other owners
abbrev pub with_owners : PlainBox → List PlainOwner → PlainBox
with_owners box owners = record box { owners = owners }

-- the same owner, ending from low to high
abbrev pub ending : ℕ → ℕ → PlainOwner → PlainOwner
ending low high s = record s { low = low; high = high }

-- ---- failures of narrower boxes

failure_wide : (box wide : PlainBox) → IsNarrowedBox box wide → (ds : List ℕ) → IsFailure box ds → IsFailure wide ds
failure_wide box wide n ds f = record { vector = vector_wide box.owners wide.owners n.owners ds f.vector; fails = λ x. f.fails (subst Executes (sym (run_same box wide n ds)) x) }

failure_narrow : (box wide : PlainBox) → IsNarrowedBox box wide → (ds : List ℕ) → IsFailure wide ds → IsVector box.owners ds → IsFailure box ds
failure_narrow box wide n ds f v = record { vector = v; fails = λ x. f.fails (subst Executes (run_same box wide n ds) x) }

not_narrowed : (s : PlainOwner) → IsNarrowed s s
not_narrowed s = record { low = omega arith; high = omega arith; certain = λ u. refl; rest = refl }

none_narrowed : (owners : List PlainOwner) → AreNarrowed owners owners
none_narrowed [] = refl
none_narrowed (s ∷ ss) = (not_narrowed s, none_narrowed ss)

one_narrowed : (before : List PlainOwner) (s t : PlainOwner) (rest : List PlainOwner) → IsNarrowed t s → AreNarrowed (before ++ t ∷ rest) (before ++ s ∷ rest)
one_narrowed [] s t rest n = (n, none_narrowed rest)
one_narrowed (b ∷ bs) s t rest n = (not_narrowed b, one_narrowed bs s t rest n)

-- an uncertain owner of a box, and a narrower window for it
pub record Narrows (s : PlainOwner) (from to : ℕ) : Type 0 where
  pub uncertain : s.uncertain ≡ true
  pub low : s.low ≤ from
  pub high : to ≤ s.high

owner_narrowed : (s : PlainOwner) (low high : ℕ) → Narrows s low high → IsNarrowed (ending low high s) s
owner_narrowed s low high n = record { low = n.low; high = n.high; certain = λ u. absurd (true≢false (sym n.uncertain ∙ u)); rest = refl }

box_narrowed : (box : PlainBox) (before : List PlainOwner) (s : PlainOwner) (rest : List PlainOwner) (low high : ℕ) → Narrows s low high →
    IsNarrowedBox (with_owners box (before ++ ending low high s ∷ rest)) (with_owners box (before ++ s ∷ rest))
box_narrowed box before s rest low high n = record { owners = one_narrowed before s (ending low high s) rest (owner_narrowed s low high n); initial = refl; goal = refl }

-- the duration of the owner, of those of all owners
abbrev pub own : List PlainOwner → List ℕ → ℕ
own before ds = slice_index (durations_after before ds) 0

pub own_within : (before : List PlainOwner) (s : PlainOwner) (rest : List PlainOwner) (ds : List ℕ) → s.uncertain ≡ true → IsVector (before ++ s ∷ rest) ds →
    (0 < length (durations_after before ds)) × (s.low ≤ s.start + own before ds) × (s.start + own before ds ≤ s.high)
own_within before s rest ds u v = (vector_after before (s ∷ rest) ds v).0 u

-- a failure at which the owner ends in the narrower window is one of the narrower box
pub failure_within : (box : PlainBox) (before : List PlainOwner) (s : PlainOwner) (rest : List PlainOwner) (low high : ℕ) → Narrows s low high → (ds : List ℕ) → IsFailure (with_owners box (before ++ s ∷ rest)) ds →
    low ≤ s.start + own before ds → s.start + own before ds ≤ high → IsFailure (with_owners box (before ++ ending low high s ∷ rest)) ds
failure_within box before s rest low high n ds f l k =
    failure_narrow (with_owners box (before ++ ending low high s ∷ rest)) (with_owners box (before ++ s ∷ rest)) (box_narrowed box before s rest low high n) ds f
    (vector_changed before s (ending low high s) rest ds refl f.vector (λ u. ((own_within before s rest ds n.uncertain f.vector).0, l, k)))

pub failure_without : (box : PlainBox) (before : List PlainOwner) (s : PlainOwner) (rest : List PlainOwner) (low high : ℕ) → Narrows s low high → (ds : List ℕ) → IsFailure (with_owners box (before ++ ending low high s ∷ rest)) ds →
    IsFailure (with_owners box (before ++ s ∷ rest)) ds
failure_without box before s rest low high n ds f = failure_wide (with_owners box (before ++ ending low high s ∷ rest)) (with_owners box (before ++ s ∷ rest)) (box_narrowed box before s rest low high n) ds f

-- ---- the least failure

-- where those before have one end, the high may be lowered as long as the box fails
pub keeps_lowered : (box : PlainBox) (before : List PlainOwner) (s : PlainOwner) (rest : List PlainOwner) (high : ℕ) → AreFixed before → Narrows s s.low high →
    KeepsLeastFailure (with_owners box (before ++ s ∷ rest)) (with_owners box (before ++ ending s.low high s ∷ rest))
keeps_lowered box before s rest high fixed n ds l =
    let wide = failure_without box before s rest s.low high n ds l.failure in
    record { failure = wide; least = λ other f. by_order other f wide (is_lt (slice_cmp nat_cmp other ds)) refl }
  where
    by_order : (other : List ℕ) → IsFailure (with_owners box (before ++ s ∷ rest)) other → IsFailure (with_owners box (before ++ s ∷ rest)) ds → (b : Bool) → is_lt (slice_cmp nat_cmp other ds) ≡ b → is_lt (slice_cmp nat_cmp other ds) ≡ false
    by_order other f wide false e = e
    by_order other f wide true e =
        let same : slice_cmp nat_cmp other ds ≡ slice_cmp nat_cmp (durations_after before other) (durations_after before ds) = order_after before (s ∷ rest) fixed other ds f.vector wide.vector in
        let mine = own_within before s rest other n.uncertain f.vector in
        let its = own_within before (ending s.low high s) rest ds n.uncertain l.failure.vector in
        let up : own before other ≤ own before ds = first_up (durations_after before other) (durations_after before ds) mine.0 its.0 (sym (ap is_lt same) ∙ e) in
        let to : s.start + own before ds ≤ high = its.2 in
        l.least other (failure_within box before s rest s.low high n other f mine.1 (omega arith))

-- the low may be raised past a window in which the box is strong
pub keeps_raised : (box : PlainBox) (before : List PlainOwner) (s : PlainOwner) (rest : List PlainOwner) (middle : ℕ) → Narrows s s.low middle → Narrows s (middle + 1) s.high →
    IsStrong (with_owners box (before ++ ending s.low middle s ∷ rest)) →
    KeepsLeastFailure (with_owners box (before ++ s ∷ rest)) (with_owners box (before ++ ending (middle + 1) s.high s ∷ rest))
keeps_raised box before s rest middle n m strong ds l = record {
  failure = failure_without box before s rest (middle + 1) s.high m ds l.failure;
  least = λ other f. by_end other f (le_or_more (s.start + own before other) middle);
}
  where
    le_or_more : (a b : ℕ) → (a ≤ b) ⊎ (b + 1 ≤ a)
    le_or_more a b = grind arith

    by_end : (other : List ℕ) → IsFailure (with_owners box (before ++ s ∷ rest)) other → (s.start + own before other ≤ middle) ⊎ (middle + 1 ≤ s.start + own before other) → is_lt (slice_cmp nat_cmp other ds) ≡ false
    by_end other f (inl k) =
        let mine = own_within before s rest other n.uncertain f.vector in
        absurd (failures_mean_weakness (with_owners box (before ++ ending s.low middle s ∷ rest)) other (failure_within box before s rest s.low middle n other f mine.1 k) strong)
    by_end other f (inr k) =
        let mine = own_within before s rest other n.uncertain f.vector in
        l.least other (failure_within box before s rest (middle + 1) s.high m other f k mine.2)

-- where each owner has one end, a failure is the least
pub fixed_least : (box : PlainBox) → AreFixed box.owners → (ds : List ℕ) → IsFailure box ds → IsLeastFailure box ds
fixed_least box fixed ds f = record {
  failure = f;
  least = λ other g. ap is_lt (all_same box.owners fixed other ds g.vector f.vector);
}
  where
    all_same : (owners : List PlainOwner) → AreFixed owners → (xs ys : List ℕ) → IsVector owners xs → IsVector owners ys → slice_cmp nat_cmp xs ys ≡ Equal
    all_same owners fixed xs ys v w =
        let more : IsVector (owners ++ []) xs = subst (λ ss. IsVector ss xs) (sym (append-nil owners)) v in
        let most : IsVector (owners ++ []) ys = subst (λ ss. IsVector ss ys) (sym (append-nil owners)) w in
        order_after owners [] fixed xs ys more most
        ∙ ap₂ (slice_cmp nat_cmp) (vector_after owners [] xs more) (vector_after owners [] ys most)
