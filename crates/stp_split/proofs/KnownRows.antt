-- What is decided where atoms are known holds whichever ends have come.
use Rattle.std.proofs.Common.{◌≡◌, ℕ, ◌+◌, ◌<◌, ◌≤◌, Bool, true, false, ◌||◌, cond, List, [], take, length, get_or, All, Contains, ◌⊎◌, inl, inr, refl, ap, sym, ◌∙◌, subst, arith, true≢false}
use Rattle.std.proofs.lemmas.Bool.{cases_lt}
use Rattle.std.proofs.lemmas.List.Elements.{All-more, All-take, All-get_or}
use Rattle.std.proofs.lemmas.List.{take-take, get_or-take, length-take-le}
use Rattle.stp_cond.specs.declared.cond.Cond.{Cond}
use Rattle.stp_cond.specs.declared.known.Three.{Three}
use Rattle.stp_cond.specs.declared.known.Three.TheVariants.{Yes, Unknown}
use Rattle.stp_cond.specs.Atoms.{has}
use Rattle.stp_cond.specs.Decided.{three_of, decided}
use Rattle.stp_cond.specs.Folded.{Fits, known_of}
use Rattle.stp_cond.specs.Truth.{truth}
use Rattle.stp_cond.proofs.Decided.{decided_holds_in_all}
use Rattle.stp_happen.proofs.Members.{each_mapped, each_of, all_of, of_mapped}
use Rattle.stp_window.specs.declared.windows.Window.{Window}
use Rattle.stp_window.specs.Certain.{sets}
use Rattle.stp_window.specs.Windows.{Point}
use Rattle.stp_window.specs.Views.{point_of, points_of}
use Rattle.stp_split.specs.Cases.{written}
use Rattle.stp_split.specs.Judged.{IsAlways}
use Rattle.stp_split.specs.Known.{IsKnownRow, IsKeptRow}
use Rattle.stp_split.proofs.Written.{written_by_none, no_writer}

fits_value : (b : Bool) → Fits (three_of b) b
fits_value true = refl
fits_value false = refl

-- what is known fits what the ends that have come leave, of the ends some
known_fits : (known : List Three) (ends some : List Point) (state : ℕ → Bool) → IsKnownRow known ends state → ((p : Point) → Contains some p → Contains ends p) → (came : Point → Bool) (a : ℕ) → Fits (known_of known a) (written some came state a)
known_fits known ends some state row within came a = by_known known ends some state within came a (row a)
  where
    by_known : (known : List Three) (ends some : List Point) (state : ℕ → Bool) → ((p : Point) → Contains some p → Contains ends p) → (came : Point → Bool) (a : ℕ) →
        (known_of known a ≡ Unknown) ⊎ ((known_of known a ≡ three_of (state a)) × ((p : Point) → Contains ends p → sets p a ≡ false)) → Fits (known_of known a) (written some came state a)
    by_known known ends some state within came a (inl e) = subst (λ t. Fits t (written some came state a)) (sym e) tt
    by_known known ends some state within came a (inr (e, none)) =
        subst (λ t. Fits t (written some came state a)) (sym e)
        (subst (Fits (three_of (state a))) (sym (written_by_none some came state a (no_writer some came a (λ p i h s. true≢false (sym s ∙ none p (within p i)))))) (fits_value (state a)))

pub decided_always : (known : List Three) (ends some : List Point) (state : ℕ → Bool) (c : Cond) → IsKnownRow known ends state → ((p : Point) → Contains some p → Contains ends p) → decided (known_of known) c ≡ Yes → IsAlways c true some state
decided_always known ends some state c row within told = λ came. subst (λ t. Fits t (truth (written some came state) c)) told (decided_holds_in_all (known_of known) (written some came state) c (known_fits known ends some state row within came))

-- ---- one end after another

-- the atoms that are still known are written by none of these windows
abbrev pub KnownPast : List Three → List Window → (ℕ → Bool) → Type 0
KnownPast known ends state = (a : ℕ) → (known_of known a ≡ Unknown) ⊎ ((known_of known a ≡ three_of (state a)) × All (λ w. sets (point_of w) a ≡ false) ends)

forgotten : (old : Three) (h : Bool) → (new : Three) → new ≡ cond h Unknown old → (new ≡ Unknown) ⊎ ((new ≡ old) × (h ≡ false))
forgotten old true new e = inl e
forgotten old false new e = inr (e, refl)

pub past_more : (ends : List Window) (i : ℕ) (w : Window) (old mid new : List Three) (state : ℕ → Bool) → i < length ends → w ≡ get_or ends i w → ((a : ℕ) → known_of mid a ≡ cond (has (point_of w).event.adds a) Unknown (known_of old a)) →
    ((a : ℕ) → known_of new a ≡ cond (has (point_of w).event.dels a) Unknown (known_of mid a)) → KnownPast old (take i ends) state → KnownPast new (take (i + 1) ends) state
past_more ends i w old mid new state l is first second past a =
    by_both ends i w old mid new state a l is (forgotten (known_of old a) (has (point_of w).event.adds a) (known_of mid a) (first a)) (forgotten (known_of mid a) (has (point_of w).event.dels a) (known_of new a) (second a)) (past a)
  where
    neither : (b c : Bool) → b ≡ false → c ≡ false → (b || c) ≡ false
    neither b c e f = ap (λ x. x || c) e ∙ f

    by_both : (ends : List Window) (i : ℕ) (w : Window) (old mid new : List Three) (state : ℕ → Bool) (a : ℕ) → i < length ends → w ≡ get_or ends i w →
        (known_of mid a ≡ Unknown) ⊎ ((known_of mid a ≡ known_of old a) × (has (point_of w).event.adds a ≡ false)) →
        (known_of new a ≡ Unknown) ⊎ ((known_of new a ≡ known_of mid a) × (has (point_of w).event.dels a ≡ false)) →
        (known_of old a ≡ Unknown) ⊎ ((known_of old a ≡ three_of (state a)) × All (λ v. sets (point_of v) a ≡ false) (take i ends)) →
        (known_of new a ≡ Unknown) ⊎ ((known_of new a ≡ three_of (state a)) × All (λ v. sets (point_of v) a ≡ false) (take (i + 1) ends))
    by_both ends i w old mid new state a l is m (inl e) p = inl e
    by_both ends i w old mid new state a l is (inl m) (inr (e, d)) p = inl (e ∙ m)
    by_both ends i w old mid new state a l is (inr (m, x)) (inr (e, d)) (inl u) = inl (e ∙ (m ∙ u))
    by_both ends i w old mid new state a l is (inr (m, x)) (inr (e, d)) (inr (v, all)) =
        inr (e ∙ (m ∙ v), All-more (λ (y : Window). sets (point_of y) a ≡ false) ends i w l all (subst (λ (y : Window). sets (point_of y) a ≡ false) is (neither (has (point_of w).event.adds a) (has (point_of w).event.dels a) x d)))

pub past_first : (known : List Three) (n : ℕ) (state : ℕ → Bool) → ((a : ℕ) → a < n → known_of known a ≡ three_of (state a)) → ((a : ℕ) → n ≤ a → known_of known a ≡ Unknown) → KnownPast known [] state
past_first known n state values beyond a = elim (cases_lt a n) [ inl l ↦ inr (values a l, λ k d m. absurd (omega arith)) | inr l ↦ inl (beyond a l) ]

pub past_all : (known : List Three) (ends : List Window) (state : ℕ → Bool) → KnownPast known ends state → IsKnownRow known (points_of ends) state
past_all known ends state past a = elim (past a) [
  | inl e ↦ inl e
  | inr h ↦ inr (h.0, each_mapped point_of (λ p. sets p a ≡ false) ends (each_of (λ (w : Window). sets (point_of w) a ≡ false) ends h.1))
]

-- ---- what is still known

-- each atom that none of these windows writes has its value
abbrev pub KeptPast : List Three → List Window → ℕ → (ℕ → Bool) → Type 0
KeptPast known ends n state = (a : ℕ) → a < n → All (λ w. sets (point_of w) a ≡ false) ends → known_of known a ≡ three_of (state a)

unforgotten : (old new : Three) (h : Bool) → new ≡ cond h Unknown old → h ≡ false → new ≡ old
unforgotten old new true e h = absurd (true≢false h)
unforgotten old new false e h = e

none_of_both : (b c : Bool) → (b || c) ≡ false → (b ≡ false) × (c ≡ false)
none_of_both true c e = absurd (true≢false e)
none_of_both false c e = (refl, e)

fewer : (P : Window → Type 0) (ends : List Window) (i : ℕ) → All P (take (i + 1) ends) → All P (take i ends)
fewer P ends i h = subst (All P) (take-take i (i + 1) ends (omega arith)) (All-take P i (take (i + 1) ends) h)

last_one : (P : Window → Type 0) (ends : List Window) (i : ℕ) (w : Window) → i < length ends → w ≡ get_or ends i w → All P (take (i + 1) ends) → P w
last_one P ends i w l is h =
    let n : length (take (i + 1) ends) ≡ i + 1 = length-take-le (i + 1) ends (omega arith) in
    subst P (get_or-take (i + 1) ends i w (omega arith) ∙ sym is) (All-get_or P (take (i + 1) ends) i w (omega arith) h)

pub kept_more : (ends : List Window) (i : ℕ) (w : Window) (n : ℕ) (old mid new : List Three) (state : ℕ → Bool) → i < length ends → w ≡ get_or ends i w → ((a : ℕ) → known_of mid a ≡ cond (has (point_of w).event.adds a) Unknown (known_of old a)) →
    ((a : ℕ) → known_of new a ≡ cond (has (point_of w).event.dels a) Unknown (known_of mid a)) → KeptPast old (take i ends) n state → KeptPast new (take (i + 1) ends) n state
kept_more ends i w n old mid new state l is first second past a below none =
    let last : sets (point_of w) a ≡ false = last_one (λ (v : Window). sets (point_of v) a ≡ false) ends i w l is none in
    let neither = none_of_both (has (point_of w).event.adds a) (has (point_of w).event.dels a) last in
    unforgotten (known_of mid a) (known_of new a) (has (point_of w).event.dels a) (second a) neither.1
    ∙ (unforgotten (known_of old a) (known_of mid a) (has (point_of w).event.adds a) (first a) neither.0 ∙ past a below (fewer (λ (v : Window). sets (point_of v) a ≡ false) ends i none))

pub kept_all : (known : List Three) (ends : List Window) (n : ℕ) (state : ℕ → Bool) → KeptPast known ends n state → IsKeptRow known (points_of ends) n state
kept_all known ends n state past a below none = past a below (all_of (λ (w : Window). sets (point_of w) a ≡ false) ends (of_mapped point_of (λ p. sets p a ≡ false) ends (all_of (λ p. sets p a ≡ false) (points_of ends) none)))
