-- What is decided of a formula holds in each state, and a formula whose atoms are known is decided.
use Rattle.std.proofs.Common.{◌≡◌, ℕ, ◌+◌, ◌<◌, nat_lt, Bool, true, false, not, ◌&&◌, ◌||◌, List, [], ◌∷◌, map, drop, length, get_or, refl, sym, ap, ap₂, subst, ◌∙◌}
use Rattle.std.proofs.lemmas.Bool.{and_parts, ltb-true}
use Rattle.std.proofs.lemmas.List.{at_drop_more, get_or_default}
use Rattle.stp_base.specs.declared.ids.AtomId.{AtomId}
use Rattle.stp_cond.specs.declared.cond.Cond.{Cond}
use Rattle.stp_cond.specs.declared.cond.Cond.TheOpen.{Cond-F}
use Rattle.stp_cond.specs.declared.cond.Cond.TheVariants.{Atom, rolls-Atom}
use Rattle.stp_cond.specs.declared.cond.Cond.TheFolds.{fold-roll-Cond, ind-Cond, map-Cond}
use Rattle.stp_cond.specs.declared.cond.Cond.TheViews.{roll-Cond}
use Rattle.stp_cond.specs.declared.known.Three.{Three}
use Rattle.stp_cond.specs.declared.known.Three.TheVariants.{Yes, No, Unknown}
use Rattle.stp_cond.specs.Decided.{three_of, opposite, both, either, all_three, any_three, decided, decided_step, DecidedHoldsInAll, KnownAtomsDecide}
use Rattle.stp_cond.specs.Folded.{Fits, Agrees, known_of}
use Rattle.stp_cond.specs.Truth.{all_of, any_of, truth, truth_step, reads_only, reads_step, is_below}
use Rattle.stp_cond.proofs.Equations.{reads_atom}

-- ---- in each state

opposite_fits : (s : Three) (x : Bool) → Fits s x → Fits (opposite s) (not x)
opposite_fits Yes x e = ap not e
opposite_fits No x e = ap not e
opposite_fits Unknown x e = tt

and_false : (x y : Bool) → y ≡ false → (x && y) ≡ false
and_false true y e = e
and_false false y e = refl

or_true : (x y : Bool) → y ≡ true → (x || y) ≡ true
or_true true y e = refl
or_true false y e = e

both_fits : (s t : Three) (x y : Bool) → Fits s x → Fits t y → Fits (both s t) (x && y)
both_fits Yes t x y e f = subst (λ b. Fits t (b && y)) (sym e) f
both_fits No t x y e f = ap (λ b. b && y) e
both_fits Unknown Yes x y e f = tt
both_fits Unknown No x y e f = and_false x y f
both_fits Unknown Unknown x y e f = tt

either_fits : (s t : Three) (x y : Bool) → Fits s x → Fits t y → Fits (either s t) (x || y)
either_fits Yes t x y e f = ap (λ b. b || y) e
either_fits No t x y e f = subst (λ b. Fits t (b || y)) (sym e) f
either_fits Unknown Yes x y e f = or_true x y f
either_fits Unknown No x y e f = tt
either_fits Unknown Unknown x y e f = tt

abbrev IsFitting : (ℕ → Three) → (ℕ → Bool) → Cond → Type 0
IsFitting known state cond = Fits (decided known cond) (truth state cond)

all_fit : (known : ℕ → Three) (state : ℕ → Bool) (es : List ((c : Cond) × IsFitting known state c)) → Fits (all_three (map (decided known) (map (λ e. e.0) es))) (all_of (map (truth state) (map (λ e. e.0) es)))
all_fit known state [] = refl
all_fit known state (e ∷ es) = both_fits (decided known e.0) (all_three (map (decided known) (map (λ e. e.0) es))) (truth state e.0) (all_of (map (truth state) (map (λ e. e.0) es))) e.1 (all_fit known state es)

any_fits : (known : ℕ → Three) (state : ℕ → Bool) (es : List ((c : Cond) × IsFitting known state c)) → Fits (any_three (map (decided known) (map (λ e. e.0) es))) (any_of (map (truth state) (map (λ e. e.0) es)))
any_fits known state [] = refl
any_fits known state (e ∷ es) = either_fits (decided known e.0) (any_three (map (decided known) (map (λ e. e.0) es))) (truth state e.0) (any_of (map (truth state) (map (λ e. e.0) es))) e.1 (any_fits known state es)

fit_layer : (known : ℕ → Three) (state : ℕ → Bool) → Agrees known state → (y : Cond-F ((c : Cond) × IsFitting known state c)) →
    Fits (decided_step known (map-Cond Cond Three (decided known) (map-Cond ((c : Cond) × IsFitting known state c) Cond (λ e. e.0) y)))
    (truth_step state (map-Cond Cond Bool (truth state) (map-Cond ((c : Cond) × IsFitting known state c) Cond (λ e. e.0) y)))
fit_layer known state agrees Cond-F.True = refl
fit_layer known state agrees Cond-F.False = refl
fit_layer known state agrees (Cond-F.Atom atom) = agrees atom.0
fit_layer known state agrees (Cond-F.Not part) = opposite_fits (decided known part.now.0) (truth state part.now.0) part.now.1
fit_layer known state agrees (Cond-F.And parts) = all_fit known state parts.now
fit_layer known state agrees (Cond-F.Or parts) = any_fits known state parts.now

fits_all : (known : ℕ → Three) (state : ℕ → Bool) → Agrees known state → (y : Cond-F ((c : Cond) × IsFitting known state c)) → IsFitting known state (roll-Cond (map-Cond ((c : Cond) × IsFitting known state c) Cond (λ e. e.0) y))
fits_all known state agrees y =
    let x = map-Cond ((c : Cond) × IsFitting known state c) Cond (λ e. e.0) y in
    subst (λ s. Fits s (truth state (roll-Cond x))) (sym (fold-roll-Cond Three (decided_step known) x))
    (subst (Fits (decided_step known (map-Cond Cond Three (decided known) x))) (sym (fold-roll-Cond Bool (truth_step state) x)) (fit_layer known state agrees y))

pub decided_holds_in_all : DecidedHoldsInAll
decided_holds_in_all known state cond agrees = ind-Cond (IsFitting known state) (λ x y is. subst (λ z. IsFitting known state (roll-Cond z)) is (fits_all known state agrees y)) cond

-- ---- where all atoms are known

both_known : (x y : Bool) → both (three_of x) (three_of y) ≡ three_of (x && y)
both_known true y = refl
both_known false y = refl

either_known : (x y : Bool) → either (three_of x) (three_of y) ≡ three_of (x || y)
either_known true y = refl
either_known false y = refl

opposite_known : (x : Bool) → opposite (three_of x) ≡ three_of (not x)
opposite_known true = refl
opposite_known false = refl

abbrev IsDecided : (ℕ → Bool) → (ℕ → Three) → (ℕ → Bool) → Cond → Type 0
IsDecided these known state cond = reads_only these cond ≡ true → decided known cond ≡ three_of (truth state cond)

all_decided : (these : ℕ → Bool) (known : ℕ → Three) (state : ℕ → Bool) (es : List ((c : Cond) × IsDecided these known state c)) → all_of (map (reads_only these) (map (λ e. e.0) es)) ≡ true →
    all_three (map (decided known) (map (λ e. e.0) es)) ≡ three_of (all_of (map (truth state) (map (λ e. e.0) es)))
all_decided these known state [] reads = refl
all_decided these known state (e ∷ es) reads =
    let parts = and_parts (reads_only these e.0) (all_of (map (reads_only these) (map (λ e. e.0) es))) reads in
    ap₂ both (e.1 parts.0) (all_decided these known state es parts.1) ∙ both_known (truth state e.0) (all_of (map (truth state) (map (λ e. e.0) es)))

any_decided : (these : ℕ → Bool) (known : ℕ → Three) (state : ℕ → Bool) (es : List ((c : Cond) × IsDecided these known state c)) → all_of (map (reads_only these) (map (λ e. e.0) es)) ≡ true →
    any_three (map (decided known) (map (λ e. e.0) es)) ≡ three_of (any_of (map (truth state) (map (λ e. e.0) es)))
any_decided these known state [] reads = refl
any_decided these known state (e ∷ es) reads =
    let parts = and_parts (reads_only these e.0) (all_of (map (reads_only these) (map (λ e. e.0) es))) reads in
    ap₂ either (e.1 parts.0) (any_decided these known state es parts.1) ∙ either_known (truth state e.0) (any_of (map (truth state) (map (λ e. e.0) es)))

decided_layer : (these : ℕ → Bool) (known : ℕ → Three) (state : ℕ → Bool) → ((a : ℕ) → these a ≡ true → known a ≡ three_of (state a)) → (y : Cond-F ((c : Cond) × IsDecided these known state c)) →
    reads_step these (map-Cond Cond Bool (reads_only these) (map-Cond ((c : Cond) × IsDecided these known state c) Cond (λ e. e.0) y)) ≡ true →
    decided_step known (map-Cond Cond Three (decided known) (map-Cond ((c : Cond) × IsDecided these known state c) Cond (λ e. e.0) y))
    ≡ three_of (truth_step state (map-Cond Cond Bool (truth state) (map-Cond ((c : Cond) × IsDecided these known state c) Cond (λ e. e.0) y)))
decided_layer these known state is Cond-F.True reads = refl
decided_layer these known state is Cond-F.False reads = refl
decided_layer these known state is (Cond-F.Atom atom) reads = is atom.0 reads
decided_layer these known state is (Cond-F.Not part) reads = ap opposite (part.now.1 reads) ∙ opposite_known (truth state part.now.0)
decided_layer these known state is (Cond-F.And parts) reads = all_decided these known state parts.now reads
decided_layer these known state is (Cond-F.Or parts) reads = any_decided these known state parts.now reads

decided_all : (these : ℕ → Bool) (known : ℕ → Three) (state : ℕ → Bool) → ((a : ℕ) → these a ≡ true → known a ≡ three_of (state a)) → (y : Cond-F ((c : Cond) × IsDecided these known state c)) →
    IsDecided these known state (roll-Cond (map-Cond ((c : Cond) × IsDecided these known state c) Cond (λ e. e.0) y))
decided_all these known state is y = λ reads.
    let x = map-Cond ((c : Cond) × IsDecided these known state c) Cond (λ e. e.0) y in
    fold-roll-Cond Three (decided_step known) x
    ∙ (decided_layer these known state is y (sym (fold-roll-Cond Bool (reads_step these) x) ∙ reads) ∙ ap three_of (sym (fold-roll-Cond Bool (truth_step state) x)))

pub known_atoms_decide : KnownAtomsDecide
known_atoms_decide these known state cond reads is = ind-Cond (IsDecided these known state) (λ x y e. subst (λ z. IsDecided these known state (roll-Cond z)) e (decided_all these known state is y)) cond reads

-- ---- members one after another

pub either_more : (k l m : Three) → either (either k l) m ≡ either k (either l m)
either_more Yes l m = refl
either_more No l m = refl
either_more Unknown Yes m = refl
either_more Unknown No m = refl
either_more Unknown Unknown Yes = refl
either_more Unknown Unknown No = refl
either_more Unknown Unknown Unknown = refl

pub both_more : (k l m : Three) → both (both k l) m ≡ both k (both l m)
both_more Yes l m = refl
both_more No l m = refl
both_more Unknown Yes m = refl
both_more Unknown No m = refl
both_more Unknown Unknown Yes = refl
both_more Unknown Unknown No = refl
both_more Unknown Unknown Unknown = refl

pub any_more : (known : ℕ → Three) (parts : List Cond) (i : ℕ) (part : Cond) (so_far now whole : Three) → i < length parts → part ≡ get_or parts i part → now ≡ either so_far (decided known part) →
    either so_far (any_three (map (decided known) (drop i parts))) ≡ whole → either now (any_three (map (decided known) (drop (i + 1) parts))) ≡ whole
any_more known parts i part so_far now whole l is e h =
    ap (λ t. either t (any_three (map (decided known) (drop (i + 1) parts)))) e
    ∙ (either_more so_far (decided known part) (any_three (map (decided known) (drop (i + 1) parts)))
    ∙ (ap (λ p. either so_far (either (decided known p) (any_three (map (decided known) (drop (i + 1) parts))))) is
    ∙ (sym (ap (either so_far) (at_drop_more (λ ps. any_three (map (decided known) ps)) parts i part l)) ∙ h)))

-- ---- an atom

pub decided_atom : (partial : List Three) (cond : Cond) (atom : AtomId) → cond ≡ Atom atom → is_below (length partial) cond ≡ true → get_or partial atom.0 Yes ≡ decided (known_of partial) cond
decided_atom partial cond atom is below =
    let l : atom.0 < length partial = ltb-true atom.0 (length partial) (sym (ap (is_below (length partial)) is ∙ reads_atom (λ a. nat_lt a (length partial)) atom) ∙ below) in
    get_or_default partial atom.0 Yes Unknown l
    ∙ sym (ap (decided (known_of partial)) (is ∙ sym (rolls-Atom atom)) ∙ fold-roll-Cond Three (decided_step (known_of partial)) (Cond-F.Atom atom))

pub below_more : (n : ℕ) (parts : List Cond) (i : ℕ) (part : Cond) → i < length parts → all_of (map (is_below n) (drop i parts)) ≡ true → all_of (map (is_below n) (drop (i + 1) parts)) ≡ true
below_more n parts i part l h =
    (and_parts (is_below n (get_or parts i part)) (all_of (map (is_below n) (drop (i + 1) parts))) (sym (at_drop_more (λ ps. all_of (map (is_below n) ps)) parts i part l) ∙ h)).1
