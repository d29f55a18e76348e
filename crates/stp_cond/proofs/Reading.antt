-- The truth of a formula depends only on the atoms that it reads.
use Rattle.std.proofs.Common.{◌≡◌, ℕ, Bool, true, not, ◌&&◌, ◌||◌, List, [], ◌∷◌, map, refl, sym, ap, subst, ◌∙◌}
use Rattle.std.proofs.lemmas.Bool.{and_parts}
use Rattle.stp_cond.specs.declared.cond.Cond.{Cond}
use Rattle.stp_cond.specs.declared.cond.Cond.TheOpen.{Cond-F}
use Rattle.stp_cond.specs.declared.cond.Cond.TheFolds.{fold-roll-Cond, ind-Cond, map-Cond}
use Rattle.stp_cond.specs.declared.cond.Cond.TheViews.{roll-Cond}
use Rattle.stp_cond.specs.Truth.{all_of, any_of, truth, truth_step, reads_only, reads_step}
use Rattle.stp_cond.specs.Laws.{TruthReadsItsAtoms}

abbrev IsAlike : (ℕ → Bool) → (ℕ → Bool) → (ℕ → Bool) → Cond → Type 0
IsAlike these s t cond = reads_only these cond ≡ true → truth s cond ≡ truth t cond

all_alike : (these s t : ℕ → Bool) (es : List ((c : Cond) × IsAlike these s t c)) → all_of (map (reads_only these) (map (λ e. e.0) es)) ≡ true → all_of (map (truth s) (map (λ e. e.0) es)) ≡ all_of (map (truth t) (map (λ e. e.0) es))
all_alike these s t [] reads = refl
all_alike these s t (e ∷ es) reads =
    let parts = and_parts (reads_only these e.0) (all_of (map (reads_only these) (map (λ e. e.0) es))) reads in
    ap (λ b. b && all_of (map (truth s) (map (λ e. e.0) es))) (e.1 parts.0) ∙ ap (λ b. truth t e.0 && b) (all_alike these s t es parts.1)

any_alike : (these s t : ℕ → Bool) (es : List ((c : Cond) × IsAlike these s t c)) → all_of (map (reads_only these) (map (λ e. e.0) es)) ≡ true → any_of (map (truth s) (map (λ e. e.0) es)) ≡ any_of (map (truth t) (map (λ e. e.0) es))
any_alike these s t [] reads = refl
any_alike these s t (e ∷ es) reads =
    let parts = and_parts (reads_only these e.0) (all_of (map (reads_only these) (map (λ e. e.0) es))) reads in
    ap (λ b. b || any_of (map (truth s) (map (λ e. e.0) es))) (e.1 parts.0) ∙ ap (λ b. truth t e.0 || b) (any_alike these s t es parts.1)

-- one layer, whose parts are alike
layer : (these s t : ℕ → Bool) → ((a : ℕ) → these a ≡ true → s a ≡ t a) → (y : Cond-F ((c : Cond) × IsAlike these s t c)) →
    reads_step these (map-Cond Cond Bool (reads_only these) (map-Cond ((c : Cond) × IsAlike these s t c) Cond (λ e. e.0) y)) ≡ true →
    truth_step s (map-Cond Cond Bool (truth s) (map-Cond ((c : Cond) × IsAlike these s t c) Cond (λ e. e.0) y)) ≡ truth_step t (map-Cond Cond Bool (truth t) (map-Cond ((c : Cond) × IsAlike these s t c) Cond (λ e. e.0) y))
layer these s t agree Cond-F.True reads = refl
layer these s t agree Cond-F.False reads = refl
layer these s t agree (Cond-F.Atom atom) reads = agree atom.0 reads
layer these s t agree (Cond-F.Not part) reads = ap not (part.now.1 reads)
layer these s t agree (Cond-F.And parts) reads = all_alike these s t parts.now reads
layer these s t agree (Cond-F.Or parts) reads = any_alike these s t parts.now reads

alike : (these s t : ℕ → Bool) → ((a : ℕ) → these a ≡ true → s a ≡ t a) → (y : Cond-F ((c : Cond) × IsAlike these s t c)) → IsAlike these s t (roll-Cond (map-Cond ((c : Cond) × IsAlike these s t c) Cond (λ e. e.0) y))
alike these s t agree y = λ reads.
    let x = map-Cond ((c : Cond) × IsAlike these s t c) Cond (λ e. e.0) y in
    fold-roll-Cond Bool (truth_step s) x ∙ (layer these s t agree y (sym (fold-roll-Cond Bool (reads_step these) x) ∙ reads) ∙ sym (fold-roll-Cond Bool (truth_step t) x))

pub truth_reads_its_atoms : TruthReadsItsAtoms
truth_reads_its_atoms these s t cond reads agree = ind-Cond (IsAlike these s t) (λ x y is. subst (λ z. IsAlike these s t (roll-Cond z)) is (alike these s t agree y)) cond reads
