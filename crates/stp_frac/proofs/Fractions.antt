-- Laws of numbers with a sign.
use Rattle.std.proofs.Common.{◌≡◌, ℕ, zero, suc, ◌+◌, ◌-◌, ◌*◌, ◌≤◌, Bool, true, false, not, ℤ, pos, negsuc, ◌+ℤ◌, ◌*ℤ◌, neg_ℤ, refl, sym, ◌∙◌, ap, ap₂, arith, zero-mul}
use Rattle.std.proofs.lemmas.Int.{ints}
use lib.IntN.{neg_ℤ-neg_ℤ}
use mathlib.Core.Bool.{beq}
use Rattle.stp_frac.specs.Fractions.{Fraction, signed, fraction, sum_of, difference_of}

pub signed_times_pos : (s : Bool) (n d : ℕ) → signed s n *ℤ pos d ≡ signed s (n * d)
signed_times_pos false n d = refl
signed_times_pos true zero d = rw zero-mul
signed_times_pos true (suc n) d = refl

signed_plus_same : (s : Bool) (m n : ℕ) → signed s m +ℤ signed s n ≡ signed s (m + n)
signed_plus_same false m n = refl
signed_plus_same true m n = omega (arith, ints)

signed_plus_left : (s : Bool) (m n : ℕ) → n ≤ m → signed s m +ℤ signed (not s) n ≡ signed s (m - n)
signed_plus_left false m n le = omega (arith, ints)
signed_plus_left true m n le = omega (arith, ints)

signed_plus_right : (s : Bool) (m n : ℕ) → m ≤ n → signed (not s) m +ℤ signed s n ≡ signed s (n - m)
signed_plus_right false m n le = omega (arith, ints)
signed_plus_right true m n le = omega (arith, ints)

pub sum_same : (s : Bool) (a b c d : ℕ) → signed s a *ℤ pos d +ℤ signed s c *ℤ pos b ≡ signed s (a * d + c * b)
sum_same s a b c d = ap₂ (λ x y. x +ℤ y) (signed_times_pos s a d) (signed_times_pos s c b) ∙ signed_plus_same s (a * d) (c * b)

pub sum_left : (s : Bool) (a b c d : ℕ) → c * b ≤ a * d → signed s a *ℤ pos d +ℤ signed (not s) c *ℤ pos b ≡ signed s (a * d - c * b)
sum_left s a b c d le = ap₂ (λ x y. x +ℤ y) (signed_times_pos s a d) (signed_times_pos (not s) c b) ∙ signed_plus_left s (a * d) (c * b) le

pub sum_right : (s : Bool) (a b c d : ℕ) → a * d ≤ c * b → signed (not s) a *ℤ pos d +ℤ signed s c *ℤ pos b ≡ signed s (c * b - a * d)
sum_right s a b c d le = ap₂ (λ x y. x +ℤ y) (signed_times_pos (not s) a d) (signed_times_pos s c b) ∙ signed_plus_right s (a * d) (c * b) le

-- ---- the same, by what a test of the signs says

are_same : (s t : Bool) → beq s t ≡ true → s ≡ t
are_same true true e = refl
are_same false false e = refl
are_same true false e = cc
are_same false true e = cc

are_other : (s t : Bool) → beq s t ≡ false → t ≡ not s
are_other true false e = refl
are_other false true e = refl
are_other true true e = cc
are_other false false e = cc

are_other_way : (s t : Bool) → beq s t ≡ false → s ≡ not t
are_other_way true false e = refl
are_other_way false true e = refl
are_other_way true true e = cc
are_other_way false false e = cc

pub sum_of_same : (s t : Bool) (a b c d : ℕ) → beq s t ≡ true → signed s a *ℤ pos d +ℤ signed t c *ℤ pos b ≡ signed s (a * d + c * b)
sum_of_same s t a b c d e = rw (sym (are_same s t e)) (sum_same s a b c d)

pub sum_of_left : (s t : Bool) (a b c d : ℕ) → beq s t ≡ false → c * b ≤ a * d → signed s a *ℤ pos d +ℤ signed t c *ℤ pos b ≡ signed s (a * d - c * b)
sum_of_left s t a b c d e le = rw (are_other s t e) (sum_left s a b c d le)

pub sum_of_right : (s t : Bool) (a b c d : ℕ) → beq s t ≡ false → a * d ≤ c * b → signed s a *ℤ pos d +ℤ signed t c *ℤ pos b ≡ signed t (c * b - a * d)
sum_of_right s t a b c d e le = rw (are_other_way s t e) (sum_right t a b c d le)

-- ---- the other side of 0

pub neg_times_pos : (z : ℤ) (d : ℕ) → neg_ℤ z *ℤ pos d ≡ neg_ℤ (z *ℤ pos d)
neg_times_pos (pos zero) d = rw zero-mul
neg_times_pos (pos (suc n)) d = refl
neg_times_pos (negsuc n) d = sym (neg_ℤ-neg_ℤ (pos (suc n * d)))

-- the difference is the sum with the other side of 0
pub sum_with_negated : (f g : Fraction) (top : ℤ) (bottom : ℕ) → top ≡ neg_ℤ g.top → bottom ≡ g.bottom → sum_of f (record { top = top; bottom = bottom }) ≡ difference_of f g
unfolding sum_of difference_of
sum_with_negated f g top bottom e e' =
    rw (e, e') (ap (λ (z : ℤ). fraction (f.top *ℤ pos g.bottom +ℤ z) (f.bottom * g.bottom)) (neg_times_pos g.top f.bottom))
