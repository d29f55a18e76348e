-- What each value keeps, in the words of fractions.
use Rattle.std.proofs.Common.{◌≡◌, ℕ, zero, suc, ◌^◌, ◌<◌, ◌≤◌, Bool, true, false, ◌&&◌, ◌==◌, pos, ◌*ℤ◌, unsigned_abs, Equal, refl, sym, ◌∙◌, ap, subst}
use Rattle.stp_frac.specs.declared.frac.Frac.{Frac}
use Rattle.stp_frac.specs.Divisors.{gcd}
use Rattle.stp_frac.specs.Fractions.{Fraction, signed, is_below_zero, value_of, order_of}
use Rattle.stp_frac.specs.Laws.{CanBeSpelled}
use Rattle.std.proofs.lemmas.Cmp.{int_ranked}
use Rattle.stp_frac.proofs.Lowest.{coprime_parts, lowest_terms_are_unique}
use Rattle.stp_frac.proofs.Reading.{lowest_already}

pub abs_signed : (s : Bool) (n : ℕ) → unsigned_abs (signed s n) ≡ n
abs_signed false n = refl
abs_signed true zero = refl
abs_signed true (suc n) = refl

sign_signed : (s : Bool) (n : ℕ) → (s && (n == 0)) ≡ false → is_below_zero (signed s n) ≡ s
sign_signed false n e = refl
sign_signed true zero e = cc
sign_signed true (suc n) e = refl

pub value_is_lowest : (f : Frac) → gcd (unsigned_abs (value_of f).top) (value_of f).bottom ≡ 1
value_is_lowest f = ap (λ (n : ℕ). gcd n f.bottom) (abs_signed f.negative f.top) ∙ f.lowest

pub value_size : (f : Frac) → unsigned_abs (value_of f).top < 10 ^ 18
value_size f = subst (λ (n : ℕ). n < 10 ^ 18) (sym (abs_signed f.negative f.top)) f.size

pub value_sign : (f : Frac) → is_below_zero (value_of f).top ≡ f.negative
value_sign f = sign_signed f.negative f.top f.sign

-- a value whose denominator keeps the limit, and which keeps it where it is whole, can be spelled
pub value_can_be_spelled : (f : Frac) → (value_of f).bottom ≤ 999999999 → ((value_of f).bottom ≡ 1 → unsigned_abs (value_of f).top ≤ 999999999) → CanBeSpelled (value_of f)
value_can_be_spelled f high whole =
    record { low = f.low; high = high; size = value_size f; whole = whole; lowest = value_is_lowest f }

-- two values that are the same fraction have the same parts
pub same_value : (f g : Frac) → value_of f ≡ value_of g → (f.negative ≡ g.negative) × (f.top ≡ g.top) × (f.bottom ≡ g.bottom)
same_value f g e = (
  sym (value_sign f) ∙ ap (λ (v : Fraction). is_below_zero v.top) e ∙ value_sign g,
  sym (abs_signed f.negative f.top) ∙ ap (λ (v : Fraction). unsigned_abs v.top) e ∙ abs_signed g.negative g.top,
  ap (λ (v : Fraction). v.bottom) e,
)

-- values that compare as equal are the same fraction
pub same_from_order : (f g : Frac) → order_of (value_of f) (value_of g) ≡ Equal → value_of f ≡ value_of g
unfolding order_of
same_from_order f g e =
    let v : Fraction = value_of f in
    let w : Fraction = value_of g in
    let is : v.top *ℤ pos w.bottom ≡ w.top *ℤ pos v.bottom = int_ranked (v.top *ℤ pos w.bottom) (w.top *ℤ pos v.bottom) Equal (sym e) in
    lowest_terms_are_unique w.top w.bottom v g.low
    (record { same = is; bottom = f.low; coprime = λ k p q. coprime_parts (unsigned_abs v.top) v.bottom k (value_is_lowest f) p q })
    ∙ lowest_already w.top w.bottom (value_is_lowest g)
