-- A text has a spelling exactly where it is the bytes of one.
use Rattle.std.proofs.Common.{◌≡◌, ℕ, ◌+◌, ◌<◌, Bool, true, false, ◌&&◌, ◌==◌, if◌then◌else◌, List, ◌∷◌, ◌++◌, length, take, drop, slice_index, Some, None, IfSome, refl, sym, ◌∙◌, ap, arith, eqb-true, ltb-true, add-one, take-append-drop, drop-cons, length-drop}
use Rattle.stp_frac.specs.Reading.{is_group, leading, parted}
use Rattle.stp_frac.specs.Reading.Spelling.{Whole, Point, Over}
use Rattle.stp_frac.specs.Laws.{IsSpelling, spelled, SpellingsAreFound, FoundSpellingsAreTheTexts}
use Rattle.stp_frac.proofs.Divisors.{left_true, right_true}
use Rattle.stp_frac.proofs.Reading.{group_some, spelled_whole, spelled_point, spelled_over}

pub spellings_are_found : SpellingsAreFound
spellings_are_found (Whole ds) h = spelled_whole ds h
spellings_are_found (Point before after) h = spelled_point before after h.0 h.1
spellings_are_found (Over before after) h = spelled_over before after h.0 h.1

-- a text is what stands before a byte, the byte, and what stands after it
around : (bs : List ℕ) (n : ℕ) → is_group (drop (n + 1) bs) ≡ true → take n bs ++ slice_index bs n ∷ drop (n + 1) bs ≡ bs
around bs n h =
    let some : 0 < length (drop (n + 1) bs) = ltb-true 0 (length (drop (n + 1) bs)) (group_some (drop (n + 1) bs) h) in
    let within : n < length bs = omega (arith, some, length-drop (n + 1) bs) in
    ap (λ (k : ℕ). take n bs ++ slice_index bs n ∷ drop k bs) (add-one n)
    ∙ ap (λ (t : List ℕ). take n bs ++ t) (sym (drop-cons bs n 0 within))
    ∙ take-append-drop n bs

mark_found : (x y : Bool) (mark : ℕ) (before after bs : List ℕ) → (mark == 46) ≡ x → (mark == 47) ≡ y → is_group before ≡ true → is_group after ≡ true → before ++ mark ∷ after ≡ bs → IfSome (if x then Some (Point before after) else if y then Some (Over before after) else None) (λ s. IsSpelling s × (spelled s ≡ bs))
mark_found true y mark before after bs e f h k is = ((h, k), ap (λ (m : ℕ). before ++ m ∷ after) (sym (eqb-true mark 46 e)) ∙ is)
mark_found false true mark before after bs e f h k is = ((h, k), ap (λ (m : ℕ). before ++ m ∷ after) (sym (eqb-true mark 47 f)) ∙ is)
mark_found false false mark before after bs e f h k is = tt

parted_found : (x : Bool) (mark : ℕ) (before after bs : List ℕ) → (is_group before && is_group after) ≡ x → (is_group after ≡ true → before ++ mark ∷ after ≡ bs) → IfSome (if x then (if mark == 46 then Some (Point before after) else if mark == 47 then Some (Over before after) else None) else None) (λ s. IsSpelling s × (spelled s ≡ bs))
parted_found true mark before after bs e is =
    let h : is_group before ≡ true = left_true (is_group before) (is_group after) e in
    let k : is_group after ≡ true = right_true (is_group before) (is_group after) e in
    mark_found (mark == 46) (mark == 47) mark before after bs refl refl h k (is k)
parted_found false mark before after bs e is = tt

found : (x : Bool) (bs : List ℕ) (n : ℕ) → is_group bs ≡ x → IfSome (if x then Some (Whole bs) else parted (slice_index bs n) (take n bs) (drop (n + 1) bs)) (λ s. IsSpelling s × (spelled s ≡ bs))
found true bs n e = (e, refl)
found false bs n e = parted_found (is_group (take n bs) && is_group (drop (n + 1) bs)) (slice_index bs n) (take n bs) (drop (n + 1) bs) bs refl (around bs n)

pub found_spellings_are_the_texts : FoundSpellingsAreTheTexts
found_spellings_are_the_texts bs = found (is_group bs) bs (leading bs) refl
