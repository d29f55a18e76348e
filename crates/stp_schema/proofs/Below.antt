-- Whether a type is below another, where one of the numbers is that of no type.
use Rattle.std.proofs.Common.{◌≡◌, ℕ, zero, suc, ◌<◌, ◌≤◌, Bool, true, false, List, length, if◌then◌else◌, refl, ap, sym, ◌∙◌, arith, eqb}
use Rattle.std.specs.Prelude.{◌||◌, slice_index}
use Rattle.std.proofs.lemmas.Bool.Decides.{nat_tests}
use Rattle.std.proofs.lemmas.List.{get_or_past}
use Rattle.stp_types.specs.declared.row.Ancestry.{Ancestry}
use Rattle.stp_types.specs.Forest.{parent_of, climbs, is_below, IsTable}
use Rattle.stp_types.specs.Rows.{AreAncestries, row_at, parents_of}
use Rattle.stp_types.proofs.Asking.{size, parent_is}

either_way : (b c d : Bool) → c ≡ d → (if b then true else c) ≡ (b || d)
either_way true c d e = refl
either_way false c d e = e

either_same : (b c : Bool) → c ≡ b → (if b then true else c) ≡ b
either_same true c e = refl
either_same false c e = e

-- from the root
from_root : (parents : List ℕ) (n other : ℕ) → parent_of parents 0 ≡ 0 → climbs parents n 0 other ≡ eqb 0 other
from_root parents zero other root = refl
from_root parents (suc n) other root = either_same (eqb 0 other) (climbs parents n (parent_of parents 0) other) (ap (λ k. climbs parents n k other) root ∙ from_root parents n other root)

no_parent : (parents : List ℕ) (kind : ℕ) → length parents ≤ kind → parent_of parents kind ≡ 0
no_parent parents kind h = get_or_past parents kind 0 h

from_outside : (parents : List ℕ) (n kind other : ℕ) → 0 < n → parent_of parents 0 ≡ 0 → length parents ≤ kind → climbs parents n kind other ≡ (eqb kind other || eqb other 0)
from_outside parents zero kind other some root h = absurd (omega (arith, some))
from_outside parents (suc n) kind other some root h =
    either_way (eqb kind other) (climbs parents n (parent_of parents kind) other) (eqb other 0)
    (ap (λ k. climbs parents n k other) (no_parent parents kind h) ∙ from_root parents n other root ∙ swap other)
  where
    swap : (n : ℕ) → eqb 0 n ≡ eqb n 0
    swap n = grind (arith, nat_tests)

-- a number of no type is below the root alone
outside_below : (parents : List ℕ) (kind other : ℕ) → IsTable parents → length parents ≤ kind → is_below parents kind other ≡ (eqb kind other || eqb other 0)
outside_below parents kind other t h = from_outside parents (length parents) kind other t.some t.root h

neither : (b c : Bool) → b ≡ false → c ≡ false → (if b then true else c) ≡ false
neither true c e f = e
neither false c e f = f

apart : (kind other n : ℕ) → kind < n → n ≤ other → eqb kind other ≡ false
apart kind other n h k = grind (arith, nat_tests, h, k)

from_inside : (parents : List ℕ) (n kind other : ℕ) → IsTable parents → kind < length parents → length parents ≤ other → climbs parents n kind other ≡ false
from_inside parents zero kind other t h k = apart kind other (length parents) h k
from_inside parents (suc n) kind other t h k = neither (eqb kind other) (climbs parents n (parent_of parents kind) other) (apart kind other (length parents) h k) (from_inside parents n (parent_of parents kind) other t (t.within kind h) k)

-- no type is below a number of no type
inside_below : (parents : List ℕ) (kind other : ℕ) → IsTable parents → kind < length parents → length parents ≤ other → is_below parents kind other ≡ false
inside_below parents kind other t h k = from_inside parents (length parents) kind other t h k

-- ---- of rows

rows_table : (rows : List Ancestry) → AreAncestries rows → IsTable (parents_of rows)
rows_table rows a = let l = size rows a in record {
  some = let s = a.some in omega arith;
  root = parent_is rows a 0 a.some ∙ a.root;
  within = λ kind h. let k : kind < length rows = omega arith in let e = parent_is rows a kind k in let w = a.parent_within kind k in omega arith;
}

pub outside_rows : (rows : List Ancestry) (parents : List ℕ) (kind other : ℕ) → AreAncestries rows → parents_of rows ≡ parents → length rows ≤ kind → is_below parents kind other ≡ (eqb kind other || eqb other 0)
outside_rows rows parents kind other a e h = rw (← e) (outside_below (parents_of rows) kind other (rows_table rows a) (let l = size rows a in omega arith))

pub inside_rows : (rows : List Ancestry) (parents : List ℕ) (kind other : ℕ) → AreAncestries rows → parents_of rows ≡ parents → kind < length rows → length rows ≤ other → is_below parents kind other ≡ false
inside_rows rows parents kind other a e h k = rw (← e) (inside_below (parents_of rows) kind other (rows_table rows a) (let l = size rows a in omega arith) (let l = size rows a in omega arith))
