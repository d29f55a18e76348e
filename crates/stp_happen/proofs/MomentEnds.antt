-- Where a moment ends.
use Rattle.std.proofs.Common.{◌≡◌, ℕ, ◌<◌, ◌≤◌, List, length, get_or, ap, arith}
use Rattle.std.specs.List.Sorted.{IsNonDecreasingBy}
use Rattle.std.proofs.lemmas.List.{get_or_default}
use Rattle.stp_happen.specs.declared.run.Entry.{Entry}

pub later_from : (entries : List Entry) (start end k : ℕ) (d r s : Entry) → IsNonDecreasingBy (λ e. e.time) entries → start < end → end ≤ k → k < length entries → ((get_or entries end r).time ≡ (get_or entries start s).time → ⊥) → (get_or entries start d).time < (get_or entries k d).time
later_from entries start end k d r s ordered after from inside other =
    let first : (get_or entries start d).time ≤ (get_or entries end d).time = ordered start end d (omega arith) (omega arith) in
    let second : (get_or entries end d).time ≤ (get_or entries k d).time = ordered end k d from inside in
    let same_end : (get_or entries end r).time ≡ (get_or entries end d).time = ap (λ e. e.time) (get_or_default entries end r d (omega arith)) in
    let same_start : (get_or entries start s).time ≡ (get_or entries start d).time = ap (λ e. e.time) (get_or_default entries start s d (omega arith)) in
    omega (arith, other)
