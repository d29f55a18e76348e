-- How much of a formula there is, for measures.
use Rattle.std.proofs.Common.{◌≡◌, ℕ, zero, suc, ◌+◌, ◌<◌, ◌≤◌, List, [], ◌∷◌, map, drop, length, get_or, ap, sym, ◌∙◌, arith, refl, Bor}
use Rattle.std.proofs.lemmas.List.{at_drop_more}
use Rattle.stp_cond.specs.declared.cond.Cond.{Cond}
use Rattle.stp_cond.specs.declared.cond.Cond.TheOpen.{Cond-F}
use Rattle.stp_cond.specs.declared.cond.Cond.TheVariants.{Not, And, Or, rolls-Not, rolls-And, rolls-Or}
use Rattle.stp_cond.specs.declared.cond.Cond.TheFolds.{fold-Cond, fold-roll-Cond}

abbrev pub weights : List ℕ → ℕ
weights [] = 0
weights (n ∷ ns) = 1 + (n + weights ns)

abbrev pub weight_step : Cond-F ℕ → ℕ
weight_step Cond-F.True = 1
weight_step Cond-F.False = 1
weight_step (Cond-F.Atom atom) = 1
weight_step (Cond-F.Not part) = 1 + part.now
weight_step (Cond-F.And parts) = 1 + weights parts.now
weight_step (Cond-F.Or parts) = 1 + weights parts.now

abbrev pub weight : Cond → ℕ
weight = fold-Cond ℕ weight_step

abbrev pub weight_all : List Cond → ℕ
weight_all conds = weights (map weight conds)

pub weight_not : (cond : Cond) (part : Bor Cond) → cond ≡ Not part → weight cond ≡ 1 + weight part.now
weight_not cond part is = ap weight (is ∙ sym (rolls-Not part)) ∙ fold-roll-Cond ℕ weight_step (Cond-F.Not part)

pub weight_and : (cond : Cond) (parts : Bor (List Cond)) → cond ≡ And parts → weight cond ≡ 1 + weight_all parts.now
weight_and cond parts is = ap weight (is ∙ sym (rolls-And parts)) ∙ fold-roll-Cond ℕ weight_step (Cond-F.And parts)

pub weight_or : (cond : Cond) (parts : Bor (List Cond)) → cond ≡ Or parts → weight cond ≡ 1 + weight_all parts.now
weight_or cond parts is = ap weight (is ∙ sym (rolls-Or parts)) ∙ fold-roll-Cond ℕ weight_step (Cond-F.Or parts)

-- what is left from a later place on is less
pub weight_later : (cs : List Cond) (i j : ℕ) → i ≤ j → weight_all (drop j cs) ≤ weight_all (drop i cs)
weight_later [] zero zero l = omega arith
weight_later [] zero (suc j) l = omega arith
weight_later [] (suc i) zero l = absurd (omega arith)
weight_later [] (suc i) (suc j) l = omega arith
weight_later (c ∷ cs) zero zero l = omega arith
weight_later (c ∷ cs) zero (suc j) l = let h : weight_all (drop j cs) ≤ weight_all cs = weight_later cs zero j (omega arith) in omega arith
weight_later (c ∷ cs) (suc i) zero l = absurd (omega arith)
weight_later (c ∷ cs) (suc i) (suc j) l = weight_later cs i j (omega arith)

-- a formula from a place on
pub weight_at : (cs : List Cond) (start i : ℕ) (c : Cond) → start ≤ i → i < length cs → c ≡ get_or cs i c → 1 + weight c ≤ weight_all (drop start cs)
weight_at cs start i c l k is =
    let h : weight_all (drop i cs) ≤ weight_all (drop start cs) = weight_later cs start i l in
    let e : weight_all (drop i cs) ≡ 1 + (weight (get_or cs i c) + weight_all (drop (i + 1) cs)) = at_drop_more weight_all cs i c k in
    let f : weight c ≡ weight (get_or cs i c) = ap weight is in
    omega (arith, h, e, f)

pub weight_there : (cs : List Cond) (i : ℕ) (c : Cond) → i < length cs → c ≡ get_or cs i c → weight c ≤ weight_all cs
weight_there cs i c k is = let h : 1 + weight c ≤ weight_all (drop 0 cs) = weight_at cs 0 i c (omega arith) k is in let e : weight_all (drop 0 cs) ≡ weight_all cs = refl in omega (arith, h, e)
