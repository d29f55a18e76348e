-- Edges are taken back one after another.
use Rattle.std.proofs.Common.{◌≡◌, ℕ, ◌-◌, ◌≤◌, List, take, length, ap, sym, ◌∙◌, arith}
use Rattle.std.proofs.lemmas.List.{length-take-le, take-take}
use Rattle.stp_network.specs.declared.edge.Edge.{Edge}
use Rattle.stp_network.specs.declared.rows.Rows.{Rows}
use Rattle.stp_network.specs.declared.limits.TheConstants.{LATEST_KEPT}
use Rattle.stp_network.specs.Rows.{AreEven, AreKept, HasRoom}

-- the edges that are left are the first of those there were
pub record IsWithdrawing (rows0 rows : Rows) (es0 es : List Edge) (capacity0 capacity down : ℕ) : Type 0 where
  pub even : AreEven rows
  pub kept : AreKept LATEST_KEPT rows es
  pub edges : es ≡ take (length es) es0
  pub within : length es ≤ length es0
  pub left : down ≤ length es
  pub times : rows.times.items ≡ rows0.times.items
  pub room : (n : ℕ) → HasRoom n rows0 → HasRoom n rows
  pub same : capacity ≡ capacity0

-- one edge less
pub one_less : (es0 es after : List Edge) → es ≡ take (length es) es0 → length es ≤ length es0 → after ≡ take (length es - 1) es → after ≡ take (length after) es0
one_less es0 es after is within less =
    let counted : length after ≡ length es - 1 = ap length less ∙ length-take-le (length es - 1) es (omega arith) in
    less ∙ (ap (λ xs. take (length es - 1) xs) is ∙ (take-take (length es - 1) (length es) es0 (omega arith) ∙ ap (λ n. take n es0) (sym counted)))
