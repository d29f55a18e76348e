-- A rewritten problem that is made of its parts, and which refusal comes.
use Rattle.std.proofs.Common.{◌≡◌, ℕ, ◌<◌, ◌≤◌, nat_lt, Bool, true, false, List, Option, Some, None, Result, Ok, Err, ap, ap₂, ◌∙◌, arith}
use Rattle.std.proofs.lemmas.Bool.Decides.{nat_tests}
use Rattle.stp_cond.specs.Formulas.{Formula}
use Rattle.stp_task.specs.Tasks.{PlainTask, PlainTimedEvent}
use Rattle.stp_rewrite.specs.declared.fault.RewriteFault.{RewriteFault}
use Rattle.stp_rewrite.specs.declared.fault.RewriteFault.TheVariants.{ExpansionTooLarge, TooManyBlocks}
use Rattle.stp_rewrite.specs.Counts.{cut, lock_count, node_count}
use Rattle.stp_rewrite.specs.Refusals.{first_past_limit, refusal_by, rewritten_or_fault, too_many_at, unless_refused}
use Rattle.stp_rewrite.specs.RewrittenTasks.{PlainRewritten, PlainRewrittenAction, rewritten_of}

abbrev pub parts : ℕ → List (Option ℕ) → List (Option ℕ) → List Bool → List PlainRewrittenAction → List PlainTimedEvent → Formula → ℕ → PlainRewritten
parts plain shadow_of opened initial actions timed goal grid = record { plain = plain; shadow_of = shadow_of; opened = opened; initial = initial; actions = actions; timed = timed; goal = goal; grid = grid }

pub same_parts : (p p' : ℕ) (s s' o o' : List (Option ℕ)) (i i' : List Bool) (a a' : List PlainRewrittenAction) (e e' : List PlainTimedEvent) (f : Formula) (k : ℕ) → p ≡ p' → s ≡ s' → o ≡ o' → i ≡ i' → a ≡ a' → e ≡ e' → parts p s o i a e f k ≡ parts p' s' o' i' a' e' f k
same_parts p p' s s' o o' i i' a a' e e' f k hp hs ho hi ha he =
    ap (λ x. parts x s o i a e f k) hp ∙ (ap (λ x. parts p' x o i a e f k) hs ∙ (ap (λ x. parts p' s' x i a e f k) ho ∙ (ap (λ x. parts p' s' o' x a e f k) hi ∙ (ap (λ x. parts p' s' o' i' x e f k) ha ∙ ap (λ x. parts p' s' o' i' a' x f k) he))))

-- ---- refusals

pub is_past : (count n : ℕ) → count ≡ cut n → 10000000 < count → nat_lt 10000000 n ≡ true
is_past count n e h = let l : 10000000 < n = omega (arith, e, h) in grind (arith, nat_tests)

pub is_within : (count n : ℕ) → count ≡ cut n → count ≤ 10000000 → nat_lt 10000000 n ≡ false
is_within count n e h = let l : n ≤ 10000000 = omega (arith, e, h) in grind (arith, nat_tests)

abbrev answer : Option ℕ → Bool → Bool → PlainRewritten → Result PlainRewritten RewriteFault
answer first large many r = unless_refused (refusal_by first large many) r

pub refused_footprints : (t : PlainTask) (n : ℕ) → first_past_limit t ≡ Some n → rewritten_or_fault t ≡ Err (too_many_at n)
refused_footprints t n h = ap (λ o. answer o (nat_lt 10000000 (node_count t)) (nat_lt 10000000 (lock_count t)) (rewritten_of t)) h

pub refused_nodes : (t : PlainTask) → first_past_limit t ≡ None → nat_lt 10000000 (node_count t) ≡ true → rewritten_or_fault t ≡ Err ExpansionTooLarge
refused_nodes t h n = ap₂ (λ o b. answer o b (nat_lt 10000000 (lock_count t)) (rewritten_of t)) h n

pub refused_locks : (t : PlainTask) → first_past_limit t ≡ None → nat_lt 10000000 (node_count t) ≡ false → nat_lt 10000000 (lock_count t) ≡ true → rewritten_or_fault t ≡ Err TooManyBlocks
refused_locks t h n l = ap₂ (λ o b. answer o b (nat_lt 10000000 (lock_count t)) (rewritten_of t)) h n ∙ ap (λ b. answer None false b (rewritten_of t)) l

pub accepted : (t : PlainTask) → first_past_limit t ≡ None → nat_lt 10000000 (node_count t) ≡ false → nat_lt 10000000 (lock_count t) ≡ false → rewritten_or_fault t ≡ Ok (rewritten_of t)
accepted t h n l = ap₂ (λ o b. answer o b (nat_lt 10000000 (lock_count t)) (rewritten_of t)) h n ∙ ap (λ b. answer None false b (rewritten_of t)) l
