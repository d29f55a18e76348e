-- The rewritten problem, or the first refusal.
use Rattle.std.specs.Prelude.{ℕ, Bool, nat_lt, if◌then◌else◌, List, [], ◌∷◌, Option, Some, None, Result, Ok, Err}
use Rattle.stp_base.specs.declared.limits.TheConstants.{MAX_OVER_ALL_NODES, MAX_BLOCKS}
use Rattle.stp_expand.specs.Footprints.{has_too_many}
use Rattle.stp_task.specs.Actions.{PlainAction}
use Rattle.stp_task.specs.Tasks.{PlainTask}
use Rattle.stp_rewriting.specs.Rewritten.{Rewriting, other_ends}
use Rattle.stp_rewrite.specs.declared.fault.RewriteFault.{RewriteFault}
use Rattle.stp_rewrite.specs.declared.fault.RewriteFault.TheVariants.{TooManyFootprints, ExpansionTooLarge, TooManyBlocks}
use Rattle.stp_rewrite.specs.Counts.{node_count, lock_count}
use Rattle.stp_rewrite.specs.RewrittenTasks.{PlainRewritten, numbered_actions, rewriting_in, rewritten_of}

-- whether a formula of an over-all condition has more footprints than the limit
abbrev pub is_past_limit : Rewriting → ℕ → PlainAction → Bool
is_past_limit r key a = has_too_many (other_ends r key) a.over

-- the number of the first action that passes
abbrev pub first_of : (ℕ → PlainAction → Bool) → List (ℕ × PlainAction) → Option ℕ
first_of test [] = None
first_of test (p ∷ ps) = if test p.0 p.1 then Some p.0 else first_of test ps

-- the number of the first action that has such a formula
abbrev pub first_past_limit : PlainTask → Option ℕ
first_past_limit t = first_of (is_past_limit (rewriting_in t)) (numbered_actions t)

abbrev pub too_many_at : ℕ → RewriteFault
too_many_at n = TooManyFootprints (record { 0 = n })

-- the first that comes of too many footprints, nodes and locks
abbrev pub refusal_by : Option ℕ → Bool → Bool → Option RewriteFault
refusal_by (Some n) large many = Some (too_many_at n)
refusal_by None large many = if large then Some ExpansionTooLarge else if many then Some TooManyBlocks else None

abbrev pub refusal : PlainTask → Option RewriteFault
refusal t = refusal_by (first_past_limit t) (nat_lt MAX_OVER_ALL_NODES (node_count t)) (nat_lt MAX_BLOCKS (lock_count t))

abbrev pub unless_refused : Option RewriteFault → PlainRewritten → Result PlainRewritten RewriteFault
unless_refused None r = Ok r
unless_refused (Some fault) r = Err fault

abbrev pub rewritten_or_fault : PlainTask → Result PlainRewritten RewriteFault
rewritten_or_fault t = unless_refused (refusal t) (rewritten_of t)
