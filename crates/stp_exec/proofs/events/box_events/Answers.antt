use Rattle.std.proofs.Common.{ℕ, ◌≤◌, not, List, length, filter, sym, ap, subst, ◌∙◌, arith}
use Rattle.stp_schema.specs.Timed.{timed_facts_of}
use Rattle.stp_happen.specs.Owners.{PlainBoxTimed, timed_before}
use Rattle.stp_happen.specs.Sound.{is_ascending}
use Rattle.stp_exec.proofs.EventMoments.{order_is, as_many}
use Rattle.stp_exec.proofs.events.box_events.Goals as goal

pub box_all-requires-clause-kept : goal.box_all-requires-clause-kept
box_all-requires-clause-kept c = c.args.world.now.problem.now.few_timed.each

pub returns-clause-few_fixed : goal.returns-clause-few_fixed
returns-clause-few_fixed c =
    let problem = c.args.world.now.problem.now in
    subst (λ (l : List PlainBoxTimed). length (filter (λ e. not e.uncertain) l) ≤ 100) (sym c.in_ok-timed.ensures.stand)
    (subst (λ (n : ℕ). n ≤ 100) (sym (as_many c.args.grid c.args.table.now (λ e. not e.uncertain) (timed_facts_of problem.timed.now))) problem.few_timed.few_fixed)

pub returns-clause-few_chosen : goal.returns-clause-few_chosen
returns-clause-few_chosen c =
    let problem = c.args.world.now.problem.now in
    subst (λ (l : List PlainBoxTimed). length (filter (λ e. e.uncertain) l) ≤ 30) (sym c.in_ok-timed.ensures.stand)
    (subst (λ (n : ℕ). n ≤ 30) (sym (as_many c.args.grid c.args.table.now (λ e. e.uncertain) (timed_facts_of problem.timed.now))) problem.few_timed.few_chosen)

pub returns-clause-ordered : goal.returns-clause-ordered
returns-clause-ordered c =
    let problem = c.args.world.now.problem.now in
    ap (is_ascending timed_before) c.in_ok-timed.ensures.stand
    ∙ sym (order_is c.args.grid (omega (arith, c.requires.low)) c.args.table.now (timed_facts_of problem.timed.now) problem.few_timed.each c.requires.lie)
    ∙ problem.few_timed.in_order
