use Rattle.std.proofs.Common.{◌≡◌, ◌∙◌, sym, ap, length, length-set, arith, slice_index, take, drop, ◌++◌}
use Rattle.stp_problem.specs.Passing.{come_to}
use Rattle.stp_problem.proofs.Moving.{written, none_left, at_first, counts_fit, next, are_sizes, last_within, parent_within, still_left}
use Rattle.stp_problem.proofs.counting.sizes.Goals as goal

pub loop-rung-init : goal.loop-rung-init
loop-rung-init c = record {
  left = c.in_ok-left.ensures.lawful;
  len = c.in_ok-sizes.ensures.len;
  counts = λ k h. c.in_ok-sizes.ensures.each k ∙ sym (at_first c.args.ancestries.now c.requires.rows c.args.objects.now c.requires.kinds c.in_ok-left.left.items c.in_ok-left.ensures k);
}

pub pass_on-requires-clause-there : goal.pass_on-requires-clause-there
pass_on-requires-clause-there c =
    let i = c.loop-rung.invariant in
    let rows = c.args.ancestries.now in
    last_within rows c.requires.rows c.args.objects.now c.requires.kinds c.loop-rung.left.items c.pop.new.self.items c.in-Some.rung c.in-Some.ensures.items i.left

pub pass_on-requires-clause-fits : goal.pass_on-requires-clause-fits
pass_on-requires-clause-fits c =
    let i = c.loop-rung.invariant in
    let rows = c.args.ancestries.now in
    let there = last_within rows c.requires.rows c.args.objects.now c.requires.kinds c.loop-rung.left.items c.pop.new.self.items c.in-Some.rung c.in-Some.ensures.items i.left in
    let fit = counts_fit rows c.requires.rows c.args.objects.now c.requires.kinds c.loop-rung.left.items c.pop.new.self.items c.in-Some.rung c.as_mut_slice.result.now c.in-Some.ensures.items i.left
    (parent_within rows c.requires.rows c.args.objects.now c.requires.kinds c.in-Some.rung.kind there)
    (λ k h. ap (λ x. slice_index x k) c.as_mut_slice.ensures.value ∙ i.counts k h) in
    omega (arith, fit, c.requires.small)

pub loop-rung-preserved : goal.loop-rung-preserved
loop-rung-preserved c =
    let i = c.loop-rung.invariant in
    let rows = c.args.ancestries.now in
    let there = last_within rows c.requires.rows c.args.objects.now c.requires.kinds c.loop-rung.left.items c.pop.new.self.items c.in-Some.rung c.in-Some.ensures.items i.left in
    let whole : take c.loop-rung.sizes.len (c.pass_on.new.sizes ++ drop (length c.pass_on.new.sizes) c.loop-rung.sizes.items) ≡ c.pass_on.new.sizes = written c.loop-rung.sizes.len c.pass_on.new.sizes c.as_mut_slice.result.now c.loop-rung.sizes.items (ap length c.pass_on.ensures ∙ length-set c.as_mut_slice.result.now _ _) c.as_mut_slice.ensures.value c.as_mut_slice.ensures.len in
    record {
      left = still_left rows c.requires.rows c.args.objects.now c.requires.kinds c.loop-rung.left.items c.pop.new.self.items c.in-Some.rung c.in-Some.ensures.items i.left;
      len = ap length whole ∙ ap length c.pass_on.ensures ∙ length-set c.as_mut_slice.result.now _ _ ∙ ap length c.as_mut_slice.ensures.value ∙ i.len;
      counts = next rows c.requires.rows c.args.objects.now c.requires.kinds c.loop-rung.left.items c.pop.new.self.items c.in-Some.rung c.as_mut_slice.result.now _ c.in-Some.ensures.items i.left
          (ap length c.as_mut_slice.ensures.value ∙ i.len)
          (parent_within rows c.requires.rows c.args.objects.now c.requires.kinds c.in-Some.rung.kind there)
          (λ k h. ap (λ x. slice_index x k) c.as_mut_slice.ensures.value ∙ i.counts k h)
          (whole ∙ c.pass_on.ensures);
    }

pub returns : goal.returns
returns c = are_sizes c.args.ancestries.now c.requires.rows c.args.objects.now c.requires.kinds c.loop-rung.sizes.items c.loop-rung.invariant.len (λ k h. c.loop-rung.invariant.counts k h ∙ ap (λ left. come_to c.args.ancestries.now c.args.objects.now left k) (none_left c.loop-rung.left.items (let none = c.in_default.ensures.cases.0 in let same = c.loop-rung.left.ok in omega arith)))
