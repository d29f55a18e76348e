use Rattle.std.proofs.Common.{◌≡◌, ℕ, ◌-◌, ◌∷◌, [], drop, get_or, refl, sym, ap, ◌∙◌, arith, map}
use Rattle.std.proofs.lemmas.List.{length-set}
use Rattle.stp_instance.specs.declared.wheel.Wheel.{Wheel}
use Rattle.stp_instance.specs.Turning.{has_choice, rest_of, shown}
use Rattle.stp_instance.proofs.Wheels.{all_at, all_set, none_after, none_behind, one_behind, over_at, onward_at, anew_at, at_end}
use Rattle.stp_instance.proofs.wheel.turn.Goals as goal
use Rattle.stp_instance.proofs.wheel.turn.Goals.{in_default, in-len1-up+else-not-is_empty}

pub loop-at-init : goal.loop-at-init
loop-at-init c = record {
  within = omega arith;
  choices = c.requires;
  begun = (at_end c.args.wheels.now).0;
  left = (at_end c.args.wheels.now).1;
}

pub returns-then-not-is_empty-clause-left : goal.returns-then-not-is_empty-clause-left
returns-then-not-is_empty-clause-left c =
    let i : ℕ = c.loop-at.at - 1 in
    let w : Wheel = get_or c.loop-at.wheels i (record { choices = record { ref_ptr = (0, 0); now = [] }; rest = record { ref_ptr = (0, 0); now = [] } }) in
    c.loop-at.invariant.left
    ∙ ap (λ l. map shown c.args.wheels.now ∷ l) (onward_at c.loop-at.wheels c.loop-at.at i _ _ (omega arith) (omega arith) refl (one_behind w.rest.now (sym c.if-not-is_empty.ensures)) c.loop-at.invariant.begun)

pub returns-then-not-is_empty-clause-choices : goal.returns-then-not-is_empty-clause-choices
returns-then-not-is_empty-clause-choices c = all_set has_choice c.loop-at.wheels (c.loop-at.at - 1) _ _ refl c.loop-at.invariant.choices

pub loop-at-preserved : goal.loop-at-preserved
loop-at-preserved c =
    let i : ℕ = c.loop-at.at - 1 in
    let d : Wheel = record { choices = record { ref_ptr = (0, 0); now = [] }; rest = record { ref_ptr = (0, 0); now = [] } } in
    let w : Wheel = get_or c.loop-at.wheels i d in
    let none : drop 1 (rest_of w) ≡ [] = elim c.if-wheel-lt1.branch [
      | in_default b ↦ none_after w.rest.now b.in_default.len_below
      | in-len1-up+else-not-is_empty b ↦ none_behind w.rest.now (sym b.is_empty.ensures ∙ b.if-not-is_empty.false)
    ] in
    let same = length-set c.loop-at.wheels i (record { choices = w.choices; rest = w.choices }) in
    record {
      within = omega (arith, same);
      choices = all_set has_choice c.loop-at.wheels i _ d refl c.loop-at.invariant.choices;
      begun = anew_at c.loop-at.wheels c.loop-at.at i d _ (omega arith) (omega arith) refl (all_at has_choice c.loop-at.wheels i d (omega arith) c.loop-at.invariant.choices) refl c.loop-at.invariant.begun;
      left = c.loop-at.invariant.left ∙ ap (λ l. map shown c.args.wheels.now ∷ l) (over_at c.loop-at.wheels c.loop-at.at i d _ (omega arith) (omega arith) refl none);
    }
