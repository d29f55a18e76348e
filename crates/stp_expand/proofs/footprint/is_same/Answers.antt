use Rattle.std.proofs.Common.{◌≡◌, Bool, true, false, ◌&&◌, ◌==◌, sym, ◌∙◌, true≢false}
use Rattle.std.specs.Cmp.Derive.Mapped.{pointwise-map}
use Rattle.std.specs.Cmp.Lexicographic.{pointwise}
use Rattle.stp_base.specs.declared.ids.AtomId.{AtomId}
use Rattle.stp_cond.specs.Views.{atoms_of}
use Rattle.stp_expand.proofs.footprint.is_same.Goals as goal

then_is : (b c r s : Bool) → r ≡ true → r ≡ b → s ≡ c → s ≡ (b && c)
then_is true c r s e f h = h
then_is false c r s e f h = absurd (true≢false (sym e ∙ f))

else_is : (b c r : Bool) → r ≡ false → r ≡ b → r ≡ (b && c)
else_is true c r e f = absurd (true≢false (sym f ∙ e))
else_is false c r e f = f

pub returns-then-eq : goal.returns-then-eq
returns-then-eq c =
    then_is (pointwise ◌==◌ (atoms_of c.args.one.now.adds.now) (atoms_of c.args.other.now.adds.now)) (pointwise ◌==◌ (atoms_of c.args.one.now.dels.now) (atoms_of c.args.other.now.dels.now)) c.eq.result c.eq-then-eq.result
    c.if-eq.true
    (c.eq.ensures ∙ sym (pointwise-map (λ (a : AtomId). a.0) ◌==◌ c.args.one.now.adds.now c.args.other.now.adds.now))
    (c.eq-then-eq.ensures ∙ sym (pointwise-map (λ (a : AtomId). a.0) ◌==◌ c.args.one.now.dels.now c.args.other.now.dels.now))

pub returns-else-eq : goal.returns-else-eq
returns-else-eq c =
    else_is (pointwise ◌==◌ (atoms_of c.args.one.now.adds.now) (atoms_of c.args.other.now.adds.now)) (pointwise ◌==◌ (atoms_of c.args.one.now.dels.now) (atoms_of c.args.other.now.dels.now)) c.eq.result
    c.if-eq.false
    (c.eq.ensures ∙ sym (pointwise-map (λ (a : AtomId). a.0) ◌==◌ c.args.one.now.adds.now c.args.other.now.adds.now))
