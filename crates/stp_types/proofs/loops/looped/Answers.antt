use Rattle.std.proofs.Common.{inl, inr, arith}
use Rattle.std.proofs.lemmas.Bool.{cases_eq}
use Rattle.stp_types.specs.Forest.{is_own_ancestor}
use Rattle.stp_types.proofs.Deciding.{same_tests, own_from_test, test_from_own}
use Rattle.stp_types.proofs.loops.looped.Goals as goal

pub returns : goal.returns
returns c =
    let v = c.loop-start.invariant in
    let p = c.args.parents.now in
    record {
      len = v.len;
      each = λ k there. same_tests _ (is_own_ancestor p k)
          (λ m. test_from_own p k c.requires.table there (v.sound k there m))
          (λ o. elim (cases_eq k 0) [
            | inl z ↦ absurd ((own_from_test p k o).0 z)
            | inr child ↦ v.complete k there (v.done k (omega arith) (omega (arith, there, c.loop-start-test.false))) (own_from_test p k o)
          ]);
    }
