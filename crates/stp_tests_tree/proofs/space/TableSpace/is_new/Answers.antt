use Rattle.std.proofs.Common.{rules, ◌≡◌, true, map, replicate, Contains, subst, Some, refl, sym, ap, ◌∙◌}
use Rattle.stp_tree.specs.Rests.IsLookedUp.{Met}
use Rattle.stp_tests_tree.specs.Tables.{walk, state_of}
use Rattle.stp_tests_tree.proofs.space.TableSpace.is_new.Goals as goal

pub returns-then-is_seen : goal.returns-then-is_seen
returns-then-is_seen c =
    let number = c.in-Some.number in
    let merged : c.args.self.now.merges ≡ true = search rules in
    let there : walk c.args.self.now.rows.now (Some 0) c.args._node.now.moves.items ≡ Some number = search rules in
    Met (replicate number true) refl (ap (λ b. state_of b (walk c.args.self.now.rows.now (Some 0) c.args._node.now.moves.items)) merged ∙ ap (state_of true) there) (subst (λ numbers. Contains (map (λ n. replicate n true) numbers) (replicate number true)) c.deref.ensures.value (c.is_seen.ensures c.if-is_seen.true)) refl
