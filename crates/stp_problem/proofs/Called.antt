-- Atoms over objects, part by part.
use Rattle.std.proofs.Common.{◌≡◌, ℕ, Bool, true, false, if◌then◌else◌, List, [], ◌∷◌, ◌++◌, Option, Some, None, length, refl, ap, sym, ◌∙◌, arith, append_assoc}
use Rattle.std.specs.Prelude.{◌==◌, option_map}
use Rattle.std.proofs.lemmas.Bool.Decides.{nat_tests}
use Rattle.stp_text.specs.declared.sexpr.Sexpr.{Sexpr}
use Rattle.stp_text.specs.Tree.{Tree, Trees, NoMore, More, views}
use Rattle.stp_refusal.specs.declared.code.Code.TheVariants.{P10}
use Rattle.stp_refusal.specs.declared.offence.Offence.{Offence}
use Rattle.stp_refusal.specs.First.{first_from}
use Rattle.stp_text.specs.Items.{count}
use Rattle.stp_refusal.specs.Read.{offence_at}
use Rattle.stp_text.proofs.Items.{count_views}
use Rattle.stp_schema.specs.Rows.{Shape, Thing}
use Rattle.stp_schema.specs.Known.{Known}
use Rattle.std.proofs.lemmas.List.{append-nil}
use Rattle.stp_base.specs.Options.{◌>>=◌}
use Rattle.stp_problem.specs.Calls.{call_with, args_wrong, applied_wrong, object_of, objects_of}

test_false : (m n : ℕ) → (m ≡ n → ⊥) → (m == n) ≡ false
test_false m n h = grind (arith, nat_tests, h)

test_true : (m n : ℕ) → m ≡ n → (m == n) ≡ true
test_true m n h = grind (arith, nat_tests, h)

-- the number of an atom's arguments
module _ (k : Known) (at : ℕ) (name : List ℕ) (ts : List Sexpr) (shape : Shape) (old new : Option Offence) where
  applied : (b : Bool) → (count (views ts) == length shape.parameters) ≡ b → new ≡ first_from old (if b then args_wrong k at shape.parameters (views ts) else offence_at at P10) → new ≡ first_from old (applied_wrong k (call_with at name (views ts)) shape)
  applied b e h = h ∙ ap (λ c. first_from old (if c then args_wrong k at shape.parameters (views ts) else offence_at at P10)) (sym e)

  pub wrong_count : (length ts ≡ length shape.parameters → ⊥) → new ≡ first_from old (offence_at at P10) → new ≡ first_from old (applied_wrong k (call_with at name (views ts)) shape)
  wrong_count n h = applied false (test_false (count (views ts)) (length shape.parameters) (λ e. n (sym (count_views ts) ∙ e))) h

  pub right_count : length ts ≡ length shape.parameters → new ≡ first_from old (args_wrong k at shape.parameters (views ts)) → new ≡ first_from old (applied_wrong k (call_with at name (views ts)) shape)
  right_count e h = applied true (test_true (count (views ts)) (length shape.parameters) (count_views ts ∙ e)) h

-- ---- the objects of words

-- what comes of those before and those after
abbrev pub joined : List ℕ → Option (List ℕ) → Option (List ℕ)
joined before rest = option_map (λ objects. before ++ objects) rest

-- what comes of one and of those after it
abbrev both : Option ℕ → Option (List ℕ) → Option (List ℕ)
both one rest = one >>= (λ object. rest >>= (λ objects. Some (object ∷ objects)))

pub none_here : (before : List ℕ) (things : List Thing) (t : Tree) (ts : Trees) (whole : Option (List ℕ)) → None ≡ object_of things t → joined before (objects_of things (More t ts)) ≡ whole → None ≡ whole
none_here before things t ts whole e so_far = ap (λ o. joined before (both o (objects_of things ts))) e ∙ so_far

one_more : (before : List ℕ) (object : ℕ) (rest : Option (List ℕ)) → joined (before ++ object ∷ []) rest ≡ joined before (both (Some object) rest)
one_more before object None = refl
one_more before object (Some objects) = ap Some (append_assoc before (object ∷ []) objects)

pub some_here : (before after : List ℕ) (object : ℕ) (things : List Thing) (t : Tree) (ts : Trees) (whole : Option (List ℕ)) → Some object ≡ object_of things t → after ≡ before ++ object ∷ [] → joined before (objects_of things (More t ts)) ≡ whole → joined after (objects_of things ts) ≡ whole
some_here before after object things t ts whole e h so_far =
    ap (λ xs. joined xs (objects_of things ts)) h
    ∙ one_more before object (objects_of things ts)
    ∙ ap (λ o. joined before (both o (objects_of things ts))) e
    ∙ so_far

pub no_more : (before : List ℕ) (things : List Thing) (whole : Option (List ℕ)) → joined before (objects_of things NoMore) ≡ whole → Some before ≡ whole
no_more before things whole so_far = ap Some (sym (append-nil before)) ∙ so_far
