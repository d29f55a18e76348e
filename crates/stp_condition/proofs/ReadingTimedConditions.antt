-- What a tree says as a timed condition, by its first items.
use Rattle.std.proofs.Common.{◌≡◌, ℕ, List, refl, append_assoc}
use Rattle.std.proofs.lemmas.List.{append-nil}
use Rattle.stp_text.specs.Tree.{Tree, Trees, Word, Node, NoMore, More}
use Rattle.stp_refusal.specs.declared.code.Code.TheVariants.{D16}
use Rattle.stp_refusal.specs.Read.{fine, bad, pair_read}
use Rattle.stp_schema.specs.Known.{Known}
use Rattle.stp_condition.specs.Scope.{Var}
use Rattle.stp_condition.specs.Forms.{form_of}
use Rattle.stp_condition.specs.TimedConditions.{Parts, no_parts, and_then, by_form, parts_read, each_read, all_parts}

-- ---- conditions one after the other

pub and_then-none : (p : Parts) → and_then p no_parts ≡ p
and_then-none p = rw (append-nil p.start, append-nil p.over_all, append-nil p.end) refl

pub and_then-assoc : (p q r : Parts) → and_then (and_then p q) r ≡ and_then p (and_then q r)
and_then-assoc p q r = rw (append_assoc p.start q.start r.start, append_assoc p.over_all q.over_all r.over_all, append_assoc p.end q.end r.end) refl

-- ---- by the first items

pub parts_word : (k : Known) (s : List Var) (at : ℕ) (text : List ℕ) → parts_read k s (Word at text) ≡ bad at D16 no_parts
unfolding parts_read
parts_word k s at text = refl

pub parts_empty : (k : Known) (s : List Var) (at : ℕ) → parts_read k s (Node at NoMore) ≡ fine no_parts
unfolding parts_read
parts_empty k s at = refl

pub parts_listed : (k : Known) (s : List Var) (at place : ℕ) (items ts : Trees) → parts_read k s (Node at (More (Node place items) ts)) ≡ bad at D16 no_parts
unfolding parts_read
parts_listed k s at place items ts = refl

pub parts_list : (k : Known) (s : List Var) (at place : ℕ) (text : List ℕ) (ts : Trees) → parts_read k s (Node at (More (Word place text) ts)) ≡ by_form (form_of text) k s at text ts (each_read k s ts)
unfolding parts_read each_read
parts_list k s at place text ts = refl

pub parts_more : (k : Known) (s : List Var) (t : Tree) (ts : Trees) → all_parts k s (More t ts) ≡ pair_read and_then (parts_read k s t) (all_parts k s ts)
unfolding each_read
parts_more k s t ts = refl

pub parts_end : (k : Known) (s : List Var) → all_parts k s NoMore ≡ fine no_parts
unfolding each_read
parts_end k s = refl
