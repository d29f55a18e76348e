-- What a tree says as an effect, by its first items.
use Rattle.std.proofs.Common.{◌≡◌, ℕ, List, refl, append_assoc}
use Rattle.std.proofs.lemmas.List.{append-nil}
use Rattle.stp_text.specs.Tree.{Tree, Trees, Word, Node, NoMore, More}
use Rattle.stp_refusal.specs.declared.code.Code.TheVariants.{D22}
use Rattle.stp_refusal.specs.Read.{fine, bad, pair_read}
use Rattle.stp_schema.specs.Known.{Known}
use Rattle.stp_condition.specs.Scope.{Var}
use Rattle.stp_body.specs.Forms.{form_of}
use Rattle.stp_body.specs.Effects.{PlainEffects, no_effects, and_then, by_form, effect_read, effects_read, all_effects}
use Rattle.stp_body.specs.TimedEffects.{PlainTimedEffects, no_timed_effects, timed_and_then, timed_by_form, timed_effect_read, timed_effects_read, all_timed_effects}

-- ---- effects one after the other

pub and_then-none : (e : PlainEffects) → and_then e no_effects ≡ e
and_then-none e = rw (append-nil e.adds, append-nil e.dels) refl

pub and_then-assoc : (e f g : PlainEffects) → and_then (and_then e f) g ≡ and_then e (and_then f g)
and_then-assoc e f g = rw (append_assoc e.adds f.adds g.adds, append_assoc e.dels f.dels g.dels) refl

pub timed_and_then-none : (e : PlainTimedEffects) → timed_and_then e no_timed_effects ≡ e
timed_and_then-none e = rw (and_then-none e.start, and_then-none e.end) refl

pub timed_and_then-assoc : (e f g : PlainTimedEffects) → timed_and_then (timed_and_then e f) g ≡ timed_and_then e (timed_and_then f g)
timed_and_then-assoc e f g = rw (and_then-assoc e.start f.start g.start, and_then-assoc e.end f.end g.end) refl

-- ---- effects of simple actions

pub effect_word : (k : Known) (s : List Var) (at : ℕ) (text : List ℕ) → effect_read k s (Word at text) ≡ bad at D22 no_effects
unfolding effect_read
effect_word k s at text = refl

pub effect_empty : (k : Known) (s : List Var) (at : ℕ) → effect_read k s (Node at NoMore) ≡ fine no_effects
unfolding effect_read
effect_empty k s at = refl

pub effect_listed : (k : Known) (s : List Var) (at place : ℕ) (items ts : Trees) → effect_read k s (Node at (More (Node place items) ts)) ≡ bad at D22 no_effects
unfolding effect_read
effect_listed k s at place items ts = refl

pub effect_list : (k : Known) (s : List Var) (at place : ℕ) (text : List ℕ) (ts : Trees) → effect_read k s (Node at (More (Word place text) ts)) ≡ by_form (form_of text) k s at text ts (effects_read k s ts)
unfolding effect_read effects_read
effect_list k s at place text ts = refl

pub effects_more : (k : Known) (s : List Var) (t : Tree) (ts : Trees) → all_effects k s (More t ts) ≡ pair_read and_then (effect_read k s t) (all_effects k s ts)
unfolding effects_read
effects_more k s t ts = refl

pub effects_end : (k : Known) (s : List Var) → all_effects k s NoMore ≡ fine no_effects
unfolding effects_read
effects_end k s = refl

-- ---- effects of durative actions

pub timed_word : (k : Known) (s : List Var) (at : ℕ) (text : List ℕ) → timed_effect_read k s (Word at text) ≡ bad at D22 no_timed_effects
unfolding timed_effect_read
timed_word k s at text = refl

pub timed_empty : (k : Known) (s : List Var) (at : ℕ) → timed_effect_read k s (Node at NoMore) ≡ fine no_timed_effects
unfolding timed_effect_read
timed_empty k s at = refl

pub timed_listed : (k : Known) (s : List Var) (at place : ℕ) (items ts : Trees) → timed_effect_read k s (Node at (More (Node place items) ts)) ≡ bad at D22 no_timed_effects
unfolding timed_effect_read
timed_listed k s at place items ts = refl

pub timed_list : (k : Known) (s : List Var) (at place : ℕ) (text : List ℕ) (ts : Trees) → timed_effect_read k s (Node at (More (Word place text) ts)) ≡ timed_by_form (form_of text) k s at text ts (timed_effects_read k s ts)
unfolding timed_effect_read timed_effects_read
timed_list k s at place text ts = refl

pub timed_more : (k : Known) (s : List Var) (t : Tree) (ts : Trees) → all_timed_effects k s (More t ts) ≡ pair_read timed_and_then (timed_effect_read k s t) (all_timed_effects k s ts)
unfolding timed_effects_read
timed_more k s t ts = refl

pub timed_end : (k : Known) (s : List Var) → all_timed_effects k s NoMore ≡ fine no_timed_effects
unfolding timed_effects_read
timed_end k s = refl
