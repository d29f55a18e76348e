-- What folding makes of the parts of a condition in an arena.
use Rattle.std.proofs.Common.{◌≡◌, ℕ, ◌<◌, ◌≤◌, Bool, true, false, not, ◌||◌, cond, List, [], ◌∷◌, map, length, get_or, refl, sym, ap, ◌∙◌, Bor, arith}
use Rattle.std.specs.List.{list_any, filter}
use Rattle.std.proofs.lemmas.Bool.{cond-true, cond-false}
use Rattle.stp_cond.specs.declared.cond.Cond.{Cond}
use Rattle.stp_cond.specs.declared.cond.Cond.TheVariants.{And, Or}
use Rattle.stp_cond.specs.declared.known.Three.{Three}
use Rattle.stp_cond.specs.Formulas.{Formula, Formulas, Always, Never, Conjunction, Disjunction, formulas_of, view}
use Rattle.stp_cond.specs.Folded.{is_always, is_never, together, folded, folded_and, folded_or}
use Rattle.stp_cond.proofs.Viewing.{view_and, view_or, folded_all_of}

any_views : (p : Formula → Bool) (xs : List Cond) → list_any p (map view xs) ≡ list_any (λ x. p (view x)) xs
any_views p [] = refl
any_views p (x ∷ xs) = ap (λ b. p (view x) || b) (any_views p xs)

view_cond : (b : Bool) (x : Cond) (xs : List Cond) → map view (cond b (x ∷ xs) xs) ≡ cond b (view x ∷ map view xs) (map view xs)
view_cond true x xs = refl
view_cond false x xs = refl

kept_views : (p : Formula → Bool) (xs : List Cond) → map view (filter (λ x. p (view x)) xs) ≡ filter p (map view xs)
kept_views p [] = refl
kept_views p (x ∷ xs) = view_cond (p (view x)) x (filter (λ x. p (view x)) xs) ∙ ap (λ l. cond (p (view x)) (view x ∷ l) l) (kept_views p xs)

-- ---- a member decides

pub and_decided : (items : List Cond) → list_any (λ x. is_never (view x)) items ≡ true → folded_and (map view items) ≡ Never
and_decided items h = cond-true (list_any is_never (map view items)) Never (together Always Conjunction (filter (λ f. not (is_always f)) (map view items))) (any_views is_never items ∙ h)

pub or_decided : (items : List Cond) → list_any (λ x. is_always (view x)) items ≡ true → folded_or (map view items) ≡ Always
or_decided items h = cond-true (list_any is_always (map view items)) Always (together Never Disjunction (filter (λ f. not (is_never f)) (map view items))) (any_views is_always items ∙ h)

-- ---- no member decides

pub and_left : (items kept : List Cond) → list_any (λ x. is_never (view x)) items ≡ false → kept ≡ filter (λ x. not (is_always (view x))) items → folded_and (map view items) ≡ together Always Conjunction (map view kept)
and_left items kept h e =
    cond-false (list_any is_never (map view items)) Never (together Always Conjunction (filter (λ f. not (is_always f)) (map view items))) (any_views is_never items ∙ h)
    ∙ ap (together Always Conjunction) (sym (kept_views (λ f. not (is_always f)) items) ∙ ap (map view) (sym e))

pub or_left : (items kept : List Cond) → list_any (λ x. is_always (view x)) items ≡ false → kept ≡ filter (λ x. not (is_never (view x))) items → folded_or (map view items) ≡ together Never Disjunction (map view kept)
or_left items kept h e =
    cond-false (list_any is_always (map view items)) Always (together Never Disjunction (filter (λ f. not (is_never f)) (map view items))) (any_views is_always items ∙ h)
    ∙ ap (together Never Disjunction) (sym (kept_views (λ f. not (is_never f)) items) ∙ ap (map view) (sym e))

pub together_none : (none : Formula) (all : Formulas → Formula) (kept : List Cond) → length kept < 1 → together none all (map view kept) ≡ none
together_none none all [] h = refl
together_none none all (x ∷ xs) h = absurd (omega arith)

pub together_one : (none : Formula) (all : Formulas → Formula) (kept : List Cond) (x : Cond) → 1 ≤ length kept → length kept < 2 → x ≡ get_or kept 0 x → together none all (map view kept) ≡ view x
together_one none all [] x h k e = absurd (omega arith)
together_one none all (y ∷ []) x h k e = ap view (sym e)
together_one none all (y ∷ z ∷ zs) x h k e = absurd (omega arith)

pub together_more : (none : Formula) (all : Formulas → Formula) (kept : List Cond) → 2 ≤ length kept → together none all (map view kept) ≡ all (formulas_of (map view kept))
together_more none all [] h = absurd (omega arith)
together_more none all (x ∷ []) h = absurd (omega arith)
together_more none all (x ∷ y ∷ ys) h = refl

-- ---- whole formulas

maps : (known : ℕ → Three) (cs : List Cond) → map (folded known) (map view cs) ≡ map (λ c. folded known (view c)) cs
maps known [] = refl
maps known (c ∷ cs) = ap (λ l. folded known (view c) ∷ l) (maps known cs)

pub folded_conjunction : (known : ℕ → Three) (cond : Cond) (parts : Bor (List Cond)) (items : List Cond) → cond ≡ And parts → map view items ≡ map (λ c. folded known (view c)) parts.now → folded_and (map view items) ≡ folded known (view cond)
folded_conjunction known cond parts items is same =
    ap folded_and (same ∙ (sym (maps known parts.now) ∙ sym (folded_all_of known (map view parts.now)))) ∙ ap (folded known) (sym (ap view is ∙ view_and parts))

pub folded_disjunction : (known : ℕ → Three) (cond : Cond) (parts : Bor (List Cond)) (items : List Cond) → cond ≡ Or parts → map view items ≡ map (λ c. folded known (view c)) parts.now → folded_or (map view items) ≡ folded known (view cond)
folded_disjunction known cond parts items is same =
    ap folded_or (same ∙ (sym (maps known parts.now) ∙ sym (folded_all_of known (map view parts.now)))) ∙ ap (folded known) (sym (ap view is ∙ view_or parts))
