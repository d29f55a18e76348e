-- Which ends would change an atom of a formula.
use Rattle.std.proofs.Common.{◌≡◌, ℕ, Bool, true, false, not, ◌&&◌, ◌||◌, cond, List, [], ◌∷◌, map, All, Contains, ◌⊎◌, inl, inr, refl, ap, sym, ◌∙◌, true≢false, Bor}
use Rattle.std.specs.List.{list_any, list_all}
use Rattle.std.proofs.lemmas.List.Folds.{list_any-append}
use Rattle.stp_base.specs.declared.ids.AtomId.{AtomId}
use Rattle.stp_cond.specs.declared.cond.Cond.{Cond}
use Rattle.stp_cond.specs.declared.cond.Cond.TheVariants.{Atom, Not, And, Or}
use Rattle.stp_cond.specs.Atoms.{has}
use Rattle.stp_cond.specs.Formulas.{view, formulas_of, atoms_in, atoms_in_all}
use Rattle.stp_cond.specs.Truth.{reads_only}
use Rattle.stp_cond.proofs.Shapes.{reads_are_of_shape}
use Rattle.stp_cond.proofs.Viewing.{view_atom, view_not, view_and, view_or}
use Rattle.stp_happen.proofs.Members.{here, there, member_cases, member_nil, each_of, each_mapped, each_passes}
use Rattle.stp_window.specs.declared.windows.Window.{Window}
use Rattle.stp_window.specs.Windows.{Point}
use Rattle.stp_window.specs.Certain.{sets}
use Rattle.stp_window.specs.Views.{point_of, points_of}
use Rattle.stp_split.specs.Cases.{ShareNone, IsShared, atoms_read, turns, turns_at}

-- ---- whether an end spares a formula

pub none_of : (f : ℕ → Bool) (xs : List ℕ) → list_all (λ a. not (f a)) xs ≡ not (list_any f xs)
none_of f [] = refl
none_of f (x ∷ xs) = ap (λ b. not (f x) && b) (none_of f xs) ∙ neither (f x) (list_any f xs)
  where
    neither : (b c : Bool) → (not b && not c) ≡ not (b || c)
    neither true c = refl
    neither false c = refl

-- whether an end would change no atom of a formula
abbrev pub spares : (ℕ → Bool) → Point → Cond → Bool
spares state p = reads_only (λ a. not (turns_at p state a))

spares_is : (state : ℕ → Bool) (p : Point) (c : Cond) → spares state p c ≡ not (turns p state c)
spares_is state p c = reads_are_of_shape (λ a. not (turns_at p state a)) c ∙ none_of (turns_at p state) (atoms_read c)

not_true : (b : Bool) → not b ≡ true → b ≡ true → ⊥
not_true true h e = true≢false (sym h)
not_true false h e = true≢false (sym e)

not_false : (b : Bool) → not b ≡ false → b ≡ true
not_false true h = refl
not_false false h = absurd (true≢false h)

pub spared : (state : ℕ → Bool) (p : Point) (c : Cond) → spares state p c ≡ true → turns p state c ≡ true → ⊥
spared state p c h = not_true (turns p state c) (sym (spares_is state p c) ∙ h)

pub not_spared : (state : ℕ → Bool) (p : Point) (c : Cond) → spares state p c ≡ false → turns p state c ≡ true
not_spared state p c h = not_false (turns p state c) (sym (spares_is state p c) ∙ h)

some_not_spared : (state : ℕ → Bool) (p : Point) (cs : List Cond) → list_all (spares state p) cs ≡ false → (d : Cond) × Contains cs d × (turns p state d ≡ true)
some_not_spared state p [] h = absurd (true≢false h)
some_not_spared state p (c ∷ cs) h = by_first state p c cs (spares state p c) refl h (some_not_spared state p cs)
  where
    by_first : (state : ℕ → Bool) (p : Point) (c : Cond) (cs : List Cond) (b : Bool) → spares state p c ≡ b → (b && list_all (spares state p) cs) ≡ false → (list_all (spares state p) cs ≡ false → (d : Cond) × Contains cs d × (turns p state d ≡ true)) →
        (d : Cond) × Contains (c ∷ cs) d × (turns p state d ≡ true)
    by_first state p c cs false e h more = (c, here c cs, not_spared state p c e)
    by_first state p c cs true e h more = let r = more h in (r.0, there c cs r.0 r.1, r.2)

pub is_shared : (state : ℕ → Bool) (cond : Cond) (cs : List Cond) (p : Point) → spares state p cond ≡ false → list_all (spares state p) cs ≡ false → IsShared state cond cs p
is_shared state cond cs p h k = record { first = not_spared state p cond h; later = some_not_spared state p cs k }

-- an end is not shared
abbrev pub IsNotShared : (ℕ → Bool) → Cond → List Cond → Window → Type 0
IsNotShared state cond cs w = turns (point_of w) state cond ≡ true → (d : Cond) → Contains cs d → turns (point_of w) state d ≡ true → ⊥

pub not_shared : (state : ℕ → Bool) (cond : Cond) (cs : List Cond) (w : Window) → (spares state (point_of w) cond ≡ true) ⊎ (list_all (spares state (point_of w)) cs ≡ true) → IsNotShared state cond cs w
not_shared state cond cs w (inl h) = λ turned d i more. spared state (point_of w) cond h turned
not_shared state cond cs w (inr h) = λ turned d i more. spared state (point_of w) d (each_passes (spares state (point_of w)) cs h d i) more

pub share_none : (state : ℕ → Bool) (cond : Cond) (cs : List Cond) (ws : List Window) → All (IsNotShared state cond cs) ws → ShareNone (points_of ws) state cond cs
share_none state cond cs ws all = λ p i. each_mapped point_of (λ q. turns q state cond ≡ true → (d : Cond) → Contains cs d → turns q state d ≡ true → ⊥) ws (each_of (IsNotShared state cond cs) ws all) p i

-- ---- parts of formulas

pub turns_not : (p : Point) (state : ℕ → Bool) (cond : Cond) (part : Bor Cond) → cond ≡ Not part → turns p state cond ≡ turns p state part.now
turns_not p state cond part is = ap (λ f. list_any (turns_at p state) (atoms_in f)) (ap view is ∙ view_not part)

pub turns_atom : (p : Point) (state : ℕ → Bool) (cond : Cond) (atom : AtomId) → cond ≡ Atom atom → turns_at p state atom.0 ≡ true → turns p state cond ≡ true
turns_atom p state cond atom is h = ap (λ f. list_any (turns_at p state) (atoms_in f)) (ap view is ∙ view_atom atom) ∙ ap (λ b. b || false) h

any_in_all : (f : ℕ → Bool) (cs : List Cond) (c : Cond) → Contains cs c → list_any f (atoms_read c) ≡ true → list_any f (atoms_in_all (formulas_of (map view cs))) ≡ true
any_in_all f [] c i h = absurd (member_nil c i)
any_in_all f (d ∷ cs) c i h =
    list_any-append f (atoms_in (view d)) (atoms_in_all (formulas_of (map view cs)))
    ∙ elim (member_cases d cs c i) [
      | inl e ↦ ap (λ b. b || list_any f (atoms_in_all (formulas_of (map view cs)))) (ap (λ x. list_any f (atoms_read x)) e ∙ h)
      | inr j ↦ or_true (list_any f (atoms_in (view d))) (list_any f (atoms_in_all (formulas_of (map view cs)))) (any_in_all f cs c j h)
    ]
  where
    or_true : (b c : Bool) → c ≡ true → (b || c) ≡ true
    or_true true c h = refl
    or_true false c h = h

pub turns_and : (p : Point) (state : ℕ → Bool) (cond : Cond) (parts : Bor (List Cond)) → cond ≡ And parts → (c : Cond) → Contains parts.now c → turns p state c ≡ true → turns p state cond ≡ true
turns_and p state cond parts is c i h = ap (λ f. list_any (turns_at p state) (atoms_in f)) (ap view is ∙ view_and parts) ∙ any_in_all (turns_at p state) parts.now c i h

pub turns_or : (p : Point) (state : ℕ → Bool) (cond : Cond) (parts : Bor (List Cond)) → cond ≡ Or parts → (c : Cond) → Contains parts.now c → turns p state c ≡ true → turns p state cond ≡ true
turns_or p state cond parts is c i h = ap (λ f. list_any (turns_at p state) (atoms_in f)) (ap view is ∙ view_or parts) ∙ any_in_all (turns_at p state) parts.now c i h

-- ---- what an end that changes an atom writes

pub turned_way : (p : Point) (state : ℕ → Bool) (a : ℕ) → turns_at p state a ≡ true → (sets p a ≡ true) × (has p.event.adds a ≡ not (state a))
turned_way p state a h = by (has p.event.adds a) (has p.event.dels a) (state a) h
  where
    by : (x d s : Bool) → cond x (not s) (d && s) ≡ true → ((x || d) ≡ true) × (x ≡ not s)
    by true d true h = absurd (true≢false (sym h))
    by true d false h = (refl, refl)
    by false true true h = (refl, refl)
    by false true false h = absurd (true≢false (sym h))
    by false false s h = absurd (true≢false (sym h))
