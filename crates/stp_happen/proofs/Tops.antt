-- The greatest of those members of a list that pass a test.
use Rattle.std.proofs.Common.{◌≡◌, ℕ, ◌<◌, ◌≤◌, Bool, true, false, List, [], ◌∷◌, Contains, ◌⊎◌, inl, inr, ap, sym, ◌∙◌, subst, arith, true≢false}
use Rattle.std.proofs.lemmas.Bool.{cases_Bool}
use Rattle.stp_happen.proofs.Members.{here, there, member_cases, member_nil}

-- a member that passes the test, with the greatest number among those that do
pub record IsTop {X : Type 0} (f : X → ℕ) (c : X → Bool) (xs : List X) (m : X) : Type 0 where
  pub there : Contains xs m
  pub passes : c m ≡ true
  pub most : (x : X) → Contains xs x → c x ≡ true → f x ≤ f m

abbrev pub NonePasses : {X : Type 0} → (X → Bool) → List X → Type 0
NonePasses {X} c xs = (x : X) → Contains xs x → c x ≡ true → ⊥

compare : (m n : ℕ) → (m ≤ n) ⊎ (n < m)
compare m n = grind arith

pub top : {X : Type 0} (f : X → ℕ) (c : X → Bool) (xs : List X) → NonePasses c xs ⊎ ((m : X) × IsTop f c xs m)
top f c [] = inl (λ x i h. member_nil x i)
top f c (y ∷ ys) = elim (cases_Bool (c y)) [ inl yes_y ↦ passing f c y ys yes_y (top f c ys) | inr no_y ↦ failing f c y ys no_y (top f c ys) ]
  where
    first_only : {X : Type 0} (f : X → ℕ) (c : X → Bool) (y : X) (ys : List X) → c y ≡ true → ((x : X) → Contains ys x → c x ≡ true → f x ≤ f y) → IsTop f c (y ∷ ys) y
    first_only f c y ys e more = record {
      there = here y ys;
      passes = e;
      most = λ x i h. elim (member_cases y ys x i) [ inl s ↦ subst (λ z. f z ≤ f y) s (omega arith) | inr j ↦ more x j h ];
    }

    passing : {X : Type 0} (f : X → ℕ) (c : X → Bool) (y : X) (ys : List X) → c y ≡ true → NonePasses c ys ⊎ ((m : X) × IsTop f c ys m) → NonePasses c (y ∷ ys) ⊎ ((m : X) × IsTop f c (y ∷ ys) m)
    passing f c y ys e (inl none) = inr (y, first_only f c y ys e (λ x i h. absurd (none x i h)))
    passing f c y ys e (inr (m, t)) = elim (compare (f m) (f y)) [
      | inl l ↦ inr (y, first_only f c y ys e (λ x i h. let k : f x ≤ f m = t.most x i h in omega arith))
      | inr l ↦ inr (
        m,
        record {
          there = there y ys m t.there;
          passes = t.passes;
          most = λ x i h. elim (member_cases y ys x i) [ inl s ↦ subst (λ z. f z ≤ f m) s (omega arith) | inr j ↦ t.most x j h ];
        },
      )
    ]

    failing : {X : Type 0} (f : X → ℕ) (c : X → Bool) (y : X) (ys : List X) → c y ≡ false → NonePasses c ys ⊎ ((m : X) × IsTop f c ys m) → NonePasses c (y ∷ ys) ⊎ ((m : X) × IsTop f c (y ∷ ys) m)
    failing f c y ys e (inl none) = inl (λ x i h. elim (member_cases y ys x i) [ inl s ↦ true≢false (sym h ∙ (ap c (sym s) ∙ e)) | inr j ↦ none x j h ])
    failing f c y ys e (inr (m, t)) = inr (
      m,
      record {
        there = there y ys m t.there;
        passes = t.passes;
        most = λ x i h. elim (member_cases y ys x i) [ inl s ↦ absurd (true≢false (sym h ∙ (ap c (sym s) ∙ e))) | inr j ↦ t.most x j h ];
      },
    )
