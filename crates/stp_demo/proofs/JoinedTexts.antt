-- Three texts that are appended one after the other.
use Rattle.std.proofs.Common.{◌≡◌, ℕ, List, ◌++◌, ap, ◌∙◌, append_assoc}

pub three : (first second third one two all old : List ℕ) → one ≡ old ++ first → two ≡ one ++ second → all ≡ two ++ third → all ≡ old ++ (first ++ second ++ third)
three first second third one two all old a b c =
    c ∙ ap (λ t. t ++ third) (b ∙ ap (λ t. t ++ second) a ∙ append_assoc old first second) ∙ append_assoc old (first ++ second) third

-- A sum of texts, read from the left and from the right.
pub five : (a b c d e : List ℕ) → a ++ b ++ c ++ d ++ e ≡ a ++ (b ++ (c ++ (d ++ e)))
five a b c d e =
    append_assoc (a ++ b ++ c) d e
    ∙ append_assoc (a ++ b) c (d ++ e)
    ∙ append_assoc a b (c ++ (d ++ e))
