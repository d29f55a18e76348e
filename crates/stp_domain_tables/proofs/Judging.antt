-- What is wrong with declarations.
use Rattle.std.proofs.Common.{◌≡◌, ℕ, ◌≤◌, false, List, [], Option, length, ap, arith}
use Rattle.std.specs.Prelude.{nat_lt}
use Rattle.std.proofs.lemmas.Bool.Decides.{nat_tests}
use Rattle.stp_refusal.specs.declared.code.Code.TheVariants.{D07, D08}
use Rattle.stp_refusal.specs.declared.offence.Offence.{Offence}
use Rattle.stp_refusal.specs.Read.{Read, IsRead, Finds, also}
use Rattle.stp_refusal.proofs.Reading.{also_is}
use Rattle.stp_domain_parts.specs.declared.judged.WordKind.TheVariants.{Variable}
use Rattle.stp_domain_parts.specs.Entries.{Plain}
use Rattle.stp_domain_parts.specs.Judged.{names_wrong, shapes_wrong}
use Rattle.stp_domain_tables.specs.Parameters.{parameters_judged}

not_above : (a b : ℕ) → b ≤ a → nat_lt a b ≡ false
not_above a b h = grind (arith, nat_tests)

-- few parameters
pub parameters_few : (own : List Offence) (at : ℕ) (es : Read (List Plain)) (old a b c d : Option Offence) (value : List Plain) → length value ≤ 16 → IsRead old a value es → Finds a b (names_wrong Variable D07 D08 [] value) → Finds b c (shapes_wrong value) → Finds c d own → IsRead old d value (parameters_judged own at es)
parameters_few own at es old a b c d value few read names shapes named =
    let few_read : length es.value ≤ 16 = let e = ap length read.same in omega arith in
    let test : nat_lt 16 (length es.value) ≡ false = not_above 16 (length es.value) few_read in
    rw test (also_is (λ x. own) old c d value (also shapes_wrong (also (names_wrong Variable D07 D08 []) es))
    (also_is shapes_wrong old b c value (also (names_wrong Variable D07 D08 []) es)
    (also_is (names_wrong Variable D07 D08 []) old a b value es read names) shapes) named)
