-- The cases of a demo, by what becomes of each plan; and that its texts are short enough to be files.
use Rattle.std.proofs.Common.{◌≡◌, ℕ, zero, suc, ◌+◌, ◌*◌, ◌-◌, ◌<◌, ◌≤◌, Bool, true, false, ◌&&◌, ◌==◌, List, [], ◌∷◌, ◌++◌, length, codes, Result, Ok, Err, refl, sym, ap, ◌∙◌, arith}
use Rattle.std.specs.Fmt.{decimal}
use Rattle.std.proofs.lemmas.Fmt.{length-decimal-le}
use Rattle.std.proofs.lemmas.List.{length-append}
use Rattle.stp_demo.specs.Pieces.{line, each, fast, slow}
use Rattle.stp_demo.specs.Domain.{domain_text}
use Rattle.stp_demo.specs.Problem.{problem_text, rover_line, place_line, rovers_text, places_text, objects_text, fact_line, facts_text, goal_line, goals_text, road_text, time_text}
use Rattle.stp_demo.specs.Plan.{plan_text, steps_text, drive_line, photo_line, photo_start}
use Rattle.stp_cli.specs.declared.refusal.CaseFault.{CaseFault}
use Rattle.stp_cli.specs.Case.{PlainCase, case_of}
use Rattle.stp_cli.specs.Demo.{cases_of, demo_cases}

module _ (domain problem plan spoiled : List ℕ) where
  pub plan_refused : (r : CaseFault) → case_of domain problem plan ≡ Err r → cases_of domain problem plan spoiled ≡ Err r
  unfolding cases_of
  plan_refused r e = rw e refl

  module _ (made : PlainCase) (is : case_of domain problem plan ≡ Ok made) where
    pub spoiled_refused : (r : CaseFault) → case_of domain problem spoiled ≡ Err r → cases_of domain problem plan spoiled ≡ Err r
    unfolding cases_of
    spoiled_refused r e = rw (is, e) refl

    pub two_cases : (other : PlainCase) → case_of domain problem spoiled ≡ Ok other → cases_of domain problem plan spoiled ≡ Ok (record { plan = made; spoiled = other })
    unfolding cases_of
    two_cases other e = rw (is, e) refl

-- ---- texts that are no longer than this

record Short (most : ℕ) (text : List ℕ) : Type 0 where
  fits : length text ≤ most

joined : {m n : ℕ} {xs ys : List ℕ} → Short m xs → Short n ys → Short (m + n) (xs ++ ys)
joined {m} {n} {xs} {ys} h k = let e : length (xs ++ ys) ≡ length xs + length ys = length-append xs ys in record { fits = omega (arith, e, h.fits, k.fits) }

words : (xs : List ℕ) → Short (length xs) xs
words xs = record { fits = omega arith }

ended : {m : ℕ} {xs : List ℕ} → Short m xs → Short (m + 1) (line xs)
ended {m} {xs} h = joined h (words (10 ∷ []))

wider : {m : ℕ} {xs : List ℕ} (n : ℕ) → Short m xs → m ≤ n → Short n xs
wider n h le = record { fits = omega (arith, le, h.fits) }

digits : (n : ℕ) → n < 1000 → Short 3 (decimal n)
digits n h = record { fits = length-decimal-le 3 n (omega arith) (omega (arith, h)) (omega (arith, h)) }

each_short : (text : ℕ → List ℕ) (n : ℕ) → ((i : ℕ) → i ≤ n → Short 100 (text i)) → Short (100 * n) (each text n)
each_short text zero h = record { fits = omega arith }
each_short text (suc n) h =
    let rest : length (each text n) ≤ 100 * n = (each_short text n (λ i k. h i (omega (arith, k)))).fits in
    let last : length (text (suc n)) ≤ 100 = (h (suc n) (omega arith)).fits in
    let both : length (each text n ++ text (suc n)) ≡ length (each text n) + length (text (suc n)) = length-append (each text n) (text (suc n)) in
    record { fits = omega (arith, rest, last, both) }

module _ (i : ℕ) (small : i ≤ 250) where
  number : Short 3 (decimal i)
  number = digits i (omega (arith, small))

  rover_short : Short 5 (rover_line i)
  rover_short = ended (joined (words (codes "r")) number)

  place_short : Short 5 (place_line i)
  place_short = ended (joined (words (codes "p")) number)

  goal_short : Short 12 (goal_line i)
  goal_short =
      ended (joined (joined (words (codes "(seen p")) number) (words (codes ")")))

  road_short : Short 40 (road_text i)
  road_short =
      joined (joined (joined (joined (joined (joined (words (codes "(still r")) number) (words (codes ") (at r"))) number) (words (codes " p0) (road p0 p"))) number) (words (codes ")"))

  time_short : (name : List ℕ) (time : ℕ) → Short 4 name → time < 1000 → Short 22 (time_text name i time)
  time_short name time short below =
      joined (joined (joined (joined (joined (joined (words (codes "(= (")) short) (words (codes " p0 p"))) number) (words (codes ") "))) (digits time below)) (words (codes ")"))

  fact_short : Short 87 (fact_line i)
  fact_short =
      ended (joined (joined (joined (joined road_short (words (codes " "))) (time_short (codes "fast") (fast i) (words (codes "fast")) (omega arith))) (words (codes " "))) (time_short (codes "slow") (slow i) (words (codes "slow")) (omega arith)))

  start_short : (early : Bool) → Short 5 (photo_start early i)
  start_short true = joined (digits (2 * slow i - 1) (omega arith)) (words (codes "/2"))
  start_short false = record { fits = omega arith }

  drive_short : Short 28 (drive_line i)
  drive_short =
      ended (joined (joined (joined (joined (words (codes "0: (drive r")) number) (words (codes " p0 p"))) number) (words (codes ") [*]")))

  photo_short : (early : Bool) → Short 29 (photo_line early i)
  photo_short early =
      ended (joined (joined (joined (joined (joined (start_short early) (words (codes ": (photo r"))) number) (words (codes " p"))) number) (words (codes ") [2]")))

  steps_short : (early : Bool) → Short 57 (steps_text early i)
  steps_short early = joined drive_short (photo_short early)

module _ (n : ℕ) (few : n ≤ 250) where
  below : (i : ℕ) → i ≤ n → i ≤ 250
  below i h = omega (arith, h, few)

  rovers_short : Short (100 * n) (each rover_line n)
  rovers_short = each_short rover_line n (λ i h. wider 100 (rover_short i (below i h)) (omega arith))

  places_short : Short (100 * n) (each place_line n)
  places_short = each_short place_line n (λ i h. wider 100 (place_short i (below i h)) (omega arith))

  facts_short : Short (100 * n) (each fact_line n)
  facts_short = each_short fact_line n (λ i h. wider 100 (fact_short i (below i h)) (omega arith))

  goals_short : Short (100 * n) (each goal_line n)
  goals_short = each_short goal_line n (λ i h. wider 100 (goal_short i (below i h)) (omega arith))

  objects_short : Short (200 * n + 34) (objects_text n)
  objects_short =
      let places : Short (5 + 100 * n + 9) (places_text n) = joined (joined (place_short 0 (omega arith)) places_short) (words (line (codes "- place)"))) in
      let rovers : Short (100 * n + 8) (rovers_text n) = joined rovers_short (words (line (codes "- rover"))) in
      let head : Short 10 (line (codes "(:objects")) = words (line (codes "(:objects")) in
      let all : Short (10 + (100 * n + 8) + (5 + 100 * n + 9)) (objects_text n) = joined (joined head rovers) places in
      wider (200 * n + 34) all (omega arith)

  pub short_problem : length (problem_text n) ≤ 1048576
  short_problem =
      let initial : Short (7 + 100 * n + 2) (facts_text n) = joined (joined (words (line (codes "(:init"))) facts_short) (words (line (codes ")"))) in
      let wanted : Short (12 + 100 * n + 4) (goals_text n) = joined (joined (words (line (codes "(:goal (and"))) goals_short) (words (line (codes ")))"))) in
      let first : Short 39 (line (codes "(define (problem demo) (:domain rover)")) = words (line (codes "(define (problem demo) (:domain rover)")) in
      let all : Short (39 + (200 * n + 34) + (7 + 100 * n + 2) + (12 + 100 * n + 4)) (problem_text n) = joined (joined (joined first objects_short) initial) wanted in
      omega (arith, all.fits, few)

  pub short_plan : (spoiled : Bool) → length (plan_text spoiled n) ≤ 1048576
  short_plan spoiled =
      let steps = each_short (λ i. steps_text (spoiled && (i == n)) i) n (λ i h. wider 100 (steps_short i (below i h) (spoiled && (i == n))) (omega arith)) in
      omega (arith, steps.fits, few)

-- texts that are those of a demo make its cases
pub are_of_the_demo : (n : ℕ) (domain problem plan spoiled : List ℕ) → domain ≡ domain_text → problem ≡ problem_text n → plan ≡ plan_text false n → spoiled ≡ plan_text true n
    → cases_of domain problem plan spoiled ≡ demo_cases n
unfolding demo_cases
are_of_the_demo n domain problem plan spoiled a b c d =
    ap (λ t. cases_of t problem plan spoiled) a ∙ ap (λ t. cases_of domain_text t plan spoiled) b ∙ ap (λ t. cases_of domain_text (problem_text n) t spoiled) c ∙ ap (cases_of domain_text (problem_text n) (plan_text false n)) d
