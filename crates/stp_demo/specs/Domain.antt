-- The domain's text: rovers drive for a time that nobody chooses, and take photos where they stand still.
use Rattle.std.specs.Prelude.{ℕ, List, ◌++◌, codes}
use Rattle.stp_demo.specs.Pieces.{line}

abbrev pub declarations_text : List ℕ
declarations_text =
    line (codes "(define (domain rover)")
    ++ line (codes " (:requirements :typing :durative-actions)")
    ++ line (codes " (:types rover place - object)")
    ++ line (codes " (:predicates (at ?r - rover ?p - place) (road ?a ?b - place)")
    ++ line (codes "   (still ?r - rover) (seen ?p - place))")
    ++ line (codes " (:functions (fast ?a ?b - place) (slow ?a ?b - place))")

abbrev pub drive_text : List ℕ
drive_text =
    line (codes " (:durative-action drive")
    ++ line (codes "  :parameters (?r - rover ?a ?b - place)")
    ++ line (codes "  :uncontrollable-duration (and (>= ?duration (fast ?a ?b))")
    ++ line (codes "    (<= ?duration (slow ?a ?b)))")
    ++ line (codes "  :condition (and (at start (at ?r ?a)) (at start (still ?r))")
    ++ line (codes "    (over all (road ?a ?b)))")
    ++ line (codes "  :effect (and (at start (not (at ?r ?a))) (at start (not (still ?r)))")
    ++ line (codes "    (at end (at ?r ?b)) (at end (still ?r))))")

abbrev pub photo_text : List ℕ
photo_text =
    line (codes " (:durative-action photo")
    ++ line (codes "  :parameters (?r - rover ?p - place)")
    ++ line (codes "  :duration (= ?duration 2)")
    ++ line (codes "  :condition (and (over all (at ?r ?p)) (over all (still ?r)))")
    ++ line (codes "  :effect (at end (seen ?p))))")

abbrev pub domain_text : List ℕ
domain_text = declarations_text ++ drive_text ++ photo_text
