-- The offences of a text stand in the order of their places, one at each.
use Rattle.std.proofs.Common.{◌≡◌, ℕ, ◌+◌, ◌<◌, ◌≤◌, ◌⊎◌, inl, inr, Bool, true, false, eqb, nat_lt, List, [], ◌∷◌, ◌++◌, length, Result, All, refl, ap, arith, append-nil, flat_map, if◌then◌else◌}
use Rattle.std.proofs.lemmas.List.Elements.{All-nil, All-cons, All-weaker}
use Rattle.stp_text.specs.declared.bytes.ByteKind.{ByteKind}
use Rattle.stp_text.specs.declared.bytes.ByteKind.TheVariants.{White, Semicolon, Open, Close, Word, Other}
use Rattle.stp_text.specs.declared.fault.TextFault.{TextFault}
use Rattle.stp_text.specs.declared.fault.TextFault.TheVariants.{BadByte, StrayClose, TooDeep, WordTooLong}
use Rattle.stp_text.specs.Bytes.{kind, run}
use Rattle.stp_text.specs.Signs.{Sign, Opens, Closes, Spells, Strange, Inside, Nothing, AWord, AComment, begins, begins_here, begins_after_word, within, signs, signs_of}
use Rattle.stp_text.specs.Offences.{wrong, misplaced, open_after, offences, wrongs, unclosed, place_of}
use Rattle.stp_text.specs.Reading.{judged, outer_items, read_on, tree_of, tokens_of, token_of, whole}
use Rattle.stp_text.specs.Tree.{Tree}
use Rattle.stp_text.specs.Laws.{IsLeast, GivesLeast, TreeGivesLeast, TokensGiveLeast}

-- the place of a sign
abbrev start : Sign → ℕ
start (Opens at) = at
start (Closes at) = at
start (Spells at text) = at
start (Strange at) = at

-- none, or one at a place
abbrev AtMostOne : {X : Type 0} → (X → ℕ) → ℕ → List X → Type 0
AtMostOne {X} at_of at xs = (xs ≡ []) ⊎ ((x : X) × (xs ≡ x ∷ []) × (at_of x ≡ at))

none : {X : Type 0} (at_of : X → ℕ) (at : ℕ) → AtMostOne at_of at []
none at_of at = inl refl

one : {X : Type 0} (at_of : X → ℕ) (x : X) → AtMostOne at_of (at_of x) (x ∷ [])
one at_of x = inr (x, refl, refl)

begun_here : (k : ByteKind) (at : ℕ) (bytes : List ℕ) → AtMostOne start at (begins_here k at bytes)
begun_here White at bytes = none start at
begun_here Semicolon at bytes = none start at
begun_here Open at bytes = one start (Opens at)
begun_here Close at bytes = one start (Closes at)
begun_here Word at bytes = one start (Spells at (run bytes))
begun_here Other at bytes = one start (Strange at)

begun_after_word : (k : ByteKind) (at : ℕ) (bytes : List ℕ) → AtMostOne start at (begins_after_word k at bytes)
begun_after_word Word at bytes = none start at
begun_after_word White at bytes = none start at
begun_after_word Semicolon at bytes = none start at
begun_after_word Open at bytes = one start (Opens at)
begun_after_word Close at bytes = one start (Closes at)
begun_after_word Other at bytes = one start (Strange at)

begun : (inside : Inside) (at b : ℕ) (bytes : List ℕ) → AtMostOne start at (begins inside at b bytes)
begun Nothing at b bytes = begun_here (kind b) at (b ∷ bytes)
begun AWord at b bytes = begun_after_word (kind b) at (b ∷ bytes)
begun AComment at b bytes = none start at

if_so : (f : TextFault) (t : Bool) → AtMostOne place_of (place_of f) (if t then f ∷ [] else [])
if_so f true = one place_of f
if_so f false = none place_of (place_of f)

single_wrong : (s : Sign) → AtMostOne place_of (start s) (wrong s)
single_wrong (Opens at) = none place_of at
single_wrong (Closes at) = none place_of at
single_wrong (Spells at text) = if_so (WordTooLong at) (nat_lt 100 (length text))
single_wrong (Strange at) = one place_of (BadByte at)

single : (outer : List ℕ) (s : Sign) → AtMostOne place_of (start s) (wrong s ++ misplaced outer s)
single outer (Opens at) = if_so (TooDeep at) (eqb (length outer) 100)
single [] (Closes at) = one place_of (StrayClose at)
single (last ∷ outer) (Closes at) = none place_of at
single outer (Spells at text) = rw append-nil (if_so (WordTooLong at) (nat_lt 100 (length text)))
single outer (Strange at) = one place_of (BadByte at)

-- the offences from a place on: the first is the least
abbrev From : ℕ → List TextFault → Type 0
From at found = All (λ o. at ≤ place_of o) found

record Ordered (at : ℕ) (found : List TextFault) : Type 0 where
  from : From at found
  first : (f : TextFault) (rest : List TextFault) → found ≡ f ∷ rest → From (place_of f + 1) rest

ordered_none : (at : ℕ) → Ordered at []
ordered_none at = record { from = All-nil _; first = λ f rest e. cc }

ordered_later : (at : ℕ) (found : List TextFault) → Ordered (at + 1) found → Ordered at found
ordered_later at found o = record { from = All-weaker (λ f. at + 1 ≤ place_of f) (λ f. at ≤ place_of f) (λ f h. omega arith) found o.from; first = o.first }

ordered_here : (at : ℕ) (f : TextFault) (found : List TextFault) → place_of f ≡ at → Ordered (at + 1) found → Ordered at (f ∷ found)
ordered_here at f found e o = record {
  from = All-cons (λ g. at ≤ place_of g) f found (omega arith) (ordered_later at found o).from;
  first = λ g rest h. (let h1 : f ≡ g = cc in let h2 : found ≡ rest = cc in rw (← h1, ← h2, e) o.from);
}

ordered_next : (at : ℕ) (here found : List TextFault) → AtMostOne place_of at here → Ordered (at + 1) found → Ordered at (here ++ found)
ordered_next at here found (inl e) o = rw e (ordered_later at found o)
ordered_next at here found (inr (f, e, p)) o = rw e (ordered_here at f found p o)

-- the offences of signs of which at most one begins here
ordered_begun : (at : ℕ) (outer : List ℕ) (here ss : List Sign) → AtMostOne start at here → ((o : List ℕ) → Ordered (at + 1) (offences o ss)) → Ordered at (offences outer (here ++ ss))
unfolding offences
ordered_begun at outer here ss (inl e) o = rw e (ordered_later at (offences outer ss) (o outer))
ordered_begun at outer here ss (inr (s, e, p)) o = rw e (ordered_next at (wrong s ++ misplaced outer s) (offences (open_after outer s) ss) (rw (← p) (single outer s)) (o (open_after outer s)))

ordered : (inside : Inside) (at : ℕ) (bytes : List ℕ) (outer : List ℕ) → Ordered at (offences outer (signs inside at bytes))
unfolding signs offences
ordered inside at [] outer = ordered_none at
ordered inside at (b ∷ bytes) outer = ordered_begun at outer (begins inside at b bytes) (signs (within inside b) (at + 1) bytes) (begun inside at b bytes) (ordered (within inside b) (at + 1) bytes)

words_begun : (at : ℕ) (here ss : List Sign) → AtMostOne start at here → Ordered (at + 1) (wrongs ss) → Ordered at (wrongs (here ++ ss))
unfolding wrongs
words_begun at here ss (inl e) o = rw e (ordered_later at (wrongs ss) o)
words_begun at here ss (inr (s, e, p)) o = rw e (ordered_next at (wrong s) (wrongs ss) (rw (← p) (single_wrong s)) o)

words_ordered : (inside : Inside) (at : ℕ) (bytes : List ℕ) → Ordered at (wrongs (signs inside at bytes))
unfolding signs wrongs
words_ordered inside at [] = ordered_none at
words_ordered inside at (b ∷ bytes) = words_begun at (begins inside at b bytes) (signs (within inside b) (at + 1) bytes) (begun inside at b bytes) (words_ordered (within inside b) (at + 1) bytes)

-- the first of ordered offences is the one of the least place
first_is_least : (at : ℕ) (f : TextFault) (rest : List TextFault) → Ordered at (f ∷ rest) → IsLeast (f ∷ rest) f
first_is_least at f rest o = record {
  among = (0, omega (arith), refl);
  least = All-cons (λ g. (g ≡ f) ⊎ (place_of f < place_of g)) f rest (inl refl) (All-weaker (λ g. place_of f + 1 ≤ place_of g) (λ g. (g ≡ f) ⊎ (place_of f < place_of g)) (λ g h. inr (omega arith)) rest (o.first f rest refl));
}

gives_first : {A : Type 0} (at : ℕ) (found : List TextFault) (outer : List ℕ) (value : A) → Ordered at found → GivesLeast found (judged found outer value)
gives_first at [] outer value o ne = absurd (ne refl)
gives_first at (f ∷ rest) outer value o ne = (f, refl, first_is_least at f rest o)

whole_refused : (end : ℕ) (found : List TextFault) (r : Result (List Tree) TextFault) → GivesLeast found r → GivesLeast found (whole end r)
whole_refused end found r g ne = let h = g ne in (h.0, ap (whole end) h.1, h.2)

pub tree_gives_least : TreeGivesLeast
unfolding tree_of read_on
tree_gives_least bytes = let ss = signs_of bytes in whole_refused (length bytes) (offences [] ss) _ (gives_first 0 (offences [] ss) (unclosed [] ss) (outer_items [] [] ss) (ordered Nothing 0 bytes []))

pub tokens_give_least : TokensGiveLeast
unfolding tokens_of
tokens_give_least bytes = let ss = signs_of bytes in gives_first 0 (wrongs ss) [] (flat_map token_of ss) (words_ordered Nothing 0 bytes)
