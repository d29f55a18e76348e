-- The tree and the tokens of a text, or its one refusal.
use Rattle.std.specs.Prelude.{ℕ, ◌+◌, List, [], ◌∷◌, ◌++◌, length, map, Result, Ok, Err}
use Rattle.std.specs.List.{flat_map}
use Rattle.stp_text.specs.declared.fault.TextFault.{TextFault}
use Rattle.stp_text.specs.declared.fault.TextFault.TheVariants.{Unclosed, NotOneList}
use Rattle.stp_text.specs.declared.token.Token.{Token}
use Rattle.stp_text.specs.declared.token.TokenKind.TheVariants.{LeftParen, RightParen, Word as AWord}
use Rattle.stp_text.specs.Tree.{Tree, Word, Node, trees_of}
use Rattle.stp_text.specs.Items.{place}
use Rattle.stp_text.specs.Bytes.{folded}
use Rattle.stp_text.specs.Signs.{Sign, Opens, Closes, Spells, Strange, signs_of}
use Rattle.stp_text.specs.Offences.{offences, unclosed, wrongs}

-- an open list: its place, and the items that stand before it in the list around it
abbrev pub Frame : Type 0
Frame = ℕ × List Tree

-- the items at the outside, once these lists are open and the innermost has these items
unfoldable pub outer_items : List Frame → List Tree → List Sign → List Tree
outer_items frames items [] = items
outer_items frames items (Opens at ∷ ss) = outer_items ((at, items) ∷ frames) [] ss
outer_items [] items (Closes at ∷ ss) = outer_items [] items ss
outer_items (frame ∷ frames) items (Closes at ∷ ss) = outer_items frames (frame.1 ++ Node frame.0 (trees_of items) ∷ []) ss
outer_items frames items (Spells at text ∷ ss) = outer_items frames (items ++ Word at (folded text) ∷ []) ss
outer_items frames items (Strange at ∷ ss) = outer_items frames items ss

-- the rule: the first offence of the table; where there is none, the last `(` that has no `)`
abbrev pub judged : {A : Type 0} → List TextFault → List ℕ → A → Result A TextFault
judged (fault ∷ faults) outer value = Err fault
judged [] (last ∷ outer) value = Err (Unclosed last)
judged [] [] value = Ok value

-- the places of open lists
abbrev pub places : List Frame → List ℕ
places frames = map (λ (f : Frame). f.0) frames

-- what comes of signs that stand inside of open lists
unfoldable pub read_on : List Frame → List Tree → List Sign → Result (List Tree) TextFault
read_on frames items ss = judged (offences (places frames) ss) (unclosed (places frames) ss) (outer_items frames items ss)

-- the one item of a file of this length, which has to be a list
abbrev pub only_list : ℕ → List Tree → Result Tree TextFault
only_list end [] = Err (NotOneList end)
only_list end (Word at text ∷ items) = Err (NotOneList at)
only_list end (Node at inner ∷ []) = Ok (Node at inner)
only_list end (Node at inner ∷ second ∷ items) = Err (NotOneList (place second))

-- the one list of a file of this length, where nothing else is wrong
abbrev pub whole : ℕ → Result (List Tree) TextFault → Result Tree TextFault
whole end (Ok items) = only_list end items
whole end (Err fault) = Err fault

-- the tree of a text, or its one refusal
unfoldable pub tree_of : List ℕ → Result Tree TextFault
tree_of bytes = whole (length bytes) (read_on [] [] (signs_of bytes))

-- the place of the byte after a sign
abbrev pub end_of : Sign → ℕ
end_of (Opens at) = at + 1
end_of (Closes at) = at + 1
end_of (Spells at text) = at + length text
end_of (Strange at) = at + 1

-- the token of a sign
abbrev pub token_of : Sign → List Token
token_of (Opens at) = record { kind = LeftParen; at = at; end = at + 1 } ∷ []
token_of (Closes at) = record { kind = RightParen; at = at; end = at + 1 } ∷ []
token_of (Spells at text) = record { kind = AWord; at = at; end = at + length text } ∷ []
token_of (Strange at) = []

-- the tokens of a text, or the first of its bytes and words that is refused
unfoldable pub tokens_of : List ℕ → Result (List Token) TextFault
tokens_of bytes = judged (wrongs (signs_of bytes)) [] (flat_map token_of (signs_of bytes))
