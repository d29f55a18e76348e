-- How the reading goes on past a sign.
use Rattle.std.proofs.Common.{◌≡◌, ◌≢◌, ℕ, eq-eqb, ne_eqb, List, [], ◌∷◌, ◌++◌, length, Result, Ok, Err, Option, Some, None, subst, refl, sym, ap, ◌∙◌, arith, append_assoc, append-nil, flat_map}
use Rattle.std.proofs.lemmas.List.{length-map}
use Rattle.stp_text.specs.declared.fault.TextFault.{TextFault}
use Rattle.stp_text.specs.declared.fault.TextFault.TheVariants.{StrayClose, TooDeep, Unclosed}
use Rattle.stp_text.specs.declared.token.Token.{Token}
use Rattle.stp_text.specs.Tree.{Tree, Word, Node, trees_of}
use Rattle.stp_text.specs.Bytes.{folded}
use Rattle.stp_text.specs.Signs.{Sign, Opens, Closes, Spells, signs_of}
use Rattle.stp_text.specs.Offences.{wrong, offences, unclosed, wrongs}
use Rattle.stp_text.specs.Pieces.{signs_left, sign_of, Takes, TakesPiece, Refuses}
use Rattle.stp_text.specs.declared.reader.Piece.{Piece}
use Rattle.stp_text.specs.Reading.{Frame, outer_items, judged, read_on, token_of, whole, only_list, tree_of}

pub on_word : (frames : List Frame) (items : List Tree) (at : ℕ) (text : List ℕ) (ss : List Sign) → wrong (Spells at text) ≡ [] → read_on frames items (Spells at text ∷ ss) ≡ read_on frames (items ++ Word at (folded text) ∷ []) ss
unfolding read_on offences unclosed outer_items
on_word frames items at text ss e = rw e refl

pub on_open : (frames : List Frame) (items : List Tree) (at : ℕ) (ss : List Sign) → length frames ≢ 100 → read_on frames items (Opens at ∷ ss) ≡ read_on ((at, items) ∷ frames) [] ss
unfolding read_on offences unclosed outer_items
on_open frames items at ss h = rw length-map (rw (ne_eqb (length frames) 100 h) refl)

pub on_close : (frames : List Frame) (items before : List Tree) (at end : ℕ) (ss : List Sign) → read_on ((at, before) ∷ frames) items (Closes end ∷ ss) ≡ read_on frames (before ++ Node at (trees_of items) ∷ []) ss
unfolding read_on offences unclosed outer_items
on_close frames items before at end ss = refl

pub too_deep : (frames : List Frame) (items : List Tree) (at : ℕ) (ss : List Sign) → length frames ≡ 100 → read_on frames items (Opens at ∷ ss) ≡ Err (TooDeep at)
unfolding read_on offences
too_deep frames items at ss h = rw length-map (rw (eq-eqb (length frames) 100 h) refl)

pub stray : (frames : List Frame) (items : List Tree) (at : ℕ) (ss : List Sign) → length frames ≡ 0 → read_on frames items (Closes at ∷ ss) ≡ Err (StrayClose at)
unfolding read_on offences
stray [] items at ss h = refl
stray (frame ∷ frames) items at ss h = absurd (omega arith)

pub unclosed_end : (frames : List Frame) (items before : List Tree) (at : ℕ) → read_on ((at, before) ∷ frames) items [] ≡ Err (Unclosed at)
unfolding read_on offences unclosed
unclosed_end frames items before at = refl

pub whole_end : (items : List Tree) → read_on [] items [] ≡ Ok items
unfolding read_on offences unclosed outer_items
whole_end items = refl

pub wrong_sign : (frames : List Frame) (items : List Tree) (s : Sign) (ss : List Sign) (fault : TextFault) → wrong s ≡ fault ∷ [] → read_on frames items (s ∷ ss) ≡ Err fault
unfolding read_on offences
wrong_sign frames items s ss fault e = rw e refl

pub refused : (frames : List Frame) (items : List Tree) (r : ℕ × List ℕ) (fault : TextFault) → Refuses fault r → read_on frames items (signs_left r) ≡ Err fault
refused frames items r fault h = rw h.same (wrong_sign frames items h.sign h.rest fault h.is_wrong)

-- what a reader gave, where it is known to be a piece or none
pub taken : (old new : ℕ × List ℕ) (o : Option Piece) (p : Piece) → o ≡ Some p → TakesPiece old new o → Takes (sign_of p) old new
taken old new o p e t = let P : Option Piece → Type 0 = TakesPiece old new in subst P e t

pub none_taken : (old new : ℕ × List ℕ) (o : Option Piece) → o ≡ None → TakesPiece old new o → signs_left old ≡ []
none_taken old new o e t = let P : Option Piece → Type 0 = TakesPiece old new in subst P e t

-- what the rest of a text says, its whole says
pub tree_refused : (bytes : List ℕ) (items : List Tree) (ss : List Sign) (fault : TextFault) → read_on [] [] (signs_of bytes) ≡ read_on [] items ss → read_on [] items ss ≡ Err fault → tree_of bytes ≡ Err fault
unfolding tree_of
tree_refused bytes items ss fault e f = ap (whole (length bytes)) (e ∙ f)

pub tree_whole : (bytes : List ℕ) (items : List Tree) (ss : List Sign) (r : Result Tree TextFault) → read_on [] [] (signs_of bytes) ≡ read_on [] items ss → ss ≡ [] → only_list (length bytes) items ≡ r → tree_of bytes ≡ r
unfolding tree_of
tree_whole bytes items ss r e n o =
    let end : read_on [] items ss ≡ Ok items = rw n (whole_end items) in
    ap (whole (length bytes)) (e ∙ end) ∙ o

-- what comes of the rest of a text once these tokens were found
abbrev pub tokens_on : List Token → List Sign → Result (List Token) TextFault
tokens_on found ss = judged (wrongs ss) [] (found ++ flat_map token_of ss)

pub token_right : (found : List Token) (t : Token) (s : Sign) (ss : List Sign) → wrong s ≡ [] → token_of s ≡ t ∷ [] → tokens_on found (s ∷ ss) ≡ tokens_on (found ++ t ∷ []) ss
unfolding wrongs
token_right found t s ss e f = rw (e, f) (ap (judged (wrongs ss) []) (sym (append_assoc found (t ∷ []) (flat_map token_of ss))))

pub token_wrong : (found : List Token) (s : Sign) (ss : List Sign) (fault : TextFault) → wrong s ≡ fault ∷ [] → tokens_on found (s ∷ ss) ≡ Err fault
unfolding wrongs
token_wrong found s ss fault e = rw e refl

pub tokens_end : (found : List Token) → tokens_on found [] ≡ Ok found
unfolding wrongs
tokens_end found = ap Ok (append-nil found)

pub tokens_refused : (found : List Token) (r : ℕ × List ℕ) (fault : TextFault) → Refuses fault r → tokens_on found (signs_left r) ≡ Err fault
tokens_refused found r fault h = rw h.same (token_wrong found h.sign h.rest fault h.is_wrong)
