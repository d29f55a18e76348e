-- What a reader of a text says.
use Rattle.std.specs.Prelude.{◌≡◌, ◌≢◌, ℕ, ◌<◌, ◌+◌, Bool, true, false, List, [], ◌∷◌, ◌++◌, length, Err, MatchOption, Option}
use Rattle.stp_text.specs.declared.fault.TextFault.{TextFault}
use Rattle.stp_text.specs.declared.fault.TextFault.TheVariants.{Memory}
use Rattle.stp_text.specs.declared.reader.Piece.{Piece}
use Rattle.stp_text.specs.declared.reader.Piece.TheVariants.{Open, Close, Word}
use Rattle.stp_text.specs.Tree.{Tree, Node, trees_of}
use Rattle.stp_text.specs.Signs.{Sign, Opens, Closes, Spells, Nothing, signs}
use Rattle.stp_text.specs.Offences.{wrong}
use Rattle.stp_text.specs.Reading.{Frame, read_on, end_of}

-- the sign that a piece is
abbrev pub sign_of : Piece → Sign
sign_of (Open at) = Opens at
sign_of (Close at) = Closes at
sign_of (Word at text) = Spells at text.now

-- whether a piece is a `)`
abbrev pub is_close : Piece → Bool
is_close (Open at) = false
is_close (Close at) = true
is_close (Word at text) = false

-- the signs that a reader has before it, where it stands outside of words and comments
abbrev pub signs_left : ℕ × List ℕ → List Sign
signs_left reader = signs Nothing reader.0 reader.1

-- the reader took this sign, which is right by itself
pub record Takes (s : Sign) (old new : ℕ × List ℕ) : Type 0 where
  pub same : signs_left old ≡ s ∷ signs_left new
  pub right : wrong s ≡ []
  pub ends : end_of s ≡ new.0
  pub shorter : length new.1 < length old.1

-- the next sign is wrong by itself
pub record Refuses (fault : TextFault) (old : ℕ × List ℕ) : Type 0 where
  pub sign : Sign
  pub rest : List Sign
  pub same : signs_left old ≡ sign ∷ rest
  pub is_wrong : wrong sign ≡ fault ∷ []

-- what a reader gives: no piece at the end, a piece, or what is wrong with it
abbrev pub TakesPiece : ℕ × List ℕ → ℕ × List ℕ → Option Piece → Type 0
TakesPiece old new piece = MatchOption piece (signs_left old ≡ []) (λ p. Takes (sign_of p) old new)

-- an item was read inside of so many lists
abbrev pub ReadsItem : ℕ → List Sign → Tree → List Sign → Type 0
ReadsItem depth old item new = (frames : List Frame) (items : List Tree) → length frames ≡ depth → read_on frames items old ≡ read_on frames (items ++ item ∷ []) new

-- what is refused inside of so many lists
abbrev pub RefusesItem : ℕ → List Sign → TextFault → Type 0
RefusesItem depth old fault = fault ≢ Memory → (frames : List Frame) (items : List Tree) → length frames ≡ depth → read_on frames items old ≡ Err fault

-- the items of a list at a place were read, which is in so many lists with itself
abbrev pub ReadsItems : ℕ → ℕ → List Sign → List Tree → List Sign → Type 0
ReadsItems at depth old inner new = (frames : List Frame) (items : List Tree) → length frames + 1 ≡ depth → read_on ((at, items) ∷ frames) [] old ≡ read_on frames (items ++ Node at (trees_of inner) ∷ []) new

-- what is refused inside of a list at a place, which is in so many lists with itself
abbrev pub RefusesItems : ℕ → ℕ → List Sign → TextFault → Type 0
RefusesItems at depth old fault = fault ≢ Memory → (frames : List Frame) (items : List Tree) → length frames + 1 ≡ depth → read_on ((at, items) ∷ frames) [] old ≡ Err fault
