-- What holds of the pieces, the tokens and the lines of every text.
use Rattle.std.specs.Prelude.{◌≡◌, ℕ, ◌+◌, ◌<◌, ◌≤◌, IsTrue, List, [], ◌∷◌, ◌++◌, length, Option, Some, Ok}
use Rattle.std.specs.List.{All}
use Rattle.std.specs.Option.{option_and_then}
use Rattle.std.specs.Str.{is_utf8, chars}
use Rattle.uvl_lex.specs.declared.bracket.Bracket.{Bracket}
use Rattle.uvl_lex.specs.declared.piece.Piece.{Piece}
use Rattle.uvl_lex.specs.declared.piece.Piece.TheVariants.{Blank, LineEnd, Comment, Lexeme, Fault}
use Rattle.uvl_lex.specs.declared.token.Line.{Line}
use Rattle.uvl_lex.specs.declared.token.Token.{Token}
use Rattle.uvl_lex.specs.declared.token.TokenKind.{TokenKind}
use Rattle.uvl_lex.specs.declared.token.TokenKind.TheVariants.{Name, Quoted, Text, Number, Keyword, Mark}
use Rattle.uvl_lex.specs.Pieces.{PlacedPiece}
use Rattle.uvl_lex.specs.Places.{beginning}
use Rattle.uvl_lex.specs.Reading.{OrFault, reading, pieces_of, token_at, brackets_after}
use Rattle.uvl_lex.specs.Text.{IsSpanOf}

-- a token has at least one byte, and one between quotes two
abbrev pub least_len : TokenKind → ℕ
least_len Name = 1
least_len Quoted = 2
least_len Text = 2
least_len Number = 1
least_len (Keyword word) = 1
least_len (Mark mark) = 1

abbrev pub least_piece : Piece → ℕ
least_piece Blank = 1
least_piece LineEnd = 1
least_piece Comment = 1
least_piece (Lexeme kind) = least_len kind
least_piece (Fault reason) = 1

-- The pieces go from one byte to another: each begins where the one before ends, and none is empty.
abbrev pub Cover : ℕ → List PlacedPiece → ℕ → Type 0
Cover from [] upto = from ≡ upto
Cover from (p ∷ ps) upto = (p.from.offset ≡ from) × (p.from.offset + least_piece p.what ≤ p.upto.offset) × Cover p.upto.offset ps upto

-- The pieces of a text (blanks, line ends, comments and tokens) make up all its bytes after the byte order mark.
abbrev pub PiecesCover : Type 0
PiecesCover = (bytes : List ℕ) → IsTrue (is_utf8 bytes) → Cover (beginning (chars bytes)).offset (pieces_of (chars bytes)) (length bytes)

-- the tokens among the pieces
abbrev pub tokens_if : Piece → PlacedPiece → List Token → List Token
tokens_if Blank p ts = ts
tokens_if LineEnd p ts = ts
tokens_if Comment p ts = ts
tokens_if (Lexeme kind) p ts = token_at kind p ∷ ts
tokens_if (Fault reason) p ts = ts

abbrev pub tokens_among : List PlacedPiece → List Token
tokens_among [] = []
tokens_among (p ∷ ps) = tokens_if p.what p (tokens_among ps)

abbrev pub all_tokens : List Line → List Token
all_tokens [] = []
all_tokens (line ∷ below) = line.tokens ++ all_tokens below

-- the tokens lie one behind the other between two bytes
abbrev pub Ascend : ℕ → List Token → ℕ → Type 0
Ascend from [] upto = from ≤ upto
Ascend from (t ∷ ts) upto = (from ≤ t.start) × (t.start + least_len t.kind ≤ t.end) × Ascend t.end ts upto

-- the brackets that are open after some tokens, nothing where one closes what it may not close
abbrev pub brackets_along : List Token → List Bracket → Option (List Bracket)
brackets_along [] open_now = Some open_now
brackets_along (t ∷ ts) open_now = option_and_then (brackets_along ts) (brackets_after t open_now)

-- what holds of each line of the text with these bytes
pub record IsLine (bytes : List ℕ) (line : Line) : Type 0 where
  -- it has a token,
  pub some : 0 < length line.tokens
  -- its brackets are closed in order,
  pub balanced : brackets_along line.tokens [] ≡ Some []
  -- the span of each of its tokens lies in the bytes,
  pub spans : All (IsSpanOf bytes) line.tokens
  -- and it has no more tokens than the text has bytes
  pub few : length line.tokens ≤ length bytes

-- what a reader of the lines may rely on
pub record AreLines (bytes : List ℕ) (lines : List Line) : Type 0 where
  pub each : All (IsLine bytes) lines
  pub tokens : all_tokens lines ≡ tokens_among (pieces_of (chars bytes))
  pub ascend : Ascend 0 (all_tokens lines) (length bytes)
  pub spans : All (IsSpanOf bytes) (all_tokens lines)

abbrev pub ReadingsAreLines : Type 0
ReadingsAreLines = (bytes : List ℕ) (lines : List Line) → reading bytes ≡ Ok lines → AreLines bytes lines

-- a text has one reading at most
abbrev pub OneReading : Type 0
OneReading = (bytes : List ℕ) (one other : OrFault (List Line)) → reading bytes ≡ one → reading bytes ≡ other → one ≡ other
