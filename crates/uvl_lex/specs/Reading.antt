-- The logical lines of a text, or its first fault. Own to this project.
use Rattle.std.specs.Prelude.{◌≡◌, ℕ, ◌+◌, ◌==◌, Bool, true, false, if◌then◌else◌, List, [], ◌∷◌, take, count_by, Option, Some, None, Result, Ok, Err}
use Rattle.std.specs.Result.{result_map_both}
use Rattle.std.specs.Str.{is_utf8, chars}
use Rattle.std.specs.Str.Lossy.{utf8_valid_len}
use Rattle.uvl_lex.specs.declared.bracket.Bracket.{Bracket}
use Rattle.uvl_lex.specs.declared.bracket.Shape.{Shape}
use Rattle.uvl_lex.specs.declared.bracket.Shape.TheVariants.{Round, Square, Curly}
use Rattle.uvl_lex.specs.declared.error.LexError.{LexError}
use Rattle.uvl_lex.specs.declared.error.LexError.TheVariants.{Refused, Memory}
use Rattle.uvl_lex.specs.declared.error.LexReason.TheVariants.{NotUtf8, BadToken, OpenBracket}
use Rattle.uvl_lex.specs.declared.piece.Piece.TheVariants.{Blank, LineEnd, Comment, Lexeme, Fault}
use Rattle.uvl_lex.specs.declared.token.Line.{Line}
use Rattle.uvl_lex.specs.declared.token.Mark.TheVariants.{OpenRound, CloseRound, OpenSquare, CloseSquare, OpenCurly, CloseCurly}
use Rattle.uvl_lex.specs.declared.token.Token.{Token}
use Rattle.uvl_lex.specs.declared.token.TokenKind.{TokenKind}
use Rattle.uvl_lex.specs.declared.token.TokenKind.TheVariants.{Mark}
use Rattle.uvl_lex.specs.Places.{line_feed, unmarked, beginning}
use Rattle.uvl_lex.specs.Pieces.{PlacedPiece, pieces_from}

-- BRACKETS

-- the shape of the bracket that the token opens
abbrev pub opens : TokenKind → Option Shape
opens (Mark OpenRound) = Some Round
opens (Mark OpenSquare) = Some Square
opens (Mark OpenCurly) = Some Curly
opens _ = None

-- the shape of the bracket that the token closes
abbrev pub closes : TokenKind → Option Shape
closes (Mark CloseRound) = Some Round
closes (Mark CloseSquare) = Some Square
closes (Mark CloseCurly) = Some Curly
closes _ = None

abbrev pub is_same_shape : Shape → Shape → Bool
is_same_shape Round Round = true
is_same_shape Square Square = true
is_same_shape Curly Curly = true
is_same_shape _ _ = false

-- the open brackets, innermost first, without the innermost one, if that has the shape
abbrev pub closed_by : Shape → List Bracket → Option (List Bracket)
closed_by shape [] = None
closed_by shape (bracket ∷ outer) = if is_same_shape bracket.shape shape then Some outer else None

abbrev pub closed_or_same : Option Shape → List Bracket → Option (List Bracket)
closed_or_same None open_now = Some open_now
closed_or_same (Some shape) open_now = closed_by shape open_now

abbrev pub opened_or_closed : Option Shape → Token → List Bracket → Option (List Bracket)
opened_or_closed (Some shape) token open_now = Some (record { shape = shape; line = token.line } ∷ open_now)
opened_or_closed None token open_now = closed_or_same (closes token.kind) open_now

-- the open brackets after a token, or nothing where it closes a bracket that is not the innermost open one
abbrev pub brackets_after : Token → List Bracket → Option (List Bracket)
brackets_after token open_now = opened_or_closed (opens token.kind) token open_now

-- LINES

abbrev pub token_at : TokenKind → PlacedPiece → Token
token_at kind part = record { kind = kind; start = part.from.offset; end = part.upto.offset; line = part.from.line }

-- A run of lines: first what stands before the next line end, if anything, and then the lines below it.
abbrev pub Run : Type 0
Run = Option Line × List Line

-- the lines of a run
abbrev pub all_lines : Run → List Line
all_lines (None, below) = below
all_lines (Some line, below) = line ∷ below

-- a line end before a run
abbrev pub line_end_before : Run → Run
line_end_before run = (None, all_lines run)

-- the tokens of the line, none where there is no line
abbrev pub tokens_of : Option Line → List Token
tokens_of None = []
tokens_of (Some line) = line.tokens

-- a token before a run: the line begins with it
abbrev pub token_before : PlacedPiece → Token → Run → Run
token_before part token run =
    (Some (record { number = part.from.line; indent = part.from.column; tokens = token ∷ tokens_of run.0 }), run.1)

-- THE READING

-- what is asked for, or the first fault of the text
abbrev pub OrFault : Type 0 → Type 0
OrFault A = Result A LexError

abbrev pub on_ok : {A B : Type 0} → (A → B) → OrFault A → OrFault B
on_ok f read = result_map_both f (λ e. e) read

-- at the end a bracket may still be open
abbrev pub at_end : List Bracket → OrFault Run
at_end [] = Ok (None, [])
at_end (bracket ∷ outer) = Err (Refused bracket.line OpenBracket)

-- a line end outside all brackets ends a line
abbrev pub at_line_end : List Bracket → OrFault Run → OrFault Run
at_line_end [] rest = on_ok line_end_before rest
at_line_end (bracket ∷ outer) rest = rest

-- a token goes before what follows it, unless it closes a bracket that it may not close
abbrev pub at_token : PlacedPiece → Token → Option (List Bracket) → (List Bracket → OrFault Run) → OrFault Run
at_token p token None rest = Err (Refused p.from.line BadToken)
at_token p token (Some now) rest = on_ok (token_before p token) (rest now)

-- The run that the pieces make where these brackets are open before them, or the first fault among them.
unfoldable pub run_of : List Bracket → List PlacedPiece → OrFault Run
run_of open_now [] = at_end open_now
run_of open_now (p ∷ ps) =
    elim p.what [
      | Blank ↦ run_of open_now ps
      | LineEnd ↦ at_line_end open_now (run_of open_now ps)
      | Comment ↦ run_of open_now ps
      | Lexeme kind ↦ at_token p (token_at kind p) (brackets_after (token_at kind p) open_now) (λ now. run_of now ps)
      | Fault reason ↦ Err (Refused p.from.line reason)
    ]

-- the pieces of a text of characters, after its byte order mark
abbrev pub pieces_of : List ℕ → List PlacedPiece
pieces_of cs = pieces_from (beginning cs) (unmarked cs)

-- the lines of a text of characters
abbrev pub lines_of : List ℕ → OrFault (List Line)
lines_of cs = on_ok all_lines (run_of [] (pieces_of cs))

-- Bytes that are not UTF-8 are refused before anything else, at the line of the first wrong byte.
unfoldable pub reading : List ℕ → OrFault (List Line)
reading bytes =
    if is_utf8 bytes then lines_of (chars bytes)
    else Err (Refused (1 + count_by (λ b. b == line_feed) (take (utf8_valid_len bytes) bytes)) NotUtf8)

-- the error is the refusal of this reading, unless it is want of memory
abbrev pub IsRefusal : LexError → OrFault (List Line) → Type 0
IsRefusal Memory read = Unit {0}
IsRefusal (Refused line reason) read = read ≡ Err (Refused line reason)
