-- Worked examples: what the definition says of short texts, each computed. The values were worked out by hand.
use lib.Utf8.{encode}
use Rattle.std.specs.Prelude.{◌≡◌, ℕ, List, [], ◌∷◌, Ok, Err, refl}
use Rattle.std.specs.Str.{is_utf8, chars}
use Rattle.std.specs.Str.Lossy.{utf8_valid_len}
use Rattle.unicode_ident.proofs.Computing.{unicode_ident}
use Rattle.uvl_lex.specs.declared.error.LexError.TheVariants.{Refused}
use Rattle.uvl_lex.specs.declared.error.LexReason.TheVariants.{NotUtf8, BadToken, OpenBracket, OpenComment}
use Rattle.uvl_lex.specs.declared.token.Keyword.TheVariants.{Features, Or}
use Rattle.uvl_lex.specs.declared.token.Line.{Line}
use Rattle.uvl_lex.specs.declared.token.Mark.TheVariants.{Assign, AtMost, CloseCurly, Dot, Dots, Iff, Less, OpenCurly, Plus, Then}
use Rattle.uvl_lex.specs.declared.token.Token.{Token}
use Rattle.uvl_lex.specs.declared.token.TokenKind.{TokenKind}
use Rattle.uvl_lex.specs.declared.token.TokenKind.TheVariants.{Name, Quoted, Text, Number, Keyword, Mark}
use Rattle.uvl_lex.specs.Pieces.{first_piece, pieces_after}
use Rattle.uvl_lex.specs.Reading.{OrFault, reading, run_of}
use Rattle.uvl_lex.specs.Words.{keyword_of}

-- `unfolding computing` lets `refl` compute a reading
unfoldable pub computing : Unit {0}
unfolding reading is_utf8 chars utf8_valid_len encode run_of pieces_after first_piece keyword_of unicode_ident
computing = tt

abbrev line : ℕ → ℕ → List Token → Line
line number indent tokens = record { number = number; indent = indent; tokens = tokens }

abbrev token : TokenKind → ℕ → ℕ → ℕ → Token
token kind start end line = record { kind = kind; start = start; end = end; line = line }

abbrev lines : List Line → OrFault (List Line)
lines ls = Ok ls

-- no bytes, no lines
pub empty_text : reading ([]) ≡ lines []
unfolding computing
empty_text = refl

-- a tab is 8 columns; the last line needs no end
pub two_lines : reading (102 ∷ 101 ∷ 97 ∷ 116 ∷ 117 ∷ 114 ∷ 101 ∷ 115 ∷ 10 ∷ 9 ∷ 82 ∷ []) ≡ lines (line 1 0 (token (Keyword Features) 0 8 1 ∷ []) ∷ line 2 8 (token Name 10 11 2 ∷ []) ∷ [])
unfolding computing
two_lines = refl

-- a byte order mark adds no column, a carriage return adds none and ends nothing
pub mark_and_return : reading (239 ∷ 187 ∷ 191 ∷ 65 ∷ 13 ∷ 10 ∷ 13 ∷ 9 ∷ 66 ∷ []) ≡ lines (line 1 0 (token Name 3 4 1 ∷ []) ∷ line 2 8 (token Name 8 9 2 ∷ []) ∷ [])
unfolding computing
mark_and_return = refl

-- a carriage return alone ends no line
pub return_alone : reading (65 ∷ 13 ∷ 66 ∷ []) ≡ lines (line 1 0 (token Name 0 1 1 ∷ token Name 2 3 1 ∷ []) ∷ [])
unfolding computing
return_alone = refl

-- `1..2` and `1.5.2`
pub ranges : reading (49 ∷ 46 ∷ 46 ∷ 50 ∷ 32 ∷ 49 ∷ 46 ∷ 53 ∷ 46 ∷ 50 ∷ []) ≡ lines (line 1 0 (token Number 0 1 1 ∷ token (Mark Dots) 1 3 1 ∷ token Number 3 4 1 ∷ token Number 5 8 1 ∷ token (Mark Dot) 8 9 1 ∷ token Number 9 10 1 ∷ []) ∷ [])
unfolding computing
ranges = refl

-- an exponent needs a digit
pub exponents : reading (49 ∷ 101 ∷ 32 ∷ 49 ∷ 101 ∷ 43 ∷ 32 ∷ 49 ∷ 101 ∷ 43 ∷ 53 ∷ []) ≡ lines (line 1 0 (token Number 0 1 1 ∷ token Name 1 2 1 ∷ token Number 3 4 1 ∷ token Name 4 5 1 ∷ token (Mark Plus) 5 6 1 ∷ token Number 7 11 1 ∷ []) ∷ [])
unfolding computing
exponents = refl

-- `/*/` is not closed
pub comment_not_closed : reading (65 ∷ 10 ∷ 32 ∷ 47 ∷ 42 ∷ 47 ∷ []) ≡ Err (Refused 2 OpenComment)
unfolding computing
comment_not_closed = refl

-- `/**/` is; `//` ends before the line feed
pub comment_at_once : reading (47 ∷ 42 ∷ 42 ∷ 47 ∷ 32 ∷ 65 ∷ 32 ∷ 47 ∷ 47 ∷ 32 ∷ 66 ∷ 10 ∷ 67 ∷ []) ≡ lines (line 1 5 (token Name 5 6 1 ∷ []) ∷ line 2 0 (token Name 12 13 2 ∷ []) ∷ [])
unfolding computing
comment_at_once = refl

-- a line feed in a comment ends no logical line, and columns begin anew after it
pub comment_over_lines : reading (47 ∷ 42 ∷ 10 ∷ 42 ∷ 47 ∷ 32 ∷ 65 ∷ 32 ∷ 47 ∷ 42 ∷ 10 ∷ 42 ∷ 47 ∷ 32 ∷ 66 ∷ []) ≡ lines (line 2 3 (token Name 6 7 2 ∷ token Name 14 15 3 ∷ []) ∷ [])
unfolding computing
comment_over_lines = refl

-- a character is one column, of however many bytes
pub wide_characters : reading (47 ∷ 42 ∷ 195 ∷ 169 ∷ 42 ∷ 47 ∷ 9 ∷ 65 ∷ 194 ∷ 167 ∷ []) ≡ lines (line 1 8 (token Name 7 10 1 ∷ []) ∷ [])
unfolding computing
wide_characters = refl

-- quoted names and texts; no comment in them
pub quotes : reading (34 ∷ 65 ∷ 32 ∷ 98 ∷ 34 ∷ 32 ∷ 34 ∷ 65 ∷ 46 ∷ 98 ∷ 34 ∷ 32 ∷ 34 ∷ 34 ∷ 32 ∷ 39 ∷ 39 ∷ 32 ∷ 39 ∷ 47 ∷ 42 ∷ 39 ∷ []) ≡ lines (line 1 0 (token Quoted 0 5 1 ∷ token Text 6 11 1 ∷ token Text 12 14 1 ∷ token Text 15 17 1 ∷ token Text 18 22 1 ∷ []) ∷ [])
unfolding computing
quotes = refl

-- a carriage return does not stand in a quote
pub quote_not_closed : reading (65 ∷ 10 ∷ 34 ∷ 97 ∷ 13 ∷ 98 ∷ 34 ∷ []) ≡ Err (Refused 2 BadToken)
unfolding computing
quote_not_closed = refl

-- an apostrophe in a name belongs to it
pub quote_in_name : reading (49 ∷ 97 ∷ 98 ∷ 99 ∷ 32 ∷ 110 ∷ 111 ∷ 116 ∷ 101 ∷ 39 ∷ 120 ∷ 39 ∷ []) ≡ lines (line 1 0 (token Number 0 1 1 ∷ token Name 1 4 1 ∷ token Name 5 12 1 ∷ []) ∷ [])
unfolding computing
quote_in_name = refl

-- a keyword is a whole name
pub keywords_are_whole : reading (111 ∷ 114 ∷ 32 ∷ 111 ∷ 114 ∷ 114 ∷ 32 ∷ 79 ∷ 114 ∷ []) ≡ lines (line 1 0 (token (Keyword Or) 0 2 1 ∷ token Name 3 6 1 ∷ token Name 7 9 1 ∷ []) ∷ [])
unfolding computing
keywords_are_whole = refl

-- the longest mark
pub longest_mark : reading (60 ∷ 61 ∷ 62 ∷ 32 ∷ 60 ∷ 61 ∷ 32 ∷ 61 ∷ 32 ∷ 61 ∷ 62 ∷ 61 ∷ 32 ∷ 60 ∷ []) ≡ lines (line 1 0 (token (Mark Iff) 0 3 1 ∷ token (Mark AtMost) 4 6 1 ∷ token (Mark Assign) 7 8 1 ∷ token (Mark Then) 9 11 1 ∷ token (Mark Assign) 11 12 1 ∷ token (Mark Less) 13 14 1 ∷ []) ∷ [])
unfolding computing
longest_mark = refl

-- inside brackets a line goes on, comments among them
pub line_goes_on : reading (65 ∷ 32 ∷ 123 ∷ 10 ∷ 47 ∷ 47 ∷ 32 ∷ 125 ∷ 10 ∷ 9 ∷ 125 ∷ 32 ∷ 66 ∷ 10 ∷ 67 ∷ []) ≡ lines (line 1 0 (token Name 0 1 1 ∷ token (Mark OpenCurly) 2 3 1 ∷ token (Mark CloseCurly) 10 11 3 ∷ token Name 12 13 3 ∷ []) ∷ line 4 0 (token Name 14 15 4 ∷ []) ∷ [])
unfolding computing
line_goes_on = refl

-- at the end the innermost open bracket is named
pub bracket_not_closed : reading (40 ∷ 10 ∷ 91 ∷ 10 ∷ 10 ∷ []) ≡ Err (Refused 2 OpenBracket)
unfolding computing
bracket_not_closed = refl

-- brackets close in order
pub bracket_of_another_shape : reading (40 ∷ 91 ∷ 10 ∷ 41 ∷ 93 ∷ []) ≡ Err (Refused 2 BadToken)
unfolding computing
bracket_of_another_shape = refl

-- the section sign begins no name; the first fault counts
pub no_token : reading (65 ∷ 10 ∷ 40 ∷ 32 ∷ 194 ∷ 167 ∷ 32 ∷ 47 ∷ 42 ∷ []) ≡ Err (Refused 2 BadToken)
unfolding computing
no_token = refl

-- not UTF-8 comes before all else
pub wrong_byte : reading (36 ∷ 10 ∷ 195 ∷ 10 ∷ 255 ∷ []) ≡ Err (Refused 2 NotUtf8)
unfolding computing
wrong_byte = refl
