-- What may stand at a place of the text, each kind by how many characters it takes there (0 where it does not stand
-- there), and the cut of a text into its longest pieces. Own to this project.
use Rattle.std.specs.Prelude.{ℕ, zero, suc, ◌+◌, ◌-◌, ◌==◌, nat_lt, nat_le, Bool, false, not, ◌&&◌, ◌||◌, if◌then◌else◌, List, [], ◌∷◌, ◌++◌, map, take, drop, slice_index, Option, Some, None, codes}
use Rattle.std.specs.Char.{is_ascii_digit}
use Rattle.std.specs.List.{prefix_len}
use Rattle.std.specs.Option.{option_map}
use Rattle.std.specs.Str.{encode_utf8_all}
use Rattle.unicode_ident.specs.Ident.{is_xid_start, is_xid_continue}
use Rattle.uvl_lex.specs.declared.error.LexReason.TheVariants.{BadToken, OpenComment}
use Rattle.uvl_lex.specs.declared.piece.Piece.{Piece}
use Rattle.uvl_lex.specs.declared.piece.Piece.TheVariants.{Blank, LineEnd, Comment, Lexeme, Fault}
use Rattle.uvl_lex.specs.declared.place.Place.{Place}
use Rattle.uvl_lex.specs.declared.token.Keyword.{Keyword as Word}
use Rattle.uvl_lex.specs.declared.token.Mark.{Mark as Sign}
use Rattle.uvl_lex.specs.declared.token.TokenKind.{TokenKind}
use Rattle.uvl_lex.specs.declared.token.TokenKind.TheVariants.{Name, Quoted, Text, Number, Keyword, Mark}
use Rattle.uvl_lex.specs.Places.{tab, line_feed, carriage_return, after, along}
use Rattle.uvl_lex.specs.Words.{keyword_of, begins, marks, mark_len}

abbrev pub space : ℕ
space = 32

abbrev pub quote : ℕ
quote = 34

abbrev pub apostrophe : ℕ
apostrophe = 39

abbrev pub dot : ℕ
dot = 46

abbrev pub section_sign : ℕ
section_sign = 0xA7

-- the first character, 0 where there is none
abbrev pub first : List ℕ → ℕ
first cs = slice_index cs 0

-- the length where a test holds, else 0
abbrev pub len_if : Bool → ℕ → ℕ
len_if b n = if b then n else 0

-- BLANKS AND COMMENTS

abbrev pub is_blank : ℕ → Bool
is_blank c = (c == space || c == tab) || c == carriage_return

abbrev pub blank_len : List ℕ → ℕ
blank_len cs = len_if (is_blank (first cs)) 1

abbrev pub line_end_len : List ℕ → ℕ
line_end_len cs = len_if (first cs == line_feed) 1

abbrev pub is_in_line : ℕ → Bool
is_in_line c = not (c == line_feed)

-- `//` and what follows it up to before the next line feed
abbrev pub line_comment_len : List ℕ → ℕ
line_comment_len cs = len_if (begins cs (codes "//")) (prefix_len is_in_line cs)

-- how many characters there are up to and with the first `*/`
abbrev pub closed_after : List ℕ → Option ℕ
closed_after [] = None
closed_after (c ∷ cs) = if begins (c ∷ cs) (codes "*/") then Some 2 else option_map suc (closed_after cs)

abbrev pub opens_comment : List ℕ → Bool
opens_comment cs = begins cs (codes "/*")

-- `/*` and what follows it up to and with the next `*/`
abbrev pub closed_len : Option ℕ → ℕ
closed_len None = 0
closed_len (Some n) = 2 + n

abbrev pub block_comment_len : List ℕ → ℕ
block_comment_len cs = len_if (opens_comment cs) (closed_len (closed_after (drop 2 cs)))

-- `/*` that no `*/` follows
abbrev pub open_len : Option ℕ → ℕ
open_len None = 2
open_len (Some n) = 0

abbrev pub open_comment_len : List ℕ → ℕ
open_comment_len cs = len_if (opens_comment cs) (open_len (closed_after (drop 2 cs)))

-- NAMES

abbrev pub starts_name : ℕ → Bool
starts_name c = is_xid_start c || c == 95

-- beside the characters of an identifier: # % ? ' \ and the section sign
abbrev pub is_in_name : ℕ → Bool
is_in_name c = is_xid_continue c || (((c == 35 || c == 37) || (c == 63 || c == apostrophe)) || (c == 92 || c == section_sign))

abbrev pub name_len : List ℕ → ℕ
name_len cs = len_if (starts_name (first cs)) (1 + prefix_len is_in_name (drop 1 cs))

-- a name whose whole text is a keyword is that keyword
abbrev pub kind_of_word : Option Word → TokenKind
kind_of_word None = Name
kind_of_word (Some word) = Keyword word

abbrev pub name_kind : List ℕ → TokenKind
name_kind cs = kind_of_word (keyword_of (encode_utf8_all (take (name_len cs) cs)))

-- QUOTED NAMES AND TEXTS

-- no quote of this kind and no end of a line
abbrev pub is_inside : ℕ → ℕ → Bool
is_inside mark c = not (c == mark) && (not (c == line_feed) && not (c == carriage_return))

-- how many characters follow the quote with which the text begins, up to before its end
abbrev pub inside_len : ℕ → List ℕ → ℕ
inside_len mark cs = prefix_len (is_inside mark) (drop 1 cs)

-- the text begins with the quote, and the same quote ends it on its line
abbrev pub is_closed : ℕ → List ℕ → Bool
is_closed mark cs = first cs == mark && slice_index cs (1 + inside_len mark cs) == mark

abbrev pub has_dot : List ℕ → Bool
has_dot [] = false
has_dot (c ∷ cs) = c == dot || has_dot cs

-- between double quotes stands a name: something, and no dot
abbrev pub holds_name : List ℕ → Bool
holds_name cs = let n = inside_len quote cs in nat_lt 0 n && not (has_dot (take n (drop 1 cs)))

abbrev pub quoted_len : List ℕ → ℕ
quoted_len cs = len_if (is_closed quote cs && holds_name cs) (inside_len quote cs + 2)

abbrev pub double_text_len : List ℕ → ℕ
double_text_len cs = len_if (is_closed quote cs && not (holds_name cs)) (inside_len quote cs + 2)

abbrev pub single_text_len : List ℕ → ℕ
single_text_len cs = len_if (is_closed apostrophe cs) (inside_len apostrophe cs + 2)

-- NUMBERS

abbrev pub digits : List ℕ → ℕ
digits cs = prefix_len is_ascii_digit cs

-- a dot and digits
abbrev pub fraction_len : List ℕ → ℕ
fraction_len cs = len_if (first cs == dot && nat_lt 0 (digits (drop 1 cs))) (1 + digits (drop 1 cs))

-- how many signs come next, at most one
abbrev pub sign_len : List ℕ → ℕ
sign_len cs = len_if (first cs == 43 || first cs == 45) 1

-- a sign, or none, and digits
abbrev pub signed_len : List ℕ → ℕ
signed_len cs = let n = digits (drop (sign_len cs) cs) in len_if (nat_lt 0 n) (sign_len cs + n)

-- `e` or `E` and such a number
abbrev pub exponent_len : List ℕ → ℕ
exponent_len cs = len_if ((first cs == 69 || first cs == 101) && nat_lt 0 (signed_len (drop 1 cs))) (1 + signed_len (drop 1 cs))

-- the fraction, if there is one, and the exponent, if there is one
abbrev pub tail_len : List ℕ → ℕ
tail_len cs = fraction_len cs + exponent_len (drop (fraction_len cs) cs)

abbrev pub number_len : List ℕ → ℕ
number_len cs = len_if (nat_lt 0 (digits cs)) (digits cs + tail_len (drop (digits cs) cs))

-- THE LONGEST PIECE

abbrev pub mark_piece : List ℕ → List ℕ × Sign → Piece × ℕ
mark_piece cs row = (Lexeme (Mark row.1), mark_len row.0 cs)

-- what may stand at the start of the text beside marks, each with its length
abbrev pub no_marks : List ℕ → List (Piece × ℕ)
no_marks cs =
    (Blank, blank_len cs) ∷ (LineEnd, line_end_len cs) ∷ (Comment, line_comment_len cs) ∷ (Comment, block_comment_len cs)
    ∷ (Fault OpenComment, open_comment_len cs) ∷ (Lexeme (name_kind cs), name_len cs) ∷ (Lexeme Quoted, quoted_len cs)
    ∷ (Lexeme Text, double_text_len cs) ∷ (Lexeme Text, single_text_len cs) ∷ (Lexeme Number, number_len cs)
    ∷ []

abbrev pub candidates : List ℕ → List (Piece × ℕ)
candidates cs = no_marks cs ++ map (mark_piece cs) marks

-- the longer of two, where a piece of length 0 does not count
abbrev pub longer : Piece × ℕ → Piece × ℕ → Piece × ℕ
longer p q = if nat_lt 0 p.1 && nat_le q.1 p.1 then p else q

-- the longest of these; where none stands there, the one character is a fault
abbrev pub longest : List (Piece × ℕ) → Piece × ℕ
longest [] = (Fault BadToken, 1)
longest (p ∷ ps) = longer p (longest ps)

unfoldable pub first_piece : List ℕ → Piece × ℕ
first_piece cs = longest (candidates cs)

-- THE CUT OF A TEXT

-- a piece, with where it begins and ends
pub record PlacedPiece : Type 0 where
  pub what : Piece
  pub from : Place
  pub upto : Place

abbrev pub first_placed : Place → List ℕ → PlacedPiece
first_placed at cs = let piece = first_piece cs in record { what = piece.0; from = at; upto = along at (take piece.1 cs) }

-- The pieces of a text that begins at a place: the longest one at the start, then those of what follows it.
-- So many characters of the piece before are still to be passed.
unfoldable pub pieces_after : ℕ → Place → List ℕ → List PlacedPiece
pieces_after left at [] = []
pieces_after zero at (c ∷ cs) = first_placed at (c ∷ cs) ∷ pieces_after ((first_piece (c ∷ cs)).1 - 1) (after at c) cs
pieces_after (suc left) at (c ∷ cs) = pieces_after left (after at c) cs

abbrev pub pieces_from : Place → List ℕ → List PlacedPiece
pieces_from at cs = pieces_after 0 at cs
