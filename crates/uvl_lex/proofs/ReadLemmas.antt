-- How a reader goes on over a piece.
use Rattle.std.proofs.Common.{◌≡◌, ◌⊎◌, inl, inr, List, [], ◌∷◌, Option, Some, None, Ok, Err, refl, sym, ap, append_assoc, append-nil}
use Rattle.uvl_lex.specs.declared.bracket.Bracket.{Bracket}
use Rattle.uvl_lex.specs.declared.error.LexError.TheVariants.{Refused}
use Rattle.uvl_lex.specs.declared.error.LexReason.{LexReason}
use Rattle.uvl_lex.specs.declared.error.LexReason.TheVariants.{BadToken, OpenBracket}
use Rattle.uvl_lex.specs.declared.piece.Piece.{Piece}
use Rattle.uvl_lex.specs.declared.piece.Piece.TheVariants.{Blank, LineEnd, Comment, Lexeme, Fault}
use Rattle.uvl_lex.specs.declared.place.Place.{Place}
use Rattle.uvl_lex.specs.declared.reader.Reader.{Reader}
use Rattle.uvl_lex.specs.declared.token.Line.{Line}
use Rattle.uvl_lex.specs.declared.token.Token.{Token}
use Rattle.uvl_lex.specs.declared.token.TokenKind.{TokenKind}
use Rattle.uvl_lex.specs.Pieces.{PlacedPiece}
use Rattle.uvl_lex.specs.inside.Progress.{lines_after, current, ended, grown, lines_with}
use Rattle.uvl_lex.specs.Reading.{OrFault, Run, run_of, at_line_end, on_ok, token_before, line_end_before, all_lines, tokens_of, brackets_after}

-- BLANKS AND COMMENTS

pub past_blank : (r : Reader) (from upto : Place) (ps : List PlacedPiece) → lines_after r (record { what = Blank; from = from; upto = upto } ∷ ps) ≡ lines_after r ps
unfolding run_of
past_blank r from upto ps = refl

pub past_comment : (r : Reader) (from upto : Place) (ps : List PlacedPiece) → lines_after r (record { what = Comment; from = from; upto = upto } ∷ ps) ≡ lines_after r ps
unfolding run_of
past_comment r from upto ps = refl

pub at_fault : (r : Reader) (from upto : Place) (reason : LexReason) (ps : List PlacedPiece)
    → lines_after r (record { what = Fault reason; from = from; upto = upto } ∷ ps) ≡ Err (Refused from.line reason)
unfolding run_of
at_fault r from upto reason ps = refl

pub past_quiet : (r : Reader) (what : Piece) (from upto : Place) (ps : List PlacedPiece) → (what ≡ Blank) ⊎ (what ≡ Comment)
    → lines_after r (record { what = what; from = from; upto = upto } ∷ ps) ≡ lines_after r ps
past_quiet r what from upto ps (inl e) = rw e (past_blank r from upto ps)
past_quiet r what from upto ps (inr e) = rw e (past_comment r from upto ps)

-- LINE ENDS

inner_end : (brackets : List Bracket) (a : OrFault Run) → (brackets ≡ [] → ⊥) → at_line_end brackets a ≡ a
inner_end [] a n = absurd (n refl)
inner_end (b ∷ bs) a n = refl

-- a line end inside brackets
pub past_inner_end : (r : Reader) (from upto : Place) (ps : List PlacedPiece) → (r.open_brackets ≡ [] → ⊥)
    → lines_after r (record { what = LineEnd; from = from; upto = upto } ∷ ps) ≡ lines_after r ps
unfolding run_of
past_inner_end r from upto ps n = ap (on_ok (lines_with r.lines (current r))) (inner_end r.open_brackets (run_of r.open_brackets ps) n)

lines_end : (done : List Line) (begun : Option Line) (run : Run) → lines_with done begun (line_end_before run) ≡ lines_with (ended done begun) None run
lines_end done None run = refl
lines_end done (Some line) run =
    rw (append-nil line.tokens) (sym (append_assoc done (line ∷ []) (all_lines run)))

answers_end : (done : List Line) (begun : Option Line) (a : OrFault Run)
    → on_ok (lines_with done begun) (on_ok line_end_before a) ≡ on_ok (lines_with (ended done begun) None) a
answers_end done begun (Ok run) = ap Ok (lines_end done begun run)
answers_end done begun (Err e) = refl

pub past_line_end : (r s : Reader) (from upto : Place) (ps : List PlacedPiece) → r.open_brackets ≡ [] → s.lines ≡ ended r.lines (current r) → current s ≡ None
    → s.open_brackets ≡ r.open_brackets → lines_after r (record { what = LineEnd; from = from; upto = upto } ∷ ps) ≡ lines_after s ps
unfolding run_of
past_line_end r s from upto ps e lines none brackets =
    rw (lines, none, brackets, e) (answers_end r.lines (current r) (run_of [] ps))

-- TOKENS

lines_grow : (done : List Line) (begun : Option Line) (p : PlacedPiece) (token : Token) (run : Run) → token.line ≡ p.from.line
    → lines_with done begun (token_before p token run) ≡ lines_with done (Some (grown begun token p.from.column)) run
lines_grow done None p token run e = rw e refl
lines_grow done (Some line) p token run e = rw (append_assoc line.tokens (token ∷ []) (tokens_of run.0)) refl

answers_grow : (done : List Line) (begun : Option Line) (p : PlacedPiece) (token : Token) (a : OrFault Run) → token.line ≡ p.from.line
    → on_ok (lines_with done begun) (on_ok (token_before p token) a) ≡ on_ok (lines_with done (Some (grown begun token p.from.column))) a
answers_grow done begun p token (Ok run) e = ap Ok (lines_grow done begun p token run e)
answers_grow done begun p token (Err x) e = refl

pub past_token : (r s : Reader) (kind : TokenKind) (from upto : Place) (ps : List PlacedPiece)
    → brackets_after (record { kind = kind; start = from.offset; end = upto.offset; line = from.line }) r.open_brackets ≡ Some s.open_brackets
    → s.lines ≡ r.lines → current s ≡ Some (grown (current r) (record { kind = kind; start = from.offset; end = upto.offset; line = from.line }) from.column)
    → lines_after r (record { what = Lexeme kind; from = from; upto = upto } ∷ ps) ≡ lines_after s ps
unfolding run_of
past_token r s kind from upto ps e lines line =
    rw (e, lines, line)
    (answers_grow r.lines (current r) (record { what = Lexeme kind; from = from; upto = upto })
    (record { kind = kind; start = from.offset; end = upto.offset; line = from.line }) (run_of s.open_brackets ps) refl)

pub at_misfit : (r : Reader) (kind : TokenKind) (from upto : Place) (ps : List PlacedPiece)
    → brackets_after (record { kind = kind; start = from.offset; end = upto.offset; line = from.line }) r.open_brackets ≡ None
    → lines_after r (record { what = Lexeme kind; from = from; upto = upto } ∷ ps) ≡ Err (Refused from.line BadToken)
unfolding run_of
at_misfit r kind from upto ps e = rw e refl

-- THE END

pub at_open_end : (r : Reader) (b : Bracket) (bs : List Bracket) → r.open_brackets ≡ b ∷ bs → lines_after r [] ≡ Err (Refused b.line OpenBracket)
unfolding run_of
at_open_end r b bs e = rw e refl

last : (done : List Line) (begun : Option Line) → on_ok (lines_with done begun) (Ok (None, [])) ≡ Ok (ended done begun)
last done None = ap Ok (append-nil done)
last done (Some line) = rw (append-nil line.tokens) refl

pub at_closed_end : (r : Reader) → r.open_brackets ≡ [] → lines_after r [] ≡ Ok (ended r.lines (current r))
unfolding run_of
at_closed_end r e = rw e (last r.lines (current r))
