-- What holds of the lines of a text.
use Rattle.std.proofs.Common.{◌≡◌, ℕ, ◌+◌, ◌*◌, ◌<◌, ◌≤◌, List, [], ◌∷◌, ◌++◌, length, Option, Some, None, Ok, Err, refl, sym, ◌∙◌, ap, inl, inr, length-append, arith}
use Rattle.std.specs.List.{All}
use Rattle.std.specs.Prelude.{IfOk}
use Rattle.std.specs.Str.{chars, is_utf8}
use Rattle.std.proofs.lemmas.Bool.{cases_Bool}
use Rattle.std.proofs.lemmas.List.Elements.{All-nil, All-cons, All-head, All-tail}
use Rattle.std.proofs.lemmas.Result.{IfOk-at_ok}
use Rattle.uvl_lex.specs.declared.bracket.Bracket.{Bracket}
use Rattle.uvl_lex.specs.declared.piece.Piece.{Piece}
use Rattle.uvl_lex.specs.declared.piece.Piece.TheVariants.{Blank, LineEnd, Comment, Lexeme, Fault}
use Rattle.uvl_lex.specs.declared.place.Place.{Place}
use Rattle.uvl_lex.specs.declared.token.Line.{Line}
use Rattle.uvl_lex.specs.declared.token.Token.{Token}
use Rattle.uvl_lex.specs.declared.token.TokenKind.{TokenKind}
use Rattle.uvl_lex.specs.declared.token.TokenKind.TheVariants.{Name, Quoted, Text, Number, Keyword, Mark}
use Rattle.uvl_lex.specs.Laws.{least_len, least_piece, Cover, tokens_if, tokens_among, all_tokens, Ascend, brackets_along, IsLine, AreLines}
use Rattle.lists.proofs.Appends.{All-append_left, All-append_right}
use Rattle.uvl_lex.specs.Places.{beginning}
use Rattle.uvl_lex.specs.Pieces.{PlacedPiece}
use Rattle.uvl_lex.specs.Reading.{OrFault, Run, reading, lines_of, pieces_of, run_of, on_ok, at_token, token_at, token_before, line_end_before, all_lines, tokens_of, brackets_after}
use Rattle.uvl_lex.specs.Text.{IsSpanOf, quotes}
use Rattle.uvl_lex.proofs.CoverLemmas.{pieces_cover}

-- what holds of each line, whatever the bytes
record IsClosedLine (line : Line) : Type 0 where
  some : 0 < length line.tokens
  balanced : brackets_along line.tokens [] ≡ Some []

-- RUNS

abbrev HasTokens : Option Line → Type 0
HasTokens None = Unit {0}
HasTokens (Some line) = 0 < length line.tokens

-- what holds of the run that pieces make where these brackets are open
record IsRunOf (brackets : List Bracket) (ps : List PlacedPiece) (run : Run) : Type 0 where
  tokens : tokens_of run.0 ++ all_tokens run.1 ≡ tokens_among ps
  some : HasTokens run.0
  balanced : brackets_along (tokens_of run.0) brackets ≡ Some []
  below : All IsClosedLine run.1

if_on_ok : {A B : Type 0} (f : A → B) (P : A → Type 0) (Q : B → Type 0) (a : OrFault A) → ((x : A) → P x → Q (f x)) → IfOk a P → IfOk (on_ok f a) Q
if_on_ok f P Q (Ok x) h p = h x p
if_on_ok f P Q (Err e) h p = tt

if_ok : {A : Type 0} (P Q : A → Type 0) (a : OrFault A) → ((x : A) → P x → Q x) → IfOk a P → IfOk a Q
if_ok P Q (Ok x) h p = h x p
if_ok P Q (Err e) h p = tt

tokens_of_lines : (run : Run) → all_tokens (all_lines run) ≡ tokens_of run.0 ++ all_tokens run.1
tokens_of_lines (None, below) = refl
tokens_of_lines (Some line, below) = refl

lines_of_run : (run : Run) → HasTokens run.0 → brackets_along (tokens_of run.0) [] ≡ Some [] → All IsClosedLine run.1 → All IsClosedLine (all_lines run)
lines_of_run (None, below) s b all = all
lines_of_run (Some line, below) s b all = All-cons IsClosedLine line below (record { some = s; balanced = b }) all

-- one piece, where the law holds of what follows it
abbrev Held : List PlacedPiece → Type 0
Held ps = (brackets : List Bracket) → IfOk (run_of brackets ps) (IsRunOf brackets ps)

token_held : (p : PlacedPiece) (token : Token) (brackets : List Bracket) (now : Option (List Bracket)) (ps : List PlacedPiece) → brackets_after token brackets ≡ now
    → tokens_if p.what p (tokens_among ps) ≡ token ∷ tokens_among ps → Held ps
    → IfOk (at_token p token now (λ open_now. run_of open_now ps)) (IsRunOf brackets (p ∷ ps))
token_held p token brackets None ps e k held = tt
token_held p token brackets (Some now) ps e k held =
    if_on_ok (token_before p token) (IsRunOf now ps) (IsRunOf brackets (p ∷ ps)) (run_of now ps)
    (λ run r. record {
      tokens = ap (λ (ts : List Token). token ∷ ts) r.tokens ∙ sym k;
      some = omega arith;
      balanced = rw e r.balanced;
      below = r.below;
    }) (held now)

-- a piece that is neither a token nor a line end outside all brackets
quiet_held : (brackets : List Bracket) (p : PlacedPiece) (ps : List PlacedPiece) → tokens_if p.what p (tokens_among ps) ≡ tokens_among ps
    → (run : Run) → IsRunOf brackets ps run → IsRunOf brackets (p ∷ ps) run
quiet_held brackets p ps e run r = record { tokens = r.tokens ∙ sym e; some = r.some; balanced = r.balanced; below = r.below }

end_held : (p : PlacedPiece) (ps : List PlacedPiece) → tokens_if p.what p (tokens_among ps) ≡ tokens_among ps
    → (run : Run) → IsRunOf [] ps run → IsRunOf [] (p ∷ ps) (line_end_before run)
end_held p ps e run r = record {
  tokens = tokens_of_lines run ∙ (r.tokens ∙ sym e);
  some = tt;
  balanced = refl;
  below = lines_of_run run r.some r.balanced r.below;
}

piece_held : (what : Piece) (from upto : Place) (ps : List PlacedPiece) → Held ps → Held (record { what = what; from = from; upto = upto } ∷ ps)
unfolding run_of
piece_held Blank from upto ps held brackets =
    let p : PlacedPiece = record { what = Blank; from = from; upto = upto } in
    if_ok (IsRunOf brackets ps) (IsRunOf brackets (p ∷ ps)) (run_of brackets ps) (quiet_held brackets p ps refl) (held brackets)
piece_held Comment from upto ps held brackets =
    let p : PlacedPiece = record { what = Comment; from = from; upto = upto } in
    if_ok (IsRunOf brackets ps) (IsRunOf brackets (p ∷ ps)) (run_of brackets ps) (quiet_held brackets p ps refl) (held brackets)
piece_held (Fault reason) from upto ps held brackets = tt
piece_held LineEnd from upto ps held [] =
    let p : PlacedPiece = record { what = LineEnd; from = from; upto = upto } in
    if_on_ok line_end_before (IsRunOf [] ps) (IsRunOf [] (p ∷ ps)) (run_of [] ps) (end_held p ps refl) (held [])
piece_held LineEnd from upto ps held (b ∷ bs) =
    let p : PlacedPiece = record { what = LineEnd; from = from; upto = upto } in
    if_ok (IsRunOf (b ∷ bs) ps) (IsRunOf (b ∷ bs) (p ∷ ps)) (run_of (b ∷ bs) ps) (quiet_held (b ∷ bs) p ps refl) (held (b ∷ bs))
piece_held (Lexeme kind) from upto ps held brackets =
    let p : PlacedPiece = record { what = Lexeme kind; from = from; upto = upto } in
    token_held p (token_at kind p) brackets (brackets_after (token_at kind p) brackets) ps refl refl held

runs_held : (ps : List PlacedPiece) → Held ps
unfolding run_of
runs_held [] [] = record { tokens = refl; some = tt; balanced = refl; below = All-nil IsClosedLine }
runs_held [] (b ∷ bs) = tt
runs_held (p ∷ ps) brackets = piece_held p.what p.from p.upto ps (runs_held ps) brackets

-- SPANS

ascend_if : (what : Piece) (p : PlacedPiece) (ts : List Token) (from upto : ℕ) → from ≤ p.from.offset → p.from.offset + least_piece what ≤ p.upto.offset
    → ((f : ℕ) → f ≤ p.upto.offset → Ascend f ts upto) → Ascend from (tokens_if what p ts) upto
ascend_if Blank p ts from upto a h rest = rest from (omega arith)
ascend_if LineEnd p ts from upto a h rest = rest from (omega arith)
ascend_if Comment p ts from upto a h rest = rest from (omega arith)
ascend_if (Fault reason) p ts from upto a h rest = rest from (omega arith)
ascend_if (Lexeme kind) p ts from upto a h rest = (a, h, rest p.upto.offset (omega arith))

ascend_among : (ps : List PlacedPiece) (from at upto : ℕ) → from ≤ at → Cover at ps upto → Ascend from (tokens_among ps) upto
ascend_among [] from at upto h c = omega arith
ascend_among (p ∷ ps) from at upto h c =
    let begins : p.from.offset ≡ at = c.0 in
    ascend_if p.what p (tokens_among ps) from upto (omega arith) c.1 (λ f k. ascend_among ps f p.upto.offset upto k c.2)

ascend_end : (ts : List Token) (from upto : ℕ) → Ascend from ts upto → from ≤ upto
ascend_end [] from upto a = a
ascend_end (t ∷ ts) from upto a = let first = a.0 in let next = a.1 in omega (arith, ascend_end ts t.end upto a.2)

two_quotes : (kind : TokenKind) → 2 * quotes kind ≤ least_len kind
two_quotes Name = omega arith
two_quotes Quoted = omega arith
two_quotes Text = omega arith
two_quotes Number = omega arith
two_quotes (Keyword word) = omega arith
two_quotes (Mark mark) = omega arith

spans_within : (ts : List Token) (from : ℕ) (bytes : List ℕ) → Ascend from ts (length bytes) → All (IsSpanOf bytes) ts
spans_within [] from bytes a = All-nil (IsSpanOf bytes)
spans_within (t ∷ ts) from bytes a =
    let room = a.1 in
    All-cons (IsSpanOf bytes) t ts
    (record { quoted = omega (arith, two_quotes t.kind); inside = ascend_end ts t.end (length bytes) a.2 })
    (spans_within ts t.end bytes a.2)

least_some : (kind : TokenKind) → 1 ≤ least_len kind
least_some Name = omega arith
least_some Quoted = omega arith
least_some Text = omega arith
least_some Number = omega arith
least_some (Keyword word) = omega arith
least_some (Mark mark) = omega arith

-- each token takes a byte
count_within : (ts : List Token) (from upto : ℕ) → Ascend from ts upto → from + length ts ≤ upto
count_within [] from upto a = omega arith
count_within (t ∷ ts) from upto a =
    let first = a.0 in
    let next = a.1 in
    omega (arith, least_some t.kind, count_within ts t.end upto a.2)

-- THE LINES

-- the lines with their tokens, of which each lies in the bytes
lines_within : (bytes : List ℕ) (lines : List Line) → All IsClosedLine lines → All (IsSpanOf bytes) (all_tokens lines)
    → length (all_tokens lines) ≤ length bytes → All (IsLine bytes) lines
lines_within bytes [] all spans few = All-nil (IsLine bytes)
lines_within bytes (line ∷ below) all spans few =
    let here : IsClosedLine line = All-head IsClosedLine line below all in
    let size = length-append line.tokens (all_tokens below) in
    All-cons (IsLine bytes) line below
    (record {
      some = here.some;
      balanced = here.balanced;
      spans = All-append_left (IsSpanOf bytes) line.tokens (all_tokens below) spans;
      few = omega arith;
    })
    (lines_within bytes below (All-tail IsClosedLine line below all) (All-append_right (IsSpanOf bytes) line.tokens (all_tokens below) spans) (omega arith))

lines_held : (cs : List ℕ) → IfOk (lines_of cs) (λ lines. All IsClosedLine lines × (all_tokens lines ≡ tokens_among (pieces_of cs)))
lines_held cs =
    if_on_ok all_lines (IsRunOf [] (pieces_of cs)) _ (run_of [] (pieces_of cs))
    (λ run r. (lines_of_run run r.some r.balanced r.below, tokens_of_lines run ∙ r.tokens)) (runs_held (pieces_of cs) [])

pub readings_are_lines : (bytes : List ℕ) (lines : List Line) → reading bytes ≡ Ok lines → AreLines bytes lines
unfolding reading
readings_are_lines bytes lines e =
    elim (cases_Bool (is_utf8 bytes)) [
      | inl y ↦
          let read : lines_of (chars bytes) ≡ Ok lines = rw y at e in
          let held = IfOk-at_ok (λ (ls : List Line). All IsClosedLine ls × (all_tokens ls ≡ tokens_among (pieces_of (chars bytes)))) read (lines_held (chars bytes)) in
          let ascend : Ascend 0 (all_tokens lines) (length bytes)
          = rw held.1 (ascend_among (pieces_of (chars bytes)) 0 (beginning (chars bytes)).offset (length bytes) (omega arith) (pieces_cover bytes y)) in
          let spans = spans_within (all_tokens lines) 0 bytes ascend in
          let few = count_within (all_tokens lines) 0 (length bytes) ascend in
          record { each = lines_within bytes lines held.0 spans (omega arith); tokens = held.1; ascend = ascend; spans = spans }
      | inr n ↦ let wrong = rw n at e in cc
    ]
