-- The longest piece, by the first character of the text.
use Rattle.std.proofs.Common.{◌≡◌, ◌≢◌, ℕ, ◌<◌, ◌≤◌, ◌==◌, nat_lt, nat_le, Bool, true, false, ◌&&◌, List, [], ◌∷◌, drop, ◌++◌, map, Option, refl, sym, ◌∙◌, ap, subst, inl, inr, arith}
use Rattle.std.specs.Char.{is_ascii_digit}
use Rattle.std.proofs.lemmas.Bool.{cases_Bool, eqb-true, and_parts, leb-true, lt-ltb, le-leb, agree_below_at}
use Rattle.std.proofs.lemmas.Bool.Decides.{nat_tests}
use Rattle.unicode_ident.proofs.Computing.{unicode_ident}
use Rattle.uvl_lex.specs.declared.cursor.Cursor.{Cursor}
use Rattle.uvl_lex.specs.declared.error.LexReason.TheVariants.{BadToken, OpenComment}
use Rattle.uvl_lex.specs.declared.piece.Piece.{Piece}
use Rattle.uvl_lex.specs.declared.piece.Piece.TheVariants.{Blank, LineEnd, Comment, Lexeme, Fault}
use Rattle.uvl_lex.specs.declared.token.Mark.{Mark as Sign}
use Rattle.uvl_lex.specs.declared.token.Mark.TheVariants.{Slash}
use Rattle.uvl_lex.specs.declared.token.TokenKind.TheVariants.{Quoted, Text, Number, Mark}
use Rattle.uvl_lex.specs.inside.Classes.{mark_of, BeginsNoOther}
use Rattle.uvl_lex.specs.inside.Cursors.{left, GoesOn, IsPieceAt}
use Rattle.uvl_lex.specs.Places.{line_feed}
use Rattle.uvl_lex.specs.Pieces.{longest, no_marks, mark_piece, first, is_blank, starts_name, quote, apostrophe, longer, first_piece, name_kind, name_len, number_len, quoted_len, double_text_len, single_text_len, line_comment_len, block_comment_len, open_comment_len, digits}
use Rattle.uvl_lex.specs.Words.{marks}
use Rattle.uvl_lex.proofs.MarkLemmas.{apart, mark_result, marks_first, no_mark, digits_no_mark, names_no_mark}

-- the piece and its length, and a cursor that has gone on so far
pub piece_is : (k now : Cursor) (what : Piece) (m n : ℕ) → first_piece (left k) ≡ (what, n) → m ≡ n → GoesOn k m now → IsPieceAt k what now
piece_is k now what m n e h g = record { piece = rw e refl; goes_on = rw e (subst (λ (x : ℕ). GoesOn k x now) h g) }

-- a text that begins with some character
pub begins_with : (xs : List ℕ) → 0 < first xs → xs ≡ first xs ∷ drop 1 xs
begins_with [] h = absurd (omega arith)
begins_with (x ∷ xs) h = refl

pub not_empty : (xs : List ℕ) → xs ≢ [] → xs ≡ first xs ∷ drop 1 xs
not_empty [] h = absurd (h refl)
not_empty (x ∷ xs) h = refl

pub longer_some : (p : Piece × ℕ) → 0 < p.1 → longer p (Fault BadToken, 1) ≡ p
longer_some p h = let a : nat_lt 0 p.1 ≡ true = grind (arith, nat_tests) in rw a refl

pub longer_over : (p q : Piece × ℕ) → 0 < p.1 → q.1 ≤ p.1 → longer p q ≡ p
longer_over p q h l =
    let a : nat_lt 0 p.1 ≡ true = lt-ltb 0 p.1 h in
    let b : nat_le q.1 p.1 ≡ true = le-leb q.1 p.1 l in
    rw (a, b) refl

-- BLANKS AND LINE ENDS

at_space : (cs : List ℕ) → first_piece (32 ∷ cs) ≡ (Blank, 1)
unfolding first_piece unicode_ident
at_space cs = refl

at_tab : (cs : List ℕ) → first_piece (9 ∷ cs) ≡ (Blank, 1)
unfolding first_piece unicode_ident
at_tab cs = refl

at_return : (cs : List ℕ) → first_piece (13 ∷ cs) ≡ (Blank, 1)
unfolding first_piece unicode_ident
at_return cs = refl

pub at_blank : (c : ℕ) (cs : List ℕ) → is_blank c ≡ true → first_piece (c ∷ cs) ≡ (Blank, 1)
at_blank c cs h =
    elim (cases_Bool (c == 32)) [
      | inl y ↦ rw (eqb-true c 32 y) (at_space cs)
      | inr n ↦ elim (cases_Bool (c == 9)) [
        | inl y ↦ rw (eqb-true c 9 y) (at_tab cs)
        | inr m ↦ let e : (c == 13) ≡ true = rw (n, m) at h in rw (eqb-true c 13 e) (at_return cs)
      ]
    ]

pub at_line_end : (cs : List ℕ) → first_piece (10 ∷ cs) ≡ (LineEnd, 1)
unfolding first_piece unicode_ident
at_line_end cs = refl

-- THE OTHERS, AS CHOICES

pub at_quote : (cs : List ℕ) → first_piece (34 ∷ cs) ≡ longer (Lexeme Quoted, quoted_len (34 ∷ cs)) (longer (Lexeme Text, double_text_len (34 ∷ cs)) (Fault BadToken, 1))
unfolding first_piece unicode_ident
at_quote cs = refl

pub at_apostrophe : (cs : List ℕ) → first_piece (39 ∷ cs) ≡ longer (Lexeme Text, single_text_len (39 ∷ cs)) (Fault BadToken, 1)
unfolding first_piece unicode_ident
at_apostrophe cs = refl

pub at_slash : (cs : List ℕ) → first_piece (47 ∷ cs) ≡ longer (Comment, line_comment_len (47 ∷ cs)) (longer (Comment, block_comment_len (47 ∷ cs)) (longer (Fault OpenComment, open_comment_len (47 ∷ cs)) (Lexeme (Mark Slash), 1)))
unfolding first_piece unicode_ident
at_slash cs = refl

-- the character begins no blank, comment or text
record Plain (c : ℕ) : Type 0 where
  blank : is_blank c ≡ false
  line_end : (c == line_feed) ≡ false
  slash : (c == 47) ≡ false
  quotes : (c == quote) ≡ false
  single : (c == apostrophe) ≡ false

plain_before : (c : ℕ) (cs : List ℕ) (ps : List (Piece × ℕ)) → Plain c
    → longest (no_marks (c ∷ cs) ++ ps) ≡ longer (Lexeme (name_kind (c ∷ cs)), name_len (c ∷ cs)) (longer (Lexeme Number, number_len (c ∷ cs)) (longest ps))
plain_before c cs ps p = rw (p.blank, p.line_end, p.slash, p.quotes, p.single) refl

at_plain : (c : ℕ) (cs : List ℕ) → Plain c
    → first_piece (c ∷ cs) ≡ longer (Lexeme (name_kind (c ∷ cs)), name_len (c ∷ cs)) (longer (Lexeme Number, number_len (c ∷ cs)) (mark_result (mark_of c (first cs) (first (drop 1 cs)))))
unfolding first_piece
at_plain c cs p =
    plain_before c cs (map (mark_piece (c ∷ cs)) marks) p
    ∙ ap (λ (q : Piece × ℕ). longer (Lexeme (name_kind (c ∷ cs)), name_len (c ∷ cs)) (longer (Lexeme Number, number_len (c ∷ cs)) q)) (marks_first c cs)

pub at_other : (c : ℕ) (cs : List ℕ) → BeginsNoOther c → first_piece (c ∷ cs) ≡ mark_result (mark_of c (first cs) (first (drop 1 cs)))
at_other c cs o =
    at_plain c cs (record { blank = o.blank; line_end = o.line_end; slash = o.slash; quotes = o.quotes; single = o.single })
    ∙ rw (o.name, o.digit) refl

-- what passes a test that no blank, line end or quote passes
plain_by : (p : ℕ → Bool) (c : ℕ) → p c ≡ true → p 32 ≡ false → p 9 ≡ false → p 13 ≡ false → p 10 ≡ false → p 47 ≡ false → p 34 ≡ false → p 39 ≡ false → Plain c
plain_by p c h space tab return feed slash double single = record {
  blank = rw (apart p c 32 h space, apart p c 9 h tab, apart p c 13 h return) refl;
  line_end = apart p c 10 h feed;
  slash = apart p c 47 h slash;
  quotes = apart p c 34 h double;
  single = apart p c 39 h single;
}

both : ℕ → Bool
both c = is_ascii_digit c && starts_name c

digit_starts_no_name : (c : ℕ) → is_ascii_digit c ≡ true → starts_name c ≡ false
unfolding both unicode_ident
digit_starts_no_name c h =
    let parts = and_parts (nat_le 48 c) (nat_le c 57) h in
    let most : c ≤ 57 = leb-true c 57 parts.1 in
    let neither : (is_ascii_digit c && starts_name c) ≡ false = agree_below_at both (λ _. false) 58 c refl (omega arith) in
    rw h at neither

name_is_no_digit : (c : ℕ) → starts_name c ≡ true → is_ascii_digit c ≡ false
name_is_no_digit c h = elim (cases_Bool (is_ascii_digit c)) [ inl y ↦ let n = digit_starts_no_name c y in cc | inr n ↦ n ]

number_some : (xs : List ℕ) → 0 < digits xs → 0 < number_len xs
number_some xs h = let a : nat_lt 0 (digits xs) ≡ true = lt-ltb 0 (digits xs) h in rw a (omega arith)

pub at_digit : (c : ℕ) (cs : List ℕ) → is_ascii_digit c ≡ true → first_piece (c ∷ cs) ≡ (Lexeme Number, number_len (c ∷ cs))
at_digit c cs h =
    at_plain c cs (plain_by is_ascii_digit c h refl refl refl refl refl refl refl)
    ∙ (rw (no_mark is_ascii_digit c (first cs) (first (drop 1 cs)) digits_no_mark h, digit_starts_no_name c h)
    (longer_some (Lexeme Number, number_len (c ∷ cs)) (number_some (c ∷ cs) (rw h (omega arith)))))

pub at_name : (c : ℕ) (cs : List ℕ) → starts_name c ≡ true → first_piece (c ∷ cs) ≡ (Lexeme (name_kind (c ∷ cs)), name_len (c ∷ cs))
unfolding unicode_ident
at_name c cs h =
    at_plain c cs (plain_by starts_name c h refl refl refl refl refl refl refl)
    ∙ (rw (no_mark starts_name c (first cs) (first (drop 1 cs)) names_no_mark h, name_is_no_digit c h)
    (longer_some (Lexeme (name_kind (c ∷ cs)), name_len (c ∷ cs)) (rw h (omega arith))))

-- A MARK, BY CURSORS

at_other_first : (xs : List ℕ) (c : ℕ) → xs ≢ [] → first xs ≡ c → BeginsNoOther c
    → first_piece xs ≡ mark_result (mark_of c (first (drop 1 xs)) (first (drop 1 (drop 1 xs))))
at_other_first [] c n e o = absurd (n refl)
at_other_first (x ∷ xs) c n e o =
    subst (λ (k : ℕ). first_piece (x ∷ xs) ≡ mark_result (mark_of k (first xs) (first (drop 1 xs)))) e (at_other x xs (subst BeginsNoOther (sym e) o))

pub mark_is : (k one two : Cursor) (c a b : ℕ) (r : Option (Sign × ℕ)) → GoesOn k 1 one → GoesOn one 1 two → left k ≢ [] → first (left k) ≡ c
    → BeginsNoOther c → a ≡ first (left one) → b ≡ first (left two) → r ≡ mark_of c a b → first_piece (left k) ≡ mark_result r
mark_is k one two c a b r g h n e o x y m =
    at_other_first (left k) c n e o ∙ rw (m, x, y, h.rest, g.rest) refl
