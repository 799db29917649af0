-- The numbers of the lines of a text rise.
use Rattle.std.proofs.Common.{◌≡◌, ℕ, zero, suc, ◌+◌, ◌-◌, ◌<◌, ◌≤◌, ◌==◌, ◌&&◌, nat_le, nat_lt, Bool, true, false, List, [], ◌∷◌, map, All, Option, Some, None, Ok, Err, refl, subst, arith, inl, inr}
use Rattle.std.proofs.lemmas.Bool.{cases_Bool}
use Rattle.std.proofs.lemmas.List.Elements.{All-nil, All-cons, All-weaker}
use Rattle.std.proofs.lemmas.List.Kept.{AllPairs-cons}
use Rattle.std.specs.List.{AllPairs}
use Rattle.std.specs.Str.{is_utf8, chars}
use Rattle.uvl_lex.specs.declared.bracket.Bracket.{Bracket}
use Rattle.uvl_lex.specs.declared.piece.Piece.{Piece}
use Rattle.uvl_lex.specs.declared.piece.Piece.TheVariants.{Blank, LineEnd, Comment, Lexeme, Fault}
use Rattle.uvl_lex.specs.declared.place.Place.{Place}
use Rattle.uvl_lex.specs.declared.token.Line.{Line}
use Rattle.uvl_lex.specs.declared.token.Token.{Token}
use Rattle.uvl_lex.specs.Places.{after, beginning, unmarked}
use Rattle.uvl_lex.specs.Pieces.{PlacedPiece, first_piece, longest, candidates, no_marks, mark_piece, pieces_after}
use Rattle.uvl_lex.specs.declared.token.Mark.{Mark as Sign}
use Rattle.uvl_lex.specs.Words.{marks}
use Rattle.uvl_lex.specs.Reading.{OrFault, Run, run_of, on_ok, all_lines, at_token, token_at, token_before, line_end_before, brackets_after, lines_of, pieces_of, reading}
use Rattle.uvl_reader.specs.Laws.{NumbersRise, LineNumbersRise, JudgedNumbersRise}
use Rattle.uvl_reader.specs.Nesting.{judged_lines, begins_with_include}
use Rattle.uvl_reader.proofs.PlacedLaws.{Each, each_append, AllLess, Falling, less_weaker}
use Rattle.uvl_reader.proofs.MainLaws.{turned}

-- each number is this or a higher one, and higher than that of the line before
abbrev pub Climbs : ℕ → List Line → Type 0
Climbs least [] = Unit {0}
Climbs least (line ∷ lines) = (least ≤ line.number) × Climbs (line.number + 1) lines

climbs_weaker : (low high : ℕ) (lines : List Line) → low ≤ high → Climbs high lines → Climbs low lines
climbs_weaker low high [] l h = tt
climbs_weaker low high (line ∷ lines) l h = (let k = h.0 in omega arith, h.1)

-- ---- pieces

is_end : Piece → Bool
is_end LineEnd = true
is_end _ = false

abbrev line_after : Piece → ℕ → ℕ
line_after LineEnd line = line + 1
line_after Blank line = line
line_after Comment line = line
line_after (Lexeme kind) line = line
line_after (Fault reason) line = line

abbrev NoEnd : Piece × ℕ → Type 0
NoEnd piece = is_end piece.0 ≡ true → piece.1 ≡ 0

longest_no_end : (pieces : List (Piece × ℕ)) → Each NoEnd pieces → is_end (longest pieces).0 ≡ false
unfolding is_end
longest_no_end [] h = refl
longest_no_end (piece ∷ pieces) h =
    let rest = longest_no_end pieces h.1 in
    elim (cases_Bool (nat_lt 0 piece.1 && nat_le (longest pieces).1 piece.1)) [
      | inl y ↦ rw y (elim (cases_Bool (is_end piece.0)) [
        | inl end ↦
            let none : piece.1 ≡ 0 = h.0 end in
            let over : (nat_lt 0 0 && nat_le (longest pieces).1 0) ≡ true = subst (λ n. (nat_lt 0 n && nat_le (longest pieces).1 n) ≡ true) none y in
            absurd (cc)
        | inr other ↦ other
      ])
      | inr n ↦ rw n rest
    ]

marks_no_end : (cs : List ℕ) (rows : List (List ℕ × Sign)) → Each NoEnd (map (mark_piece cs) rows)
unfolding is_end
marks_no_end cs [] = tt
marks_no_end cs (row ∷ rows) = ((λ e. absurd (cc)), marks_no_end cs rows)

wrong : {A : Type 0} → false ≡ true → A
wrong e = absurd (cc)

no_end : (c : ℕ) (cs : List ℕ) → (c == 10) ≡ false → is_end (first_piece (c ∷ cs)).0 ≡ false
unfolding first_piece is_end
no_end c cs n =
    longest_no_end (candidates (c ∷ cs))
    (each_append NoEnd (no_marks (c ∷ cs)) (map (mark_piece (c ∷ cs)) marks)
    (wrong, ((λ e. rw n refl), (wrong, (wrong, (wrong, (wrong, (wrong, (wrong, (wrong, (wrong, tt))))))))))
    (marks_no_end (c ∷ cs) marks))

line_more : (piece : Piece) (line : ℕ) → line_after piece line ≤ line + 1
line_more Blank line = omega arith
line_more LineEnd line = omega arith
line_more Comment line = omega arith
line_more (Lexeme kind) line = omega arith
line_more (Fault reason) line = omega arith

line_same : (piece : Piece) (line : ℕ) → is_end piece ≡ false → line_after piece line ≡ line
unfolding is_end
line_same Blank line e = refl
line_same LineEnd line e = absurd (cc)
line_same Comment line e = refl
line_same (Lexeme kind) line e = refl
line_same (Fault reason) line e = refl

line_passed : (at : Place) (c : ℕ) (cs : List ℕ) → line_after (first_piece (c ∷ cs)).0 at.line ≤ (after at c).line
line_passed at c cs =
    elim (cases_Bool (c == 10)) [
      | inl y ↦ rw y (line_more (first_piece (c ∷ cs)).0 at.line)
      | inr n ↦ let same = line_same (first_piece (c ∷ cs)).0 at.line (no_end c cs n) in rw n (omega arith)
    ]

line_kept : (at : Place) (c : ℕ) → at.line ≤ (after at c).line
line_kept at c = elim (cases_Bool (c == 10)) [ inl y ↦ rw y (omega arith) | inr n ↦ rw n (omega arith) ]

-- the pieces begin on this line or a later one, each no earlier than the one before it
abbrev Onward : ℕ → List PlacedPiece → Type 0
Onward line [] = Unit {0}
Onward line (piece ∷ pieces) = (line ≤ piece.from.line) × Onward (line_after piece.what piece.from.line) pieces

pieces_onward : (cs : List ℕ) (left : ℕ) (at : Place) (line : ℕ) → line ≤ at.line → Onward line (pieces_after left at cs)
unfolding pieces_after
pieces_onward [] left at line l = tt
pieces_onward (c ∷ cs) zero at line l =
    (l, pieces_onward cs ((first_piece (c ∷ cs)).1 - 1) (after at c) (line_after (first_piece (c ∷ cs)).0 at.line) (line_passed at c cs))
pieces_onward (c ∷ cs) (suc left) at line l =
    pieces_onward cs left (after at c) line (let k = line_kept at c in omega arith)

-- ---- runs

abbrev RunFrom : ℕ → Run → Type 0
RunFrom line (None, below) = Climbs (line + 1) below
RunFrom line (Some first, below) = (line ≤ first.number) × Climbs (first.number + 1) below

abbrev OkFrom : ℕ → OrFault Run → Type 0
OkFrom line (Ok run) = RunFrom line run
OkFrom line (Err error) = Unit {0}

run_weaker : (low high : ℕ) (run : Run) → low ≤ high → RunFrom high run → RunFrom low run
run_weaker low high (None, below) l h = climbs_weaker (low + 1) (high + 1) below (omega arith) h
run_weaker low high (Some first, below) l h = (let k = h.0 in omega arith, h.1)

ok_weaker : (low high : ℕ) (read : OrFault Run) → low ≤ high → OkFrom high read → OkFrom low read
ok_weaker low high (Ok run) l h = run_weaker low high run l h
ok_weaker low high (Err error) l h = tt

all_climb : (line : ℕ) (run : Run) → RunFrom line run → Climbs line (all_lines run)
all_climb line (None, below) h = climbs_weaker line (line + 1) below (omega arith) h
all_climb line (Some first, below) h = h

token_from : (piece : PlacedPiece) (token : Token) (run : Run) → RunFrom piece.from.line run → RunFrom piece.from.line (token_before piece token run)
token_from piece token (None, below) h = (omega arith, h)
token_from piece token (Some first, below) h = (omega arith, climbs_weaker (piece.from.line + 1) (first.number + 1) below (let k = h.0 in omega arith) h.1)

token_ok : (piece : PlacedPiece) (token : Token) (read : OrFault Run) → OkFrom piece.from.line read → OkFrom piece.from.line (on_ok (token_before piece token) read)
token_ok piece token (Ok run) h = token_from piece token run h
token_ok piece token (Err error) h = tt

end_ok : (line : ℕ) (read : OrFault Run) → OkFrom (line + 1) read → OkFrom line (on_ok line_end_before read)
end_ok line (Ok run) h = all_climb (line + 1) run h
end_ok line (Err error) h = tt

brackets_ok : (piece : PlacedPiece) (token : Token) (brackets : Option (List Bracket)) (rest : List Bracket → OrFault Run) → ((now : List Bracket) → OkFrom piece.from.line (rest now)) → OkFrom piece.from.line (at_token piece token brackets rest)
brackets_ok piece token None rest h = tt
brackets_ok piece token (Some now) rest h = token_ok piece token (rest now) (h now)

piece_ok : (what : Piece) (from upto : Place) (pieces : List PlacedPiece) → ((brackets : List Bracket) → OkFrom (line_after what from.line) (run_of brackets pieces)) → (brackets : List Bracket) → OkFrom from.line (run_of brackets (record { what = what; from = from; upto = upto } ∷ pieces))
unfolding run_of
piece_ok Blank from upto pieces rest brackets = rest brackets
piece_ok LineEnd from upto pieces rest [] = end_ok from.line (run_of [] pieces) (rest [])
piece_ok LineEnd from upto pieces rest (bracket ∷ outer) = ok_weaker from.line (from.line + 1) (run_of (bracket ∷ outer) pieces) (omega arith) (rest (bracket ∷ outer))
piece_ok Comment from upto pieces rest brackets = rest brackets
piece_ok (Lexeme kind) from upto pieces rest brackets =
    let piece : PlacedPiece = record { what = Lexeme kind; from = from; upto = upto } in
    brackets_ok piece (token_at kind piece) (brackets_after (token_at kind piece) brackets) (λ now. run_of now pieces) rest
piece_ok (Fault reason) from upto pieces rest brackets = tt

run_ok : (pieces : List PlacedPiece) (line : ℕ) → Onward line pieces → (brackets : List Bracket) → OkFrom line (run_of brackets pieces)
unfolding run_of
run_ok [] line h [] = tt
run_ok [] line h (bracket ∷ outer) = tt
run_ok (piece ∷ pieces) line h brackets =
    ok_weaker line piece.from.line (run_of brackets (piece ∷ pieces)) h.0
    (piece_ok piece.what piece.from piece.upto pieces (λ now. run_ok pieces (line_after piece.what piece.from.line) h.1 now) brackets)

read_climbs : (read : OrFault Run) (lines : List Line) → OkFrom 1 read → on_ok all_lines read ≡ Ok lines → Climbs 1 lines
read_climbs (Ok run) lines h e = let same : all_lines run ≡ lines = cc in subst (Climbs 1) same (all_climb 1 run h)
read_climbs (Err error) lines h e = absurd (cc)

-- of each text that has lines
pub reading_climbs : (bytes : List ℕ) (lines : List Line) → reading bytes ≡ Ok lines → Climbs 1 lines
unfolding reading
reading_climbs bytes lines e =
    elim (cases_Bool (is_utf8 bytes)) [
      | inl y ↦
          let read : lines_of (chars bytes) ≡ Ok lines = rw y at e in
          read_climbs (run_of [] (pieces_of (chars bytes))) lines
          (run_ok (pieces_of (chars bytes)) 1 (pieces_onward (unmarked (chars bytes)) 0 (beginning (chars bytes)) 1 (omega arith)) [])
          read
      | inr n ↦ let refused = rw n at e in absurd (cc)
    ]

-- ---- the lines that are judged

judged_climbs : (lines : List Line) (least : ℕ) (under : Bool) → Climbs least lines → Climbs least (judged_lines under lines)
judged_climbs [] least under h = tt
judged_climbs (line ∷ lines) least under h =
    elim (cases_Bool (line.indent == 0)) [
      | inl y ↦ rw y (h.0, judged_climbs lines (line.number + 1) (begins_with_include line.tokens) h.1)
      | inr n ↦ elim (cases_Bool under) [
        | inl u ↦ rw (n, u) (judged_climbs lines least true (climbs_weaker least (line.number + 1) lines (let k = h.0 in omega arith) h.1))
        | inr u ↦ rw (n, u) (h.0, judged_climbs lines (line.number + 1) false h.1)
      ]
    ]

falling_turned : (lines before : List Line) (least : ℕ) → AllLess least before → Falling before → Climbs least lines → Falling (turned lines before)
falling_turned [] before least less f h = f
falling_turned (line ∷ lines) before least less f h =
    falling_turned lines (line ∷ before) (line.number + 1)
    (omega arith, less_weaker least (line.number + 1) before (let k = h.0 in omega arith) less)
    (less_weaker least line.number before h.0 less, f) h.1

pub judged_falling : (bytes : List ℕ) (lines : List Line) → reading bytes ≡ Ok lines → Falling (turned (judged_lines false lines) [])
judged_falling bytes lines e = falling_turned (judged_lines false lines) [] 1 tt tt (judged_climbs lines 1 false (reading_climbs bytes lines e))

-- ---- the numbers rise

climbs_all : (lines : List Line) (least : ℕ) → Climbs least lines → All (λ line. least ≤ line.number) lines
climbs_all [] least h = All-nil (λ line. least ≤ line.number)
climbs_all (line ∷ lines) least h =
    All-cons (λ line. least ≤ line.number) line lines h.0
    (climbs_all lines least (climbs_weaker least (line.number + 1) lines (let k = h.0 in omega arith) h.1))

climbs_pairs : (lines : List Line) (least : ℕ) → Climbs least lines → AllPairs (λ line later. line.number < later.number) lines
climbs_pairs [] least h = λ i j d before within. absurd (omega arith)
climbs_pairs (line ∷ lines) least h =
    AllPairs-cons (λ line later. line.number < later.number) line lines
    (All-weaker (λ later. line.number + 1 ≤ later.number) (λ later. line.number < later.number) (λ later k. omega arith) lines (climbs_all lines (line.number + 1) h.1))
    (climbs_pairs lines (line.number + 1) h.1)

rising : (lines : List Line) → Climbs 1 lines → NumbersRise lines
rising lines h = record { counted = climbs_all lines 1 h; rise = climbs_pairs lines 1 h }

pub line_numbers_rise : LineNumbersRise
line_numbers_rise bytes lines e = rising lines (reading_climbs bytes lines e)

pub judged_numbers_rise : JudgedNumbersRise
judged_numbers_rise bytes lines e = rising (judged_lines false lines) (judged_climbs lines 1 false (reading_climbs bytes lines e))
