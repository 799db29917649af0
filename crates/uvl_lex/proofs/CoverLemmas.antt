-- The pieces of a text make up its bytes.
use Rattle.std.proofs.Common.{◌≡◌, ◌≢◌, ℕ, zero, suc, ◌+◌, ◌<◌, ◌≤◌, ◌==◌, nat_lt, nat_le, Bool, true, false, ◌&&◌, not, List, [], ◌∷◌, map, length, get_or, take, drop, Option, Some, None, refl, sym, ◌∙◌, ap, subst, inl, inr, length-append, arith}
use Rattle.std.specs.Char.{encode_utf8}
use Rattle.std.specs.Str.{chars, is_utf8, encode_utf8_all}
use Rattle.std.proofs.lemmas.Bool.{cases_Bool, cases_lt, and_parts, eqb-true}
use Rattle.std.proofs.lemmas.List.{length-take, length-drop, get_or_past, take-append-drop}
use Rattle.std.proofs.lemmas.Str.{length-encode, length-le-encodes, encodes-append, encodes-chars, IsUtf8-from_is_utf8}
use Rattle.uvl_lex.specs.declared.piece.Piece.{Piece}
use Rattle.uvl_lex.specs.declared.place.Place.{Place}
use Rattle.uvl_lex.specs.declared.token.Keyword.{Keyword as Word}
use Rattle.uvl_lex.specs.declared.token.Mark.{Mark as Sign}
use Rattle.uvl_lex.specs.Laws.{least_len, least_piece, Cover}
use Rattle.uvl_lex.specs.Places.{after, along, unmarked, beginning, byte_order_mark}
use Rattle.uvl_lex.specs.Pieces.{PlacedPiece, len_if, name_len, quote, apostrophe, kind_of_word, holds_name, inside_len, is_closed, mark_piece, longest, candidates, first_piece, pieces_after, pieces_from}
use Rattle.uvl_lex.specs.Reading.{pieces_of}
use Rattle.uvl_lex.specs.Words.{keyword_of, marks}
use Rattle.uvl_lex.proofs.CutLemmas.{first_piece_some, pieces_first}

-- PLACES

pub along_offset : (p : Place) (cs : List ℕ) → (along p cs).offset ≡ p.offset + length (encode_utf8_all cs)
along_offset p [] = omega arith
along_offset p (c ∷ cs) =
    let size : length (encode_utf8_all (c ∷ cs)) ≡ length (encode_utf8 c) + length (encode_utf8_all cs) = length-append (encode_utf8 c) (encode_utf8_all cs) in
    omega (arith, along_offset (after p c) cs, length-encode c)

-- THE ROOM OF A PIECE

-- where the piece stands, the text has at least the characters that the kind needs
abbrev HasRoom : List ℕ → Piece × ℕ → Type 0
HasRoom cs p = 0 < p.1 → least_piece p.0 ≤ length (take p.1 cs)

one_room : (cs : List ℕ) (n : ℕ) → cs ≢ [] → 0 < n → 1 ≤ length (take n cs)
one_room [] n h k = absurd (h refl)
one_room (c ∷ cs) n h k = omega (arith, length-take n (c ∷ cs))

word_room : (word : Option Word) → least_len (kind_of_word word) ≡ 1
word_room None = refl
word_room (Some w) = refl

closed_room : (mark : ℕ) (cs : List ℕ) → 0 < mark → is_closed mark cs ≡ true → 2 ≤ length (take (inside_len mark cs + 2) cs)
closed_room mark cs m h =
    let last : get_or cs (1 + inside_len mark cs) 0 ≡ mark = eqb-true (get_or cs (1 + inside_len mark cs) 0) mark (and_parts (get_or cs 0 0 == mark) (get_or cs (1 + inside_len mark cs) 0 == mark) h).1 in
    let size = length-take (inside_len mark cs + 2) cs in
    elim (cases_lt (1 + inside_len mark cs) (length cs)) [
      | inl within ↦ omega arith
      | inr past ↦ let none = get_or_past cs (1 + inside_len mark cs) 0 past in absurd (omega arith)
    ]

if_room : (mark : ℕ) (cs : List ℕ) (b : Bool) → 0 < mark → (b ≡ true → is_closed mark cs ≡ true) → 0 < len_if b (inside_len mark cs + 2)
    → 2 ≤ length (take (len_if b (inside_len mark cs + 2)) cs)
if_room mark cs true m h k = closed_room mark cs m (h refl)
if_room mark cs false m h k = absurd (omega arith)

abbrev Rooms : List ℕ → List (Piece × ℕ) → Type 0
Rooms cs [] = Unit {0}
Rooms cs (p ∷ ps) = HasRoom cs p × Rooms cs ps

marks_room : (cs : List ℕ) (rows : List (List ℕ × Sign)) → cs ≢ [] → Rooms cs (map (mark_piece cs) rows)
marks_room cs [] h = tt
marks_room cs (row ∷ rows) h = (λ k. one_room cs _ h k, marks_room cs rows h)

rooms : (cs : List ℕ) → cs ≢ [] → Rooms cs (candidates cs)
rooms cs h = (
  λ k. one_room cs _ h k,
  (
    λ k. one_room cs _ h k,
    (
      λ k. one_room cs _ h k,
      (
        λ k. one_room cs _ h k,
        (
          λ k. one_room cs _ h k,
          (
            λ k. rw (word_room (keyword_of (encode_utf8_all (take (name_len cs) cs)))) (one_room cs _ h k),
            (
              λ k. if_room quote cs (is_closed quote cs && holds_name cs) (omega arith) (λ e. (and_parts _ _ e).0) k,
              (
                λ k. if_room quote cs (is_closed quote cs && not (holds_name cs)) (omega arith) (λ e. (and_parts _ _ e).0) k,
                (
                  λ k. if_room apostrophe cs (is_closed apostrophe cs) (omega arith) (λ e. e) k,
                  (λ k. one_room cs _ h k, marks_room cs marks h),
                ),
              ),
            ),
          ),
        ),
      ),
    ),
  ),
)

longest_room : (cs : List ℕ) (ps : List (Piece × ℕ)) → cs ≢ [] → Rooms cs ps → HasRoom cs (longest ps)
longest_room cs [] h r = λ k. one_room cs 1 h k
longest_room cs (p ∷ ps) h r =
    elim (cases_Bool (nat_lt 0 p.1 && nat_le (longest ps).1 p.1)) [
      | inl y ↦ rw y r.0
      | inr n ↦ rw n (longest_room cs ps h r.1)
    ]

piece_room : (cs : List ℕ) → cs ≢ [] → least_piece (first_piece cs).0 ≤ length (take (first_piece cs).1 cs)
unfolding first_piece
piece_room cs h = longest_room cs (candidates cs) h (rooms cs h) (first_piece_some cs)

-- THE COVER

bytes_cut : (cs : List ℕ) (n : ℕ) → length (encode_utf8_all cs) ≡ length (encode_utf8_all (take n cs)) + length (encode_utf8_all (drop n cs))
bytes_cut cs n =
    ap (λ (xs : List ℕ). length (encode_utf8_all xs)) (sym (take-append-drop n cs))
    ∙ (ap length (encodes-append (take n cs) (drop n cs)) ∙ length-append (encode_utf8_all (take n cs)) (encode_utf8_all (drop n cs)))

cover_some : (m : ℕ) (at : Place) (cs : List ℕ) → length cs ≤ m → Cover at.offset (pieces_from at cs) (at.offset + length (encode_utf8_all cs))
unfolding pieces_after
cover_some m at [] h = omega arith
cover_some zero at (c ∷ cs) h = absurd (omega arith)
cover_some (suc m) at (c ∷ cs) h =
    let text = c ∷ cs in
    let some : text ≢ [] = λ e. cc in
    let n = (first_piece text).1 in
    let next = along at (take n text) in
    let room = piece_room text some in
    let moved = along_offset at (take n text) in
    let wide = length-le-encodes (take n text) in
    let positive = first_piece_some text in
    let shorter : length (drop n text) ≤ m = omega (arith, length-drop n text) in
    let total : next.offset + length (encode_utf8_all (drop n text)) ≡ at.offset + length (encode_utf8_all text) = omega (arith, bytes_cut text n) in
    subst (λ (ps : List PlacedPiece). Cover at.offset ps (at.offset + length (encode_utf8_all text))) (sym (pieces_first at text some))
    (refl, omega arith, subst (λ (b : ℕ). Cover next.offset (pieces_from next (drop n text)) b) total (cover_some m next (drop n text) shorter))

unmarked_bytes : (cs : List ℕ) → (beginning cs).offset + length (encode_utf8_all (unmarked cs)) ≡ length (encode_utf8_all cs)
unmarked_bytes [] = omega arith
unmarked_bytes (c ∷ cs) =
    elim (cases_Bool (c == byte_order_mark)) [
      | inl y ↦
          let e : c ≡ byte_order_mark = eqb-true c byte_order_mark y in
          let size = length-append (encode_utf8 c) (encode_utf8_all cs) in
          let three : length (encode_utf8 c) ≡ 3 = length-encode c ∙ rw e refl in
          rw y (omega arith)
      | inr n ↦ rw n (omega arith)
    ]

pub pieces_cover : (bytes : List ℕ) → is_utf8 bytes ≡ true → Cover (beginning (chars bytes)).offset (pieces_of (chars bytes)) (length bytes)
pieces_cover bytes u =
    let cs = chars bytes in
    let whole : length (encode_utf8_all cs) ≡ length bytes = ap length (encodes-chars bytes (IsUtf8-from_is_utf8 bytes u)) in
    let total : (beginning cs).offset + length (encode_utf8_all (unmarked cs)) ≡ length bytes = unmarked_bytes cs ∙ whole in
    subst (λ (b : ℕ). Cover (beginning cs).offset (pieces_of cs) b) total (cover_some (length (unmarked cs)) (beginning cs) (unmarked cs) (omega arith))
