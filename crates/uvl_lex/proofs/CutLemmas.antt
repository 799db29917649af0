-- The cut of a text, a piece at a time.
use Rattle.std.proofs.Common.{◌≡◌, ◌≢◌, ℕ, zero, suc, ◌-◌, ◌<◌, nat_lt, nat_le, ◌&&◌, List, [], ◌∷◌, length, take, drop, refl, sym, ◌∙◌, ap, inl, inr, arith}
use Rattle.std.proofs.lemmas.Bool.{cases_Bool, and_parts, ltb-true}
use Rattle.std.proofs.lemmas.List.{length-drop}
use Rattle.uvl_lex.specs.declared.cursor.Cursor.{Cursor}
use Rattle.uvl_lex.specs.declared.piece.Piece.{Piece}
use Rattle.uvl_lex.specs.declared.place.Place.{Place}
use Rattle.uvl_lex.specs.inside.Cursors.{left, IsPieceAt}
use Rattle.uvl_lex.specs.Places.{after, along}
use Rattle.uvl_lex.specs.Pieces.{PlacedPiece, longest, candidates, first_piece, first_placed, pieces_after, pieces_from}

longest_some : (ps : List (Piece × ℕ)) → 0 < (longest ps).1
longest_some [] = omega arith
longest_some (p ∷ ps) =
    elim (cases_Bool (nat_lt 0 p.1 && nat_le (longest ps).1 p.1)) [
      | inl y ↦ rw y (ltb-true 0 p.1 (and_parts (nat_lt 0 p.1) (nat_le (longest ps).1 p.1) y).0)
      | inr n ↦ rw n (longest_some ps)
    ]

-- no piece is empty
pub first_piece_some : (cs : List ℕ) → 0 < (first_piece cs).1
unfolding first_piece
first_piece_some cs = longest_some (candidates cs)

pieces_past : (n : ℕ) (at : Place) (cs : List ℕ) → pieces_after n at cs ≡ pieces_after 0 (along at (take n cs)) (drop n cs)
unfolding pieces_after
pieces_past zero at [] = refl
pieces_past zero at (c ∷ cs) = refl
pieces_past (suc n) at [] = refl
pieces_past (suc n) at (c ∷ cs) = pieces_past n (after at c) cs

-- the pieces after the first one are those of what follows it
pub pieces_first : (at : Place) (cs : List ℕ) → cs ≢ []
    → pieces_from at cs ≡ first_placed at cs ∷ pieces_from (along at (take (first_piece cs).1 cs)) (drop (first_piece cs).1 cs)
unfolding pieces_after
pieces_first at [] h = absurd (h refl)
pieces_first at (c ∷ cs) h =
    let some = first_piece_some (c ∷ cs) in
    let e : (first_piece (c ∷ cs)).1 ≡ suc ((first_piece (c ∷ cs)).1 - 1) = omega arith in
    ap (λ (ps : List PlacedPiece). first_placed at (c ∷ cs) ∷ ps)
    (pieces_past ((first_piece (c ∷ cs)).1 - 1) (after at c) cs
    ∙ ap (λ (n : ℕ). pieces_after 0 (along at (take n (c ∷ cs))) (drop n (c ∷ cs))) (sym e))

pub pieces_next : (k now : Cursor) (what : Piece) → left k ≢ [] → IsPieceAt k what now
    → pieces_from k.place (left k) ≡ record { what = what; from = k.place; upto = now.place } ∷ pieces_from now.place (left now)
pieces_next k now what h p =
    pieces_first k.place (left k) h ∙ rw (p.piece, p.goes_on.place, p.goes_on.rest) refl

has_length : (cs : List ℕ) → cs ≢ [] → 0 < length cs
has_length [] h = absurd (h refl)
has_length (c ∷ cs) h = omega arith

pub fewer_left : (k now : Cursor) (what : Piece) → left k ≢ [] → IsPieceAt k what now → length (left now) < length (left k)
fewer_left k now what h p =
    let some = first_piece_some (left k) in
    let front = has_length (left k) h in
    rw (p.goes_on.rest, length-drop (first_piece (left k)).1 (left k)) (omega arith)

-- at the end of the text there are no pieces
pub pieces_none : (at : Place) (cs : List ℕ) → cs ≡ [] → pieces_from at cs ≡ []
unfolding pieces_after
pieces_none at cs e = rw e refl
