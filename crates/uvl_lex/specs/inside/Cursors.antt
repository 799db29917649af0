-- What a cursor over a text has left, and how it goes on.
use Rattle.std.specs.Prelude.{◌≡◌, ℕ, List, ◌∷◌, take, drop}
use Rattle.std.specs.Str.{chars}
use Rattle.uvl_lex.specs.declared.cursor.Cursor.{Cursor}
use Rattle.uvl_lex.specs.declared.piece.Piece.{Piece}
use Rattle.uvl_lex.specs.Places.{after, along}
use Rattle.uvl_lex.specs.Pieces.{first_piece}

-- the characters that are left
abbrev pub left : Cursor → List ℕ
left cursor = chars cursor.rest.now

-- one character further
pub record StepsOver (before : Cursor) (c : ℕ) (now : Cursor) : Type 0 where
  pub rest : left before ≡ c ∷ left now
  pub place : now.place ≡ after before.place c

-- n characters further
pub record GoesOn (before : Cursor) (n : ℕ) (now : Cursor) : Type 0 where
  pub rest : left now ≡ drop n (left before)
  pub place : now.place ≡ along before.place (take n (left before))

-- the piece at the cursor, and the cursor after it
pub record IsPieceAt (before : Cursor) (what : Piece) (now : Cursor) : Type 0 where
  pub piece : what ≡ (first_piece (left before)).0
  pub goes_on : GoesOn before (first_piece (left before)).1 now
