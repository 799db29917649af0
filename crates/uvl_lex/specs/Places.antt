-- Places in a text: how the offset, the physical line and the column go on from character to character. Own to this project.
use Rattle.std.specs.Prelude.{ℕ, ◌+◌, ◌*◌, ◌/◌, ◌==◌, Bool, false, if◌then◌else◌, List, [], ◌∷◌}
use Rattle.std.specs.Char.{len_utf8}
use Rattle.uvl_lex.specs.declared.place.Place.{Place}

abbrev pub tab : ℕ
tab = 9

abbrev pub line_feed : ℕ
line_feed = 10

abbrev pub carriage_return : ℕ
carriage_return = 13

abbrev pub byte_order_mark : ℕ
byte_order_mark = 0xFEFF

-- The column after a character: a line feed begins anew, a tab goes to the next multiple of 8,
-- a carriage return adds nothing, any other character adds 1.
abbrev pub column_after : ℕ → ℕ → ℕ
column_after column c =
    if c == line_feed then 0
    else if c == tab then 8 * (column / 8 + 1)
    else if c == carriage_return then column
    else column + 1

-- the place after a character
abbrev pub after : Place → ℕ → Place
after p c =
    record { offset = p.offset + len_utf8 c; line = (if c == line_feed then p.line + 1 else p.line); column = column_after p.column c }

-- the place after some characters
abbrev pub along : Place → List ℕ → Place
along p [] = p
along p (c ∷ cs) = along (after p c) cs

-- whether the text begins with a byte order mark
abbrev pub is_marked : List ℕ → Bool
is_marked [] = false
is_marked (c ∷ cs) = c == byte_order_mark

-- the characters after a byte order mark at the start
abbrev pub unmarked : List ℕ → List ℕ
unmarked [] = []
unmarked (c ∷ cs) = if c == byte_order_mark then cs else c ∷ cs

-- where these begin: the mark, of three bytes, adds no column
abbrev pub beginning : List ℕ → Place
beginning cs = record { offset = (if is_marked cs then 3 else 0); line = 1; column = 0 }
